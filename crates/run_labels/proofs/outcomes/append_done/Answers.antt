use Rattle.std.proofs.lemmas.Grind.{common_steps}
use Rattle.std.proofs.Common.{arith}
use Rattle.run_labels.proofs.outcomes.append_done.Goals as goal

pub returns-in-Write : goal.returns-in-Write
returns-in-Write c = grind (arith, common_steps)
