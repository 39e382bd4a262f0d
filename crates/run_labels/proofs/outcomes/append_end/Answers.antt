use Rattle.std.proofs.Common.{rules}
use Rattle.run_labels.proofs.outcomes.append_end.Goals as goal

pub returns-in-Some : goal.returns-in-Some
returns-in-Some c = search rules
