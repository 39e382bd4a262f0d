use Rattle.std.proofs.lemmas.Grind.{common_steps}
use Rattle.std.proofs.Common.{arith}
use Rattle.cluster_record.proofs.entries.Entry.fail.Goals as goal

pub returns-else-is_active : goal.returns-else-is_active
returns-else-is_active c = grind (arith, common_steps)
