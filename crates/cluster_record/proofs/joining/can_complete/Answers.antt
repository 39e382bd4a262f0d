use Rattle.std.proofs.Common.{rules}
use Rattle.cluster_record.proofs.joining.can_complete.Goals as goal

pub returns-then-incarnation-ne0 : goal.returns-then-incarnation-ne0
returns-then-incarnation-ne0 c = search rules
