use Rattle.std.proofs.Common.{rules}
use Rattle.cluster_record.proofs.record.unless_another_holds.Goals as goal

pub returns-else-eq : goal.returns-else-eq
returns-else-eq c = search rules
