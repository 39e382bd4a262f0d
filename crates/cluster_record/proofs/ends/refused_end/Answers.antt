use Rattle.std.proofs.Common.{rules}
use Rattle.cluster_record.proofs.ends.refused_end.Goals as goal

pub returns-else-live : goal.returns-else-live
returns-else-live c = search rules
