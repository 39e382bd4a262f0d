use Rattle.std.proofs.Common.{rules}
use Rattle.cluster_record.proofs.entries.first_active.Goals as goal

pub returns-else-is_collocated : goal.returns-else-is_collocated
returns-else-is_collocated c = search rules
