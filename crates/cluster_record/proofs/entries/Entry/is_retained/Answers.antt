use Rattle.std.proofs.Common.{rules}
use Rattle.cluster_record.proofs.entries.Entry.is_retained.Goals as goal

pub returns-then-is_some : goal.returns-then-is_some
returns-then-is_some c = search rules
