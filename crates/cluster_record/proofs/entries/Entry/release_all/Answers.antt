use Rattle.std.proofs.Common.{rules}
use Rattle.cluster_record.proofs.entries.Entry.release_all.Goals as goal

pub returns-then-count_at-ne0 : goal.returns-then-count_at-ne0
returns-then-count_at-ne0 c = search rules
