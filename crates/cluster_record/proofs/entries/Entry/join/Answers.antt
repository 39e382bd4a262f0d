use Rattle.std.proofs.Common.{rules}
use Rattle.cluster_record.proofs.entries.Entry.join.Goals as goal

pub returns-then-adds : goal.returns-then-adds
returns-then-adds c = search rules
