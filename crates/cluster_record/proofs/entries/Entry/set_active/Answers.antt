use Rattle.std.proofs.Common.{rules}
use Rattle.cluster_record.proofs.entries.Entry.set_active.Goals as goal

pub returns : goal.returns
returns c = search rules
