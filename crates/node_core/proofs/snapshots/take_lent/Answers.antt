use Rattle.std.proofs.Common.{rules}
use Rattle.node_core.proofs.snapshots.take_lent.Goals as goal

pub returns : goal.returns
returns c = search rules
