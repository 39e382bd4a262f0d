use Rattle.std.proofs.Common.{rules}
use Rattle.snap_copy.proofs.snap.Snap.copy.Goals as goal

pub returns : goal.returns
returns c = search rules
