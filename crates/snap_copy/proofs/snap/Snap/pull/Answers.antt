use Rattle.std.proofs.Common.{rules}
use Rattle.snap_copy.proofs.snap.Snap.pull.Goals as goal

pub returns : goal.returns
returns g c = search rules
