use Rattle.std.proofs.lemmas.Grind.{elements}
use Rattle.std.proofs.Common.{arith}
use Rattle.snap_copy.proofs.snap.SnapSections.at.Goals as goal

pub returns : goal.returns
returns c = grind (arith, elements)
