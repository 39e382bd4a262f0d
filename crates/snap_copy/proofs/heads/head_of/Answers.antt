use Rattle.std.proofs.Common.{rules}
use Rattle.snap_copy.proofs.heads.head_of.Goals as goal

pub returns : goal.returns
returns c = search rules
