use Rattle.std.proofs.Common.{rules}
use Rattle.ckpt_types.proofs.bytes.name_fits.Goals as goal

pub returns-then-len-ge1 : goal.returns-then-len-ge1
returns-then-len-ge1 c = search rules
