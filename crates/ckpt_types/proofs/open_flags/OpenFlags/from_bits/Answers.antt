use Rattle.std.proofs.Common.{rules}
use Rattle.ckpt_types.proofs.open_flags.OpenFlags.from_bits.Goals as goal

pub returns : goal.returns
returns c = search rules
