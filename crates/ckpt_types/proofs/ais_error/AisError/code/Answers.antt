use Rattle.std.proofs.Common.{rules}
use Rattle.ckpt_types.proofs.ais_error.AisError.code.Goals as goal

pub returns-in-NoSpace : goal.returns-in-NoSpace
returns-in-NoSpace c = search rules
