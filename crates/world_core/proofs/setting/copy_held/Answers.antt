use Rattle.std.proofs.Common.{rules}
use Rattle.world_core.proofs.setting.copy_held.Goals as goal

pub returns-then-is_some : goal.returns-then-is_some
returns-then-is_some c = search rules
