use Rattle.std.proofs.Common.{rules}
use Rattle.drive_active.proofs.active_call.ActiveCall.is_update.Goals as goal

pub returns-in_default : goal.returns-in_default
returns-in_default c = search rules
