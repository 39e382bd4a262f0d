use Rattle.std.proofs.Common.{rules}
use Rattle.drive_update.proofs.update_call.UpdateCall.has_slot.Goals as goal

pub returns-in-Some : goal.returns-in-Some
returns-in-Some c = search rules
