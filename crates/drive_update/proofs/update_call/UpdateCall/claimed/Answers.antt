use Rattle.std.proofs.Common.{rules}
use Rattle.drive_update.proofs.update_call.UpdateCall.claimed.Goals as goal

pub returns : goal.returns
returns c = search rules
