use Rattle.std.proofs.Common.{rules}
use Rattle.drive_active.proofs.active_call.ActiveCall.active_next.Goals as goal

pub returns : goal.returns
returns c = search rules

pub returns-then-not-room : goal.returns-then-not-room
returns-then-not-room c = search rules
