use Rattle.std.proofs.Common.{rules}
use Rattle.drive_open.proofs.open_call.entry_next.Goals as goal

pub returns-then-not-room : goal.returns-then-not-room
returns-then-not-room c = search rules

pub returns-else-not-room : goal.returns-else-not-room
returns-else-not-room c = search rules
