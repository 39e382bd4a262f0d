use Rattle.std.proofs.Common.{rules}
use Rattle.drive_open.proofs.open_call.OpenCall.next.Goals as goal

pub returns-in-Some : goal.returns-in-Some
returns-in-Some c = search rules
