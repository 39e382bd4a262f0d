use Rattle.std.proofs.Common.{rules}
use Rattle.drive_active.proofs.active_call.element_taken.Goals as goal

pub returns-in-Some : goal.returns-in-Some
returns-in-Some c = search rules
