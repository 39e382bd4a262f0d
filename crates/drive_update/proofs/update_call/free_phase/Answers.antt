use Rattle.std.proofs.Common.{rules}
use Rattle.drive_update.proofs.update_call.free_phase.Goals as goal

pub returns-in-Claimed-true : goal.returns-in-Claimed-true
returns-in-Claimed-true c = search rules

pub returns-in-Claimed-false : goal.returns-in-Claimed-false
returns-in-Claimed-false c = search rules
