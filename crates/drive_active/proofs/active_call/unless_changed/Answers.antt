use Rattle.std.proofs.Common.{rules}
use Rattle.drive_active.proofs.active_call.unless_changed.Goals as goal

pub returns-then-marks-generation : goal.returns-then-marks-generation
returns-then-marks-generation c = search rules
