use Rattle.std.proofs.Common.{rules}
use Rattle.drive_active.proofs.active_call.ActiveCall.weak_request.Goals as goal

pub returns-else-marks-eq0 : goal.returns-else-marks-eq0
returns-else-marks-eq0 c = search rules
