use Rattle.std.proofs.Common.{rules}
use Rattle.drive_active.proofs.active_call.ActiveCall.keep.Goals as goal

pub returns-in-Mark : goal.returns-in-Mark
returns-in-Mark c = search rules

pub returns-in-Element : goal.returns-in-Element
returns-in-Element c = search rules
