use Rattle.std.proofs.Common.{rules}
use Rattle.drive_active.proofs.active_call.end_of_done.Goals as goal

pub returns-in_default : goal.returns-in_default
returns-in_default c = search rules

pub returns-in-Mark : goal.returns-in-Mark
returns-in-Mark c = search rules

pub returns-in-Mark-2 : goal.returns-in-Mark-2
returns-in-Mark-2 c = search rules
