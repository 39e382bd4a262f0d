use Rattle.std.proofs.Common.{rules}
use Rattle.drive_active.proofs.active_call.ActiveCall.request.Goals as goal

pub returns-in-Read : goal.returns-in-Read
returns-in-Read c = search rules
