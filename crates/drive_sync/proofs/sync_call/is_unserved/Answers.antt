use Rattle.std.proofs.Common.{rules}
use Rattle.drive_sync.proofs.sync_call.is_unserved.Goals as goal

pub returns-then-incarnation-ne0 : goal.returns-then-incarnation-ne0
returns-then-incarnation-ne0 c = search rules
