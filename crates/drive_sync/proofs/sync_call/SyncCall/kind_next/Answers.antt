use Rattle.std.proofs.Common.{rules}
use Rattle.drive_sync.proofs.sync_call.SyncCall.kind_next.Goals as goal

pub returns-in-Some : goal.returns-in-Some
returns-in-Some c = search rules
