use Rattle.std.proofs.Common.{rules}
use Rattle.drive_sync.proofs.sync_call.SyncCall.keep.Goals as goal

pub returns-2 : goal.returns-2
returns-2 c = search rules

pub returns-in-Pull-Ok : goal.returns-in-Pull-Ok
returns-in-Pull-Ok c = search rules
