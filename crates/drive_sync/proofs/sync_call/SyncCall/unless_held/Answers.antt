use Rattle.std.proofs.Common.{rules}
use Rattle.drive_sync.proofs.sync_call.SyncCall.unless_held.Goals as goal

pub returns : goal.returns
returns c = search rules
