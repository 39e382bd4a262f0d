use Rattle.std.proofs.Common.{rules}
use Rattle.drive_sync.proofs.sync_call.SyncCall.setting_end.Goals as goal

pub returns-else-is_own : goal.returns-else-is_own
returns-else-is_own c = search rules
