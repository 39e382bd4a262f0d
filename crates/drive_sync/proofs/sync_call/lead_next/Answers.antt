use Rattle.std.proofs.Common.{rules}
use Rattle.drive_sync.proofs.sync_call.lead_next.Goals as goal

pub returns-then-r-local : goal.returns-then-r-local
returns-then-r-local c = search rules
