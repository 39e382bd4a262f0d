use Rattle.std.proofs.Common.{rules}
use Rattle.drive_sync.proofs.sync_call.SyncCall.unless_stale.Goals as goal

pub returns-then-pulled-entry : goal.returns-then-pulled-entry
returns-then-pulled-entry c = search rules

pub returns-in-None : goal.returns-in-None
returns-in-None c = search rules

pub returns-in-Some-first_unserved : goal.returns-in-Some-first_unserved
returns-in-Some-first_unserved c = search rules
