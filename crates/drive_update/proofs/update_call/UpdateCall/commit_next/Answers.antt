use Rattle.std.proofs.Common.{rules}
use Rattle.drive_update.proofs.update_call.UpdateCall.commit_next.Goals as goal

pub returns-in-None-clause-next : goal.returns-in-None-clause-next
returns-in-None-clause-next c = search rules

pub returns-in-Some-clause-next : goal.returns-in-Some-clause-next
returns-in-Some-clause-next c = search rules
