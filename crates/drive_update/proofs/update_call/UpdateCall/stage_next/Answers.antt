use Rattle.std.proofs.Common.{rules}
use Rattle.drive_update.proofs.update_call.UpdateCall.stage_next.Goals as goal

pub returns-clause-next : goal.returns-clause-next
returns-clause-next c = search rules
