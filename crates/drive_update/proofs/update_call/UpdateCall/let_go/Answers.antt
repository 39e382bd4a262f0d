use Rattle.std.proofs.Common.{rules}
use Rattle.drive_update.proofs.update_call.UpdateCall.let_go.Goals as goal

pub returns-then-r-gt0 : goal.returns-then-r-gt0
returns-then-r-gt0 c = search rules

pub returns-else-self-r : goal.returns-else-self-r
returns-else-self-r c = search rules
