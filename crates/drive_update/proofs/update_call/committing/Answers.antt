use Rattle.std.proofs.Common.{rules}
use Rattle.drive_update.proofs.update_call.committing.Goals as goal

pub returns-in_default : goal.returns-in_default
returns-in_default c = search rules
