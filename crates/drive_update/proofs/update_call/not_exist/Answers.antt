use Rattle.std.proofs.Common.{rules}
use Rattle.drive_update.proofs.update_call.not_exist.Goals as goal

pub returns : goal.returns
returns c = search rules
