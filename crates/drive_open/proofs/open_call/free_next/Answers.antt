use Rattle.std.proofs.Common.{rules}
use Rattle.drive_open.proofs.open_call.free_next.Goals as goal

pub returns-in-None : goal.returns-in-None
returns-in-None c = search rules
