use Rattle.std.proofs.Common.{rules}
use Rattle.drive_open.proofs.open_call.OpenCall.found.Goals as goal

pub returns-in-Some-making : goal.returns-in-Some-making
returns-in-Some-making c = search rules
