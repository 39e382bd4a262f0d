use Rattle.std.proofs.Common.{rules}
use Rattle.client_calls.proofs.drivers.change_start.Goals as goal

pub returns-then-is_all : goal.returns-then-is_all
returns-then-is_all c = search rules
