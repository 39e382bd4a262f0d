use Rattle.std.proofs.Common.{rules}
use Rattle.node_core.proofs.reserving.reserve_in.Goals as goal

pub returns-then-is_reserved-clause-reply : goal.returns-then-is_reserved-clause-reply
returns-then-is_reserved-clause-reply c = search rules
