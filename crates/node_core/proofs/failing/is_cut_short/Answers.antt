use Rattle.std.proofs.Common.{rules}
use Rattle.node_core.proofs.failing.is_cut_short.Goals as goal

pub returns-in-Some : goal.returns-in-Some
returns-in-Some c = search rules
