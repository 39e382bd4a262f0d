use Rattle.std.proofs.Common.{rules}
use Rattle.node_core.proofs.node.Node.change.Goals as goal

pub returns-in-Lend-clause-lent : goal.returns-in-Lend-clause-lent
returns-in-Lend-clause-lent c = search rules
