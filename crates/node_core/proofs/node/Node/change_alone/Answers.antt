use Rattle.std.proofs.Common.{rules}
use Rattle.node_core.proofs.node.Node.change_alone.Goals as goal

pub returns-in-Clear : goal.returns-in-Clear
returns-in-Clear c = search rules
