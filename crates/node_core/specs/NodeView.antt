-- How a node shows itself.
use Rattle.node_core.specs.Nodes.{NodeState}
use Rattle.node_core.specs.declared.node.Node.TheInside.{Inside}

-- a node as contracts see it
abbrev pub node_shown : Inside → NodeState
node_shown n = record { number = n.number; replicas = n.replicas.items }
