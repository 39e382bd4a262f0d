use Rattle.std.proofs.Common.{◌≡◌}
use Rattle.std.specs.Prelude.{map}
use Rattle.cluster_record.proofs.EachChanged.{changed_from}
use Rattle.node_core.specs.Nodes.{freed_node}
use Rattle.cluster_nodes.proofs.nodes.free_nodes.Given as goal

-- the nodes from the index on are left to do
abbrev pub invariant-loop-node : goal.invariant-loop-node
invariant-loop-node l = changed_from (freed_node l.seen.entries) l.node-index l.nodes ≡ map (freed_node l.seen.entries) l.initial.nodes
