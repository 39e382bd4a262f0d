use Rattle.std.proofs.Common.{◌≡◌, drop, All}
use Rattle.std.specs.Prelude.{map}
use Rattle.node_core.specs.Failing.{node_left, HoldsEachOnce}
use Rattle.node_core.specs.Nodes.{NodeState}
use Rattle.cluster_record.proofs.EachChanged.{changed_from}
use Rattle.cluster_nodes.proofs.nodes.fail_nodes.Given as goal

-- the nodes from the index on are left to do, and hold each checkpoint once
abbrev pub invariant-loop-node : goal.invariant-loop-node
invariant-loop-node l = record {
  left : changed_from (node_left l.seen l.failed) l.node-index l.nodes ≡ map (node_left l.seen l.failed) l.initial.nodes;
  once : All (λ (n : NodeState). HoldsEachOnce n.replicas) (drop l.node-index l.nodes);
}
