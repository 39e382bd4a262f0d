use Rattle.std.proofs.Common.{◌≡◌, length, take, vec_capacity}
use Rattle.cluster_nodes.proofs.nodes.copy_nodes.Given as goal

abbrev pub invariant-loop-node : goal.invariant-loop-node
invariant-loop-node l = record { copied : l.copies.items ≡ take l.node-index l.nodes; room : vec_capacity l.copies ≡ length l.nodes }
