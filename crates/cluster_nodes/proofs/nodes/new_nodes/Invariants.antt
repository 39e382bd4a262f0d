use Rattle.std.proofs.Common.{◌≡◌}
use Rattle.cluster_nodes.proofs.Numbered.{nodes_from}
use Rattle.cluster_nodes.proofs.nodes.new_nodes.Given as goal

abbrev pub invariant-loop-r : goal.invariant-loop-r
invariant-loop-r l = l.nodes.items ≡ nodes_from l.r
