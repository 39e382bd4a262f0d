use Rattle.std.proofs.Common.{ℕ, List, sym, ap, subst, ◌∙◌}
use Rattle.replica.specs.Replicas.{Replica}
use Rattle.node_core.specs.Failing.{HoldsEachOnce}
use Rattle.ckpt_machine.specs.Holding.{replicas_on}
use Rattle.ckpt_machine.specs.Nodes.{nodes_shown}
use Rattle.cluster_nodes.proofs.nodes.Nodes.fail.Goals as goal

pub fail_nodes-requires-clause-once : goal.fail_nodes-requires-clause-once
fail_nodes-requires-clause-once c = subst (λ (nodes : List (List Replica)). (r : ℕ) → HoldsEachOnce (replicas_on nodes r)) (sym (ap nodes_shown c.as_mut_slice.ensures.value ∙ c.self.view_is)) c.requires
