-- What is left of the nodes where the replica of a checkpoint on one of them is lent.
use Rattle.std.specs.Prelude.{ℕ, List}
use Rattle.std.specs.Borrow.{Lends, MutBor, Fml}
use Rattle.replica.specs.Replicas.{Replica}
use Rattle.replica.specs.contracts.replica.Replica.{the_row as replica_row}
use Rattle.cluster_nodes.specs.contracts.nodes.Nodes.{the_row}
use Rattle.ckpt_machine.specs.Nodes.{with_changed}

-- the nodes end with the replica of a checkpoint on one of them set to what is left in it
abbrev pub LendsReplica : MutBor (List (List Replica)) → ℕ → ℕ → MutBor Replica → Fml
LendsReplica nodes r k x = Lends the_row replica_row nodes x (λ y. with_changed k r (λ z. y) nodes.now)
