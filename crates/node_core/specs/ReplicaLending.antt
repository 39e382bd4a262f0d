-- What is left of a node where one of its replicas is lent.
use Rattle.std.specs.Prelude.{◌≡◌, ℕ, ◌<◌, List, length, slice_get, slice_set}
use Rattle.std.specs.Borrow.{Lends, MutBor, Fml}
use Rattle.cluster_record.specs.Places.{find_key, change_key}
use Rattle.replica.specs.Replicas.{Replica}
use Rattle.replica.specs.contracts.replica.Replica.{the_row as replica_row}
use Rattle.node_core.specs.contracts.node.Node.{the_row}
use Rattle.node_core.specs.Nodes.{NodeState, replica_key}

-- the place has the replica of a checkpoint, and to set it is to put another there
pub record IsPlaceOf (k : ℕ) (xs : List Replica) (place : ℕ) : Type 0 where
  pub within : place < length xs
  pub there : find_key replica_key k xs ≡ slice_get xs place
  pub set : (x : Replica) → change_key replica_key k (λ z. x) xs ≡ slice_set xs place x

-- the node ends with the replica of a checkpoint set to what is left in it
abbrev pub LendsReplica : MutBor NodeState → ℕ → MutBor Replica → Fml
LendsReplica node k x = Lends the_row replica_row node x (λ y. record node.now { replicas = change_key replica_key k (λ z. y) node.now.replicas })
