-- What the nodes hold: replicas of checkpoints that stand, at most one of each, and nothing else.
use Rattle.std.specs.Prelude.{◌≡◌, ◌⊎◌, ℕ, ◌≤◌, List, IsSome, IsSomeAnd, Contains, count_by, true, ◌==◌, slice_get, slice_index}
use Rattle.cluster_record.specs.declared.entries.Entry.{Entry}
use Rattle.cluster_record.specs.DueCopy.{lacks_replica}
use Rattle.cluster_record.specs.Places.{list_or}
use Rattle.cluster_record.specs.RecordState.{RecordState, entry_of, is_up}
use Rattle.replica.specs.Replicas.{Replica, opened_replica}

-- the replicas on a node
abbrev pub replicas_on : List (List Replica) → ℕ → List Replica
replicas_on nodes r = list_or (slice_get nodes r)

-- a replica on this node is awaited: the checkpoint is in the making, or the node lacks it
abbrev pub IsAwaited : ℕ → Entry → Type 0
IsAwaited r e = IsSome e.making ⊎ (lacks_replica r e ≡ true)

-- it is awaited, the node is not complete for the checkpoint yet, and its replica is as a reservation makes it
pub record IsReservation (e : Entry) (r : ℕ) (x : Replica) : Type 0 where
  pub awaited : IsAwaited r e
  pub not_complete : slice_index e.complete r ≡ 0
  pub opening : x ≡ opened_replica x.ckpt e.attributes e.made

-- the node is up, and the replica is of a checkpoint that stands: the node is complete for that in its present incarnation, or has reserved in it
pub record IsHeld (R : RecordState) (r : ℕ) (x : Replica) : Type 0 where
  pub up : is_up r R ≡ true
  pub stands : IsSomeAnd (entry_of x.ckpt R.entries) (λ e. (slice_index e.complete r ≡ slice_index R.up r) ⊎ IsReservation e r x)

-- each replica on each node is so, and no node has two of one checkpoint
pub record HoldsOnlyWhatStands (R : RecordState) (nodes : List (List Replica)) : Type 0 where
  pub each : (r : ℕ) (x : Replica) → Contains (replicas_on nodes r) x → IsHeld R r x
  pub once : (r k : ℕ) → count_by (λ (x : Replica). x.ckpt == k) (replicas_on nodes r) ≤ 1
