-- A node's part of a step of the record.
use Rattle.std.specs.Prelude.{◌≡◌, ℕ, ◌-◌, ◌^◌, ◌<◌, List, [], ◌∷◌, ◌++◌, Option, Some, None, IsOk, IsSomeAnd, not, ◌==◌, filter, ℤ}
use Rattle.ckpt_types.specs.Sections.{Fits}
use Rattle.node_msgs.specs.declared.changes.NodeChange.{NodeChange}
use Rattle.node_msgs.specs.declared.changes.NodeChange.TheVariants as changes
use Rattle.cluster_record.specs.Places.{find_key, change_key}
use Rattle.cluster_record.specs.RecordState.{RecordState}
use Rattle.replica.specs.Replicas.{Replica, opened_replica, staged, abandoned, outcome_on, pulled_from, taken_from}
use Rattle.snap_copy.specs.Snapshots.{Snapshot}
use Rattle.node_core.specs.declared.lent.Lent.{Lent}
use Rattle.node_core.specs.Fitting.{MayBeMade, TakesSnapshot}
use Rattle.node_core.specs.Nodes.{NodeState, replica_key, seen_from}
use Rattle.node_core.specs.Payloads.{Payload}
use Rattle.node_core.specs.Seen.{EntrySeen, RecordSeen}

-- ---- what it sees of the record

-- the checkpoint that a change is about; where all replicas go, it is about none
abbrev pub ckpt_of_change : NodeChange → Option ℕ
ckpt_of_change (changes.Add k generation) = Some k
ckpt_of_change (changes.Lend k) = Some k
ckpt_of_change (changes.Take k generation) = Some k
ckpt_of_change (changes.Stage call k t) = Some k
ckpt_of_change (changes.Lead k generation) = Some k
ckpt_of_change (changes.Break k) = Some k
ckpt_of_change (changes.Drop k) = Some k
ckpt_of_change changes.Clear = None

-- what a step at the node sees of the record that is about a checkpoint or about none: without one, the moment alone
abbrev pub seen_of_any : RecordState → NodeState → Option ℕ → RecordSeen
seen_of_any R n None = record { moment = R.moment; entry = None }
seen_of_any R n (Some k) = seen_from R n k

-- what a change at the node sees of it
abbrev pub seen_for_change : RecordState → NodeState → NodeChange → RecordSeen
seen_for_change R n change = seen_of_any R n (ckpt_of_change change)

-- ---- what it makes of the replicas

-- the replica of a checkpoint that is there, as it was made, with this generation
abbrev pub added_for : Option EntrySeen → ℕ → ℕ → List Replica → List Replica
added_for None k generation xs = xs
added_for (Some e) k generation xs = xs ++ record (opened_replica k e.attributes e.made) { generation = generation } ∷ []

-- a replica that has taken over the sections and the count of a snapshot, with this generation
abbrev pub taken_over : ℕ → Snapshot → Replica → Replica
taken_over generation s x = record (taken_from s x) { generation = generation }

-- the same of a snapshot that is lent; without one the replica stays as it was
abbrev pub taken_lent : ℕ → Option Snapshot → Replica → Replica
taken_lent generation None x = x
taken_lent generation (Some s) x = taken_over generation s x

-- the replicas behind a change; one that is lent stays as it was
abbrev pub replicas_changed : RecordSeen → NodeChange → Payload → List Replica → List Replica
replicas_changed seen (changes.Add k generation) p xs = added_for seen.entry k generation xs
replicas_changed seen (changes.Lend k) p xs = xs
replicas_changed seen (changes.Take k generation) p xs = change_key replica_key k (taken_lent generation p.snapshot) xs
replicas_changed seen (changes.Stage call k t) p xs = change_key replica_key k (staged call p.update t) xs
replicas_changed seen (changes.Lead k generation) p xs = change_key replica_key k (λ x. record x { generation = generation }) xs
replicas_changed seen (changes.Break k) p xs = change_key replica_key k (λ x. abandoned x x.marks) xs
replicas_changed seen (changes.Drop k) p xs = filter (λ x. not (x.ckpt == k)) xs
replicas_changed seen changes.Clear p xs = []

-- the node after it
abbrev pub changed_node : RecordSeen → NodeChange → Payload → NodeState → NodeState
changed_node seen change p n = record n { replicas = replicas_changed seen change p n.replicas }

-- the change adds a replica
abbrev pub IsAddition : NodeChange → Type 0
IsAddition (changes.Add k generation) = Unit {0}
IsAddition change = ⊥

-- ---- what it makes of what is lent

-- a snapshot has what this replica has
abbrev pub filled_by : Option Replica → Option Snapshot → Option Snapshot
filled_by None s = s
filled_by (Some x) None = None
filled_by (Some x) (Some s) = Some (pulled_from x s)

-- what is lent behind a change: the replica that is lent stands in the snapshot, the update that is staged is used up, and all else stays
abbrev pub lent_behind : NodeChange → List Replica → Lent → Lent
lent_behind (changes.Lend k) xs lent = record lent { snap = filled_by (find_key replica_key k xs) lent.snap }
lent_behind (changes.Stage call k t) xs lent = record lent { update = None }
lent_behind change xs lent = lent

-- ---- when it may come

-- a replica can be staged on without a refusal
pub record TakesStage (lent : Lent) (t : ℤ) (x : Replica) : Type 0 where
  pub free : x.slot ≡ None
  pub unmarked : x.marks ≡ None
  pub room : x.count < 2 ^ 64 - 1
  pub fits : IsSomeAnd lent.update (λ update. IsOk (outcome_on x update t))

-- a replica can be lent: no marks stand on it, and the snapshot that is lent has room for its sections
pub record LendsInto (lent : Lent) (x : Replica) : Type 0 where
  pub unmarked : x.marks ≡ None
  pub room : IsSomeAnd lent.snap (λ s. Fits s.attributes x.sections)

-- a replica can take over the snapshot that is lent
abbrev pub TakesLent : Lent → Replica → Type 0
TakesLent lent x = IsSomeAnd lent.snap (λ s. TakesSnapshot s x)

-- an addition is of a checkpoint of which a replica may be made, and the node has none; a lend, a take and a stage are of a replica that the node has:
-- one that can be lent, that can take over what is lent, or that refuses nothing; all else may come always
abbrev pub ChangeFits : RecordSeen → NodeState → NodeChange → Lent → Type 0
ChangeFits seen n (changes.Add k generation) lent = MayBeMade seen.entry × (find_key replica_key k n.replicas ≡ None)
ChangeFits seen n (changes.Lend k) lent = IsSomeAnd (find_key replica_key k n.replicas) (LendsInto lent)
ChangeFits seen n (changes.Take k generation) lent = IsSomeAnd (find_key replica_key k n.replicas) (TakesLent lent)
ChangeFits seen n (changes.Stage call k t) lent = IsSomeAnd (find_key replica_key k n.replicas) (TakesStage lent t)
ChangeFits seen n (changes.Lead k generation) lent = Unit {0}
ChangeFits seen n (changes.Break k) lent = Unit {0}
ChangeFits seen n (changes.Drop k) lent = Unit {0}
ChangeFits seen n changes.Clear lent = Unit {0}
