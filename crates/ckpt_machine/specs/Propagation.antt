-- A snapshot of the active of a checkpoint, and what it brings to another replica.
use Rattle.std.specs.Prelude.{ℕ, length, Option, Some, None, is_some, Bool, not, ◌||◌, ◌==◌, if◌then◌else◌}
use Rattle.ckpt_types.specs.declared.identities.CallId.{CallId}
use Rattle.weak_marks.specs.Marks.{call_of}
use Rattle.run_labels.specs.declared.labels.PullReply.{PullReply}
use Rattle.run_labels.specs.declared.labels.PullReply.TheVariants as pulls
use Rattle.run_labels.specs.declared.labels.PutReply.{PutReply}
use Rattle.run_labels.specs.declared.labels.PutReply.TheVariants as puts
use Rattle.cluster_record.specs.declared.entries.Entry.{Entry}
use Rattle.cluster_record.specs.Places.{put, put2}
use Rattle.cluster_record.specs.RecordState.{entry_of}
use Rattle.cluster_record.specs.StepDone.{generation_in}
use Rattle.ckpt_machine.specs.Machine.{Machine, ReplicaState, Snapshot}
use Rattle.ckpt_machine.specs.Listing.{is_active}
use Rattle.cluster_record.specs.Placement.{is_all}
use Rattle.replica.specs.Replicas.{is_earlier}

-- ---- a pull

-- the active of a checkpoint that is made, and whose updates go to the active alone
abbrev pub source_of : Option Entry → Option ℕ
source_of None = None
source_of (Some e) = if is_some e.making || is_all e.attributes then None else e.active

-- the replica of a node, where one is meant
abbrev pub on_node : {A : Type 0} → (ℕ → Option A) → Option ℕ → Option A
on_node replicas None = None
on_node replicas (Some r) = replicas r

-- the replica that a pull takes a snapshot of
abbrev pub source_at : Machine → ℕ → Option ReplicaState
source_at m k = on_node (m.replicas k) (source_of (entry_of k m.cluster.entries))

-- marks hold a pull off; else it tells the count
abbrev pub pull_unless : Option CallId → ℕ → PullReply
pull_unless (Some holder) count = pulls.Held holder
pull_unless None count = pulls.Ok count

-- what a pull answers of a replica
abbrev pub pull_reply : Option ReplicaState → PullReply
pull_reply None = pulls.Nothing
pull_reply (Some x) = pull_unless (call_of x.marks) (length x.effects)

-- what a pull of a checkpoint answers
abbrev pub pull_answer : Machine → ℕ → PullReply
pull_answer m k = pull_reply (source_at m k)

-- a copy of a replica
abbrev pub copied : ReplicaState → Snapshot
copied x = record { sections = x.sections; effects = x.effects; generation = x.generation }

-- the background snapshot of a checkpoint is that of this replica, where the pull was done
abbrev pub with_pulled : Machine → ℕ → PullReply → Option ReplicaState → Machine
with_pulled m k (pulls.Ok count) (Some x) = record m { snapshots = put m.snapshots k (Some (copied x)) }
with_pulled m k reply x = m

-- ---- a put

-- the replica of a node on which a put may be: its checkpoint's updates go to the active alone, and it is another than the active's
abbrev pub target_of : {A : Type 0} → Option Entry → ℕ → Option A → Option A
target_of None r x = None
target_of (Some e) r x = if is_all e.attributes || is_active e.active r then None else x

-- that of the node, in a state
abbrev pub target_at : Machine → ℕ → ℕ → Option ReplicaState
target_at m k r = target_of (entry_of k m.cluster.entries) r (m.replicas k r)

-- the replica is behind the snapshot, counted by their effects
abbrev pub is_behind : ReplicaState → Snapshot → Bool
is_behind x s = is_earlier x.generation (length x.effects) s.generation (length s.effects)

-- a snapshot of another generation than the present one is stale; else a replica takes it that is older
abbrev pub put_onto : ℕ → Snapshot → ReplicaState → PutReply
put_onto present s x =
    if not (s.generation == present) then puts.Stale s.generation present
    else if is_behind x s then puts.Ok (length s.effects)
    else puts.Old x.generation (length x.effects)

-- what a put of this snapshot answers at this replica, of a checkpoint of the present generation
abbrev pub put_reply : ℕ → Option Snapshot → Option ReplicaState → PutReply
put_reply present None x = puts.Nothing
put_reply present (Some s) None = puts.Nothing
put_reply present (Some s) (Some x) = put_onto present s x

-- what a put of a checkpoint answers at a node
abbrev pub put_answer : Machine → ℕ → ℕ → PutReply
put_answer m k r = put_reply (generation_in (entry_of k m.cluster.entries)) (m.snapshots k) (target_at m k r)

-- a replica that has what a snapshot has
abbrev pub replica_from : Snapshot → ReplicaState → ReplicaState
replica_from s x = record x { sections = s.sections; effects = s.effects; generation = s.generation }

-- the replica of a node has it, where the put was done
abbrev pub with_put : Machine → ℕ → ℕ → PutReply → Option Snapshot → Option ReplicaState → Machine
with_put m k r (puts.Ok count) (Some s) (Some x) = record m { replicas = put2 m.replicas k r (Some (replica_from s x)) }
with_put m k r reply s x = m
