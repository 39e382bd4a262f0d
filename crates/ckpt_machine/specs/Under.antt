-- What a change of the record makes of all that stands under it.
use Rattle.std.specs.Prelude.{ℕ, [], Option, Some, None, ◌==◌, if◌then◌else◌, slice_index}
use Rattle.ckpt_types.specs.Sections.{opening}
use Rattle.cluster_record.specs.declared.entries.Entry.{Entry}
use Rattle.cluster_record.specs.RecordState.{RecordState, entry_of, complete_of}
use Rattle.ckpt_machine.specs.Machine.{Machine, ReplicaState, Snapshot}

-- a replica as a checkpoint's opening makes it
abbrev pub opened_state : Entry → ReplicaState
opened_state e = record { sections = opening e.attributes e.made; effects = []; generation = e.generation; slot = None; marks = None }

-- a node that is not complete has no replica, one that becomes complete has the opening one
abbrev pub replica_under : Option Entry → ℕ → ℕ → Option ReplicaState → Option ReplicaState
replica_under None before r old = None
replica_under (Some e) before r old = if slice_index e.complete r == 0 then None else if before == 0 then Some (opened_state e) else old

-- the replicas after a change of the record
abbrev pub replicas_under : RecordState → RecordState → (ℕ → ℕ → Option ReplicaState) → ℕ → ℕ → Option ReplicaState
replicas_under old new replicas k r = replica_under (entry_of k new.entries) (slice_index (complete_of (entry_of k old.entries)) r) r (replicas k r)

-- a reservation goes with its entry, and when its node is complete
abbrev pub reservation_under : Option Entry → ℕ → Option ℕ → Option ℕ
reservation_under None r old = None
reservation_under (Some e) r old = if slice_index e.complete r == 0 then old else None

-- a snapshot goes with its entry
abbrev pub snapshot_under : Option Entry → Option Snapshot → Option Snapshot
snapshot_under None old = None
snapshot_under (Some e) old = old

-- the record is this, with the replicas, reservations and snapshots under it
abbrev pub with_record : Machine → RecordState → Machine
with_record m R = record m {
  cluster = R;
  replicas = replicas_under m.cluster R m.replicas;
  reserved = λ k r. reservation_under (entry_of k R.entries) r (m.reserved k r);
  snapshots = λ k. snapshot_under (entry_of k R.entries) (m.snapshots k);
}
