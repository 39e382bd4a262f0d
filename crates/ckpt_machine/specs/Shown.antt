-- How the replicas of the nodes and the snapshots of calls show those of the machine, with the effects that they have taken.
use Rattle.std.specs.Prelude.{◌≡◌, ℕ, List, length, Option, Some, None, ◌==◌, if◌then◌else◌, slice_index}
use Rattle.ckpt_types.specs.declared.identities.CallId.{CallId}
use Rattle.ckpt_types.specs.declared.attributes.CreationAttributes.{CreationAttributes}
use Rattle.cluster_record.specs.declared.entries.Entry.{Entry}
use Rattle.replica.specs.Replicas.{Replica}
use Rattle.snap_copy.specs.Snapshots.{Snapshot}
use Rattle.stage_slot.specs.Slots.{Slot}
use Rattle.weak_marks.specs.Marks.{Marked}
use Rattle.cluster_record.specs.RecordState.{RecordState, entry_of, complete_of}
use Rattle.ckpt_machine.specs.Nodes.{replica_in}
use Rattle.ckpt_types.specs.Asks.{Ask}
use Rattle.ckpt_machine.specs.Tables.{takes_copy}
use Rattle.ckpt_machine.specs.Machine.{Effect, Staged, ReplicaState}
use Rattle.ckpt_machine.specs.Machine as snapshots
use Rattle.ckpt_machine.specs.After.{reservation_under}
use Rattle.std.specs.Option.{option_map}

-- ---- the replicas

-- a slot as the machine has it, with the call whose update it is
abbrev pub shown_slot : CallId → Option Slot → Option Staged
shown_slot origin None = None
shown_slot origin (Some s) = Some (record { owner = s.owner; origin = origin; update = s.update; moment = s.moment })

-- the code keeps a count in place of the effects, and no origin
abbrev pub shown_replica : List Effect → CallId → Option Replica → Option ReplicaState
shown_replica effects origin None = None
shown_replica effects origin (Some x) =
    Some (record { sections = x.sections; effects = effects; generation = x.generation; slot = shown_slot origin x.slot; marks = x.marks })

-- a replica counts where its node is complete for the checkpoint
abbrev pub where_complete : ℕ → Option Replica → Option Replica
where_complete incarnation x = if incarnation == 0 then None else x

-- the replica that a node has of a checkpoint for which it is complete
abbrev pub complete_replica : RecordState → List (List Replica) → ℕ → ℕ → Option Replica
complete_replica R nodes k r = where_complete (slice_index (complete_of (entry_of k R.entries)) r) (replica_in nodes k r)

-- a replica that stands is a reservation, in the incarnation in which its node is up
abbrev pub shown_reservation : ℕ → Option Replica → Option ℕ
shown_reservation incarnation None = None
shown_reservation incarnation (Some x) = Some incarnation

-- a node has reserved where it has a replica of a checkpoint that is there, for which it is not complete
abbrev pub reserved_in : RecordState → List (List Replica) → ℕ → ℕ → Option ℕ
reserved_in R nodes k r = reservation_under (entry_of k R.entries) r (shown_reservation (slice_index R.up r) (replica_in nodes k r))

-- ---- the snapshots

-- the code keeps a count in place of the effects
abbrev pub shown_snapshot : List Effect → Option Snapshot → Option snapshots.Snapshot
shown_snapshot effects None = None
shown_snapshot effects (Some s) = Some (record { sections = s.sections; effects = effects; generation = s.generation })

-- the snapshot in a hand, once something was pulled into its room
abbrev pub shown_copy : Option (List Effect) → Option Snapshot → Option snapshots.Snapshot
shown_copy None s = None
shown_copy (Some effects) s = shown_snapshot effects s

-- ---- what fits them

-- the replica has the attributes of its checkpoint, where the checkpoint is there
abbrev pub HasAttributes : Option Entry → Replica → Type 0
HasAttributes None x = Unit {0}
HasAttributes (Some e) x = x.attributes ≡ e.attributes

-- what is staged has the count that the replica has, and no marks stand beside it
abbrev pub FitsSlot : ℕ → Option Marked → Option Slot → Type 0
FitsSlot count marks None = Unit {0}
FitsSlot count marks (Some slot) = (slot.count ≡ count) × (marks ≡ None)

-- a complete replica has its checkpoint's number and attributes, counts its effects, and what is staged on it has its count, with no marks beside it
abbrev pub FitsReplica : ℕ → Option Entry → List Effect → Option Replica → Type 0
FitsReplica k e effects None = Unit {0}
FitsReplica k e effects (Some x) = (x.ckpt ≡ k) × HasAttributes e x × (length effects ≡ x.count) × FitsSlot x.count x.marks x.slot

-- a snapshot counts its effects
abbrev pub FitsSnapshot : List Effect → Option Snapshot → Type 0
FitsSnapshot effects None = Unit {0}
FitsSnapshot effects (Some s) = length effects ≡ s.count

-- a call that copies has room for what its checkpoint declared when it began, and no other call has any
abbrev pub IsRoomToCopy : Ask → Option CreationAttributes → Option Snapshot → Type 0
IsRoomToCopy ask declares s = option_map (λ (t : Snapshot). t.attributes) s ≡ (if takes_copy ask then declares else None)

-- what was pulled into it counts its effects
abbrev pub FitsCopy : Option (List Effect) → Option Snapshot → Type 0
FitsCopy None s = Unit {0}
FitsCopy (Some effects) s = FitsSnapshot effects s
