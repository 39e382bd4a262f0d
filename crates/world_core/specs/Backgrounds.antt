-- The background snapshots that the world keeps: of each checkpoint whose updates go to its active alone, the room for one, and what was pulled last.
use Rattle.std.specs.Prelude.{◌≡◌, ℕ, List, [], ◌∷◌, ◌++◌, true, false, Option, Some, None, is_some, if◌then◌else◌, filter, ◌+◌, count_by, ◌≤◌, ◌==◌}
use Rattle.ckpt_types.specs.declared.attributes.CreationAttributes.{CreationAttributes}
use Rattle.ckpt_types.specs.declared.identities.CallId.{CallId}
use Rattle.cluster_record.specs.declared.entries.Entry.{Entry}
use Rattle.cluster_record.specs.Places.{find_key}
use Rattle.cluster_record.specs.RecordState.{entry_of, RecordState}
use Rattle.weak_marks.specs.Marks.{call_of}
use Rattle.snap_copy.specs.Snapshots.{Snapshot}
use Rattle.replica.specs.Replicas.{Replica, pulled_from}
use Rattle.cluster_record.specs.Placement.{is_all}
use Rattle.world_core.specs.declared.snapshots.Background.{Background}
use Rattle.node_msgs.specs.declared.next.RecordStep.{RecordStep}
use Rattle.node_msgs.specs.declared.next.RecordStep.TheVariants as events
use Rattle.ckpt_machine.specs.Drivers.{Driver}
use Rattle.ckpt_machine.specs.Drivers as drivers

-- it is found by its checkpoint
abbrev pub background_key : Background → ℕ
background_key b = b.ckpt

-- what is kept of a checkpoint, if anything is
abbrev pub background_in : List Background → ℕ → Option Background
background_in backgrounds k = find_key background_key k backgrounds

-- before the first pull it is room alone
abbrev pub where_pulled : Option Background → Option Snapshot
where_pulled None = None
where_pulled (Some b) = if b.pulled then Some b.snap else None

-- what was pulled last of a checkpoint, if anything was
abbrev pub pulled_in : List Background → ℕ → Option Snapshot
pulled_in backgrounds k = where_pulled (background_in backgrounds k)

-- ---- what becomes of them

-- the room for a snapshot of a checkpoint with these attributes
abbrev pub snapshot_room : ℕ → CreationAttributes → Background
snapshot_room k a = record { ckpt = k; snap = record { attributes = a; sections = []; generation = 0; count = 0 }; pulled = false }

-- with the room for one of a checkpoint that is to be made, unless its updates are on all replicas
abbrev pub with_room_for : ℕ → CreationAttributes → List Background → List Background
with_room_for k a backgrounds = if is_all a then backgrounds else backgrounds ++ snapshot_room k a ∷ []

-- with the room for the snapshot of a checkpoint that is to be made, where attributes are given
abbrev pub with_room_asked : ℕ → Option CreationAttributes → List Background → List Background
with_room_asked k None backgrounds = backgrounds
with_room_asked k (Some a) backgrounds = with_room_for k a backgrounds

-- what the background snapshots become by it: a creation takes the room for the one of its checkpoint
abbrev pub snapshots_behind : Driver → RecordStep → RecordState → List Background → List Background
snapshots_behind (drivers.Open o) events.Create R backgrounds = with_room_asked (R.last_identity + 1) o.ask.attrs backgrounds
snapshots_behind driver step R backgrounds = backgrounds

-- those of checkpoints that have an entry
abbrev pub backgrounds_left : List Entry → List Background → List Background
backgrounds_left entries backgrounds = filter (λ (b : Background). is_some (entry_of b.ckpt entries)) backgrounds

-- one that a replica is pulled into, unless marks hold it off
abbrev pub filled_unless : Option CallId → Replica → Background → Background
filled_unless (Some holder) x b = b
filled_unless None x b = record b { snap = pulled_from x b.snap; pulled = true }

-- by what stands on the replica
abbrev pub filled_from : Replica → Background → Background
filled_from x b = filled_unless (call_of x.marks) x b

-- ---- what they are kept for

-- a checkpoint that is there has room for a snapshot, for what it declares, just where its updates go to the active alone; one that is gone has none
abbrev pub HasRoom : Option Entry → Option Background → Type 0
HasRoom None b = b ≡ None
HasRoom (Some e) None = is_all e.attributes ≡ true
HasRoom (Some e) (Some b) = (is_all e.attributes ≡ false) × (b.snap.attributes ≡ e.attributes)

-- so it is where the checkpoint is there
abbrev pub HasRoomWhere : Option Entry → Option Background → Type 0
HasRoomWhere None b = Unit {0}
HasRoomWhere (Some e) b = HasRoom (Some e) b

-- none has two
abbrev pub StandOnce : List Background → Type 0
StandOnce backgrounds = (k : ℕ) → count_by (λ (b : Background). b.ckpt == k) backgrounds ≤ 1

-- so it is of each checkpoint
pub record HaveRooms (entries : List Entry) (backgrounds : List Background) : Type 0 where
  pub each : (k : ℕ) → HasRoom (entry_of k entries) (background_in backgrounds k)
  pub once : StandOnce backgrounds

-- so it is of each that is there, where those of others are not freed yet
pub record HaveRoomsWhere (entries : List Entry) (backgrounds : List Background) : Type 0 where
  pub each : (k : ℕ) → HasRoomWhere (entry_of k entries) (background_in backgrounds k)
  pub once : StandOnce backgrounds
