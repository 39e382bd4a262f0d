-- What the code sees of a replica and of a snapshot of the machine.
use Rattle.std.specs.Prelude.{ℕ, length, Option, Some, None}
use Rattle.ckpt_types.specs.declared.attributes.CreationAttributes.{CreationAttributes}
use Rattle.cluster_record.specs.declared.entries.Entry.{Entry}
use Rattle.replica.specs.Replicas.{Replica}
use Rattle.stage_slot.specs.Slots.{Slot}
use Rattle.cluster_record.specs.RecordState.{entry_of}
use Rattle.ckpt_machine.specs.Machine.{Machine, Staged, ReplicaState, Snapshot}
use Rattle.snap_copy.specs.Snapshots as copies

-- a slot as the node has it, which does not know whose update it is, with the number of updates that the replica had when it was staged
abbrev pub seen_slot : ℕ → Option Staged → Option Slot
seen_slot count None = None
seen_slot count (Some s) = Some (record { owner = s.owner; update = s.update; moment = s.moment; count = count })

-- a replica as its node has it, with a count in place of the effects, which do not change while a slot stands
abbrev pub seen : ℕ → CreationAttributes → ReplicaState → Replica
seen k a x = record {
  ckpt = k;
  attributes = a;
  sections = x.sections;
  count = length x.effects;
  generation = x.generation;
  slot = seen_slot (length x.effects) x.slot;
  marks = x.marks;
}

-- the replica that a node shows, of a checkpoint that is there
abbrev pub seen_by : ℕ → Option Entry → Option ReplicaState → Option Replica
seen_by k None x = None
seen_by k (Some e) None = None
seen_by k (Some e) (Some x) = Some (seen k e.attributes x)

-- the replica that a node shows of a checkpoint
abbrev pub seen_at : Machine → ℕ → ℕ → Option Replica
seen_at m k r = seen_by k (entry_of k m.cluster.entries) (m.replicas k r)

-- a snapshot as the code has it, reserved for what its checkpoint declares, and with a count in place of the effects
abbrev pub seen_snapshot : Option CreationAttributes → Option Snapshot → Option copies.Snapshot
seen_snapshot None s = None
seen_snapshot (Some a) None = None
seen_snapshot (Some a) (Some s) = Some (record { attributes = a; sections = s.sections; generation = s.generation; count = length s.effects })
