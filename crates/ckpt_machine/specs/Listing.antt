-- What a `show` line lists: the replicas of a checkpoint that is made, on its complete nodes.
use Rattle.std.specs.Prelude.{ℕ, List, Option, Some, None, ℤ, length, map, take}
use Rattle.ckpt_types.specs.declared.identities.CallId.{CallId}
use Rattle.ckpt_types.specs.Limits.{listed_bytes_max}
use Rattle.ckpt_types.specs.Sections.{Section, present}
use Rattle.ckpt_types.specs.Reads.{description}
use Rattle.run_labels.specs.declared.shown.ShownReplica.{ShownReplica}
use Rattle.run_labels.specs.declared.shown.ShownSection.{ShownSection}
use Rattle.run_labels.specs.declared.shown.ShownSlot.{ShownSlot}
use Rattle.run_labels.specs.declared.shown.ShownSlot.TheVariants as slots
use Rattle.cluster_record.specs.declared.entries.Entry.{Entry}
use Rattle.cluster_record.specs.RecordState.{entry_of}
pub use Rattle.cluster_record.specs.RecordState.{is_active}
use Rattle.ckpt_machine.specs.Complete.{complete_replicas}
use Rattle.weak_marks.specs.Marks.{Marked}
use Rattle.ckpt_machine.specs.Machine.{Machine, Staged, ReplicaState}

-- the call that owns the slot, or whose marks stand
abbrev pub slot_listed : Option Staged → Option Marked → ShownSlot
slot_listed (Some slot) marks = slots.Held slot.owner
slot_listed None (Some marks) = slots.Mark marks.call
slot_listed None None = slots.Free

-- a section with its first bytes
abbrev pub section_listed : Section → ShownSection
section_listed s = record { descriptor = description s; first = take listed_bytes_max s.bytes }

-- the replica of a node, with the sections that are present at the moment
abbrev pub replica_listed : ℤ → Option ℕ → ℕ × ReplicaState → ShownReplica
replica_listed t active (r, x) = record {
  node = r;
  active = is_active active r;
  generation = x.generation;
  count = length x.effects;
  slot = slot_listed x.slot x.marks;
  sections = map section_listed (present t x.sections);
}

-- its complete replicas, in node order; nothing while it is in the making
abbrev pub listing_made : Machine → ℕ → Option ℕ → Option CallId → Option (List ShownReplica)
listing_made m k active (Some maker) = None
listing_made m k active None = Some (map (replica_listed m.cluster.moment active) (complete_replicas m k))

-- nothing of a checkpoint that is gone
abbrev pub listing_of : Machine → ℕ → Option Entry → Option (List ShownReplica)
listing_of m k None = None
listing_of m k (Some e) = listing_made m k e.active e.making

-- WHAT IS LISTED OF A CHECKPOINT
abbrev pub listing_at : Machine → ℕ → Option (List ShownReplica)
listing_at m k = listing_of m k (entry_of k m.cluster.entries)
