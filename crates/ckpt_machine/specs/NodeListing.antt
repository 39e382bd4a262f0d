-- What a `show` line lists, by the replicas that the nodes keep.
use Rattle.std.specs.Prelude.{ℕ, zero, suc, List, [], ◌∷◌, ◌++◌, length, map, Option, Some, None, ◌==◌, if◌then◌else◌, ℤ, slice_index}
use Rattle.ckpt_types.specs.declared.identities.CallId.{CallId}
use Rattle.ckpt_types.specs.Sections.{present}
use Rattle.run_labels.specs.declared.shown.ShownReplica.{ShownReplica}
use Rattle.run_labels.specs.declared.shown.ShownSlot.{ShownSlot}
use Rattle.run_labels.specs.declared.shown.ShownSlot.TheVariants as slots
use Rattle.cluster_record.specs.declared.entries.Entry.{Entry}
use Rattle.ckpt_machine.specs.Listing.{is_active, section_listed}
use Rattle.replica.specs.Replicas.{Replica}
use Rattle.stage_slot.specs.Slots.{Slot}
use Rattle.weak_marks.specs.Marks.{Marked}
use Rattle.ckpt_machine.specs.Nodes.{replica_in}

-- the call that owns the slot, or whose marks stand
abbrev pub kept_slot_listed : Option Slot → Option Marked → ShownSlot
kept_slot_listed (Some slot) marks = slots.Held slot.owner
kept_slot_listed None (Some marked) = slots.Mark marked.call
kept_slot_listed None None = slots.Free

-- the replica that a node keeps
abbrev pub kept_replica_listed : ℤ → Option ℕ → ℕ → Replica → ShownReplica
kept_replica_listed t active r x = record {
  node = r;
  active = is_active active r;
  generation = x.generation;
  count = x.count;
  slot = kept_slot_listed x.slot x.marks;
  sections = map section_listed (present t x.sections);
}

-- the replica that a node keeps, if it keeps one
abbrev pub kept_listed : ℤ → Option ℕ → ℕ → Option Replica → List ShownReplica
kept_listed t active r None = []
kept_listed t active r (Some x) = kept_replica_listed t active r x ∷ []

-- that of one node, where it is complete
abbrev pub node_listed : List (List Replica) → ℕ → Entry → ℤ → ℕ → List ShownReplica
node_listed nodes k e t r = if slice_index e.complete r == 0 then [] else kept_listed t e.active r (replica_in nodes k r)

-- those of the first nodes, so many
abbrev pub nodes_listed : List (List Replica) → ℕ → Entry → ℤ → ℕ → List ShownReplica
nodes_listed nodes k e t zero = []
nodes_listed nodes k e t (suc n) = nodes_listed nodes k e t n ++ node_listed nodes k e t n

-- of a checkpoint that is made
abbrev pub made_listed : List (List Replica) → ℕ → Entry → ℤ → Option CallId → Option (List ShownReplica)
made_listed nodes k e t (Some maker) = None
made_listed nodes k e t None = Some (nodes_listed nodes k e t (length e.complete))

-- the list of a checkpoint that is there; of one that is gone there is none
abbrev pub entry_listed : List (List Replica) → ℕ → ℤ → Option Entry → Option (List ShownReplica)
entry_listed nodes k t None = None
entry_listed nodes k t (Some e) = made_listed nodes k e t e.making
