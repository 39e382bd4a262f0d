-- What a step at a node looks at of the record, and nothing else.
use Rattle.std.specs.Prelude.{ℕ, Option, Some, None, Bool, false, ◌==◌, not, ℤ, slice_index}
use Rattle.ckpt_types.specs.declared.attributes.CreationAttributes.{CreationAttributes}
use Rattle.cluster_record.specs.declared.entries.Entry.{Entry}
use Rattle.cluster_record.specs.RecordState.{RecordState, entry_of}

-- of the entry of its checkpoint: what it declares, as it was made; the retention as it is set now; its generation; the moment of its making; and
-- whether the node is complete for it
pub record EntrySeen : Type 0 where
  pub attributes : CreationAttributes
  pub retention : ℤ
  pub generation : ℕ
  pub made : ℤ
  pub complete : Bool

-- the moment, and the entry where there is one
pub record RecordSeen : Type 0 where
  pub moment : ℤ
  pub entry : Option EntrySeen

-- an entry, as node r sees it
abbrev pub entry_seen : ℕ → Option Entry → Option EntrySeen
entry_seen r None = None
entry_seen r (Some e) = Some (record {
  attributes = e.attributes;
  retention = e.retention;
  generation = e.generation;
  made = e.made;
  complete = not (slice_index e.complete r == 0);
})

-- what a step at node r about checkpoint k sees of the record
abbrev pub record_seen : RecordState → ℕ → ℕ → RecordSeen
record_seen R k r = record { moment = R.moment; entry = entry_seen r (entry_of k R.entries) }

-- the node is complete for the checkpoint
abbrev pub is_complete_in : Option EntrySeen → Bool
is_complete_in None = false
is_complete_in (Some e) = e.complete

-- the node is complete for the checkpoint
abbrev pub is_complete : RecordSeen → Bool
is_complete seen = is_complete_in seen.entry
