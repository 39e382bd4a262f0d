-- How what was seen of the record shows itself: as node_core tells it.
use Rattle.std.specs.Prelude.{Option, Some, None}
use Rattle.node_core.specs.Seen.{EntrySeen, RecordSeen}
use Rattle.shared_nodes.specs.declared.seen.SeenEntry.{SeenEntry}
use Rattle.shared_nodes.specs.declared.seen.Seen.TheInside.{Inside}

-- what was seen of an entry
abbrev pub part_shown : SeenEntry → EntrySeen
part_shown e = record {
  attributes = e.attributes;
  retention = e.retention;
  generation = e.generation;
  made = e.made;
  complete = e.complete;
}

-- and where there may be none
abbrev pub entry_shown : Option SeenEntry → Option EntrySeen
entry_shown None = None
entry_shown (Some e) = Some (part_shown e)

-- the moment, and the entry where there is one
abbrev pub seen_shown : Inside → RecordSeen
seen_shown s = record { moment = s.moment; entry = entry_shown s.entry }
