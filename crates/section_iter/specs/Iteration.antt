-- How an iteration keeps its identifiers: those behind the place up to which it gave them.
use Rattle.std.specs.Prelude.{◌^◌, ◌*◌, ◌<◌, ◌≤◌, length, drop, vec_capacity}
use Rattle.section_iter.specs.Ids.{ids_in, AreIds}
use Rattle.section_iter.specs.KeptIds.{KeptIds}
use Rattle.section_iter.specs.declared.iteration.Kept.{Kept}

-- the identifiers stand in room that was taken for all that it may keep
pub record HasIdRoom (it : Kept) : Type 0 where
  pub begun : it.first ≤ length it.ends.items
  pub kept : AreIds it.ends.items it.bytes.items
  pub ends_taken : it.room.ids ≤ vec_capacity it.ends
  pub bytes_taken : it.room.ids * it.room.id_size ≤ vec_capacity it.bytes
  pub small : it.room.ids * it.room.id_size < 2 ^ 32

-- the iteration as contracts see it: the identifiers that it may still give, and its room
abbrev pub kept_ids : Kept → KeptIds
kept_ids it = record { ids = drop it.first (ids_in it.ends.items it.bytes.items); room = it.room }
