-- How a snapshot keeps its sections: all room that they can need is taken.
use Rattle.std.specs.Prelude.{◌≡◌, false, ◌≤◌, length, vec_capacity}
use Rattle.ckpt_types.specs.Attributes.{is_malformed}
use Rattle.ckpt_types.specs.Sections.{Rises, Fits, memory_used}
use Rattle.snap_copy.specs.Heads.{sections_in, AreWithin}
use Rattle.snap_copy.specs.Snapshots.{Snapshot}
use Rattle.snap_copy.specs.declared.snap.Kept.{Kept}

-- the snapshot as contracts see it
abbrev pub snapshot_of : Kept → Snapshot
snapshot_of s = record { attributes = s.attributes; sections = sections_in s.bytes.items s.heads.items; generation = s.generation; count = s.count }

-- the attributes pass the check, the sections rise and keep to what was declared, their bytes stand in the
-- buffer and are just as many as it has, and there is room for all bytes and all sections that were declared
pub record IsReserved (s : Kept) : Type 0 where
  pub checked : is_malformed s.attributes ≡ false
  pub rises : Rises (sections_in s.bytes.items s.heads.items)
  pub fits : Fits s.attributes (sections_in s.bytes.items s.heads.items)
  pub within : AreWithin (length s.bytes.items) s.heads.items
  pub filled : length s.bytes.items ≡ memory_used (sections_in s.bytes.items s.heads.items)
  pub bytes_room : s.attributes.checkpoint_size ≤ vec_capacity s.bytes
  pub heads_room : s.attributes.max_sections ≤ vec_capacity s.heads
