-- For what an iteration has room.
use Rattle.std.specs.Prelude.{◌≤◌}
use Rattle.ckpt_types.specs.declared.attributes.CreationAttributes.{CreationAttributes}
use Rattle.section_iter.specs.declared.room.Room.{Room}

-- room for the identifiers of as many sections, and as long ones, as the attributes declare
abbrev pub room_declared : CreationAttributes → Room
room_declared a = record { ids = a.max_sections; id_size = a.max_section_id_size }

-- the room is for all that these attributes declare
pub record IsRoomFor (a : CreationAttributes) (room : Room) : Type 0 where
  pub sections : a.max_sections ≤ room.ids
  pub bytes : a.max_section_id_size ≤ room.id_size
