-- How bytes are kept in room that was taken: at the front of bytes in place, or in a list.
use Rattle.std.specs.Prelude.{◌≡◌, ◌≤◌, ⊤, ℕ, List, length, take, vec_capacity}
use Rattle.ckpt_types.specs.declared.byte_room.Room.{Room}
use Rattle.ckpt_types.specs.declared.byte_room.Room.TheVariants.{Short, Long}

-- the bytes that are there, and how many there can be
pub record Filled : Type 0 where
  pub bytes : List ℕ
  pub capacity : ℕ

-- the bytes that are kept, and how many can be
abbrev pub filled_in : Room → Filled
filled_in (Short front) = record { bytes = take front.len front.all; capacity = 64 }
filled_in (Long items) = record { bytes = items.items; capacity = vec_capacity items }

-- what is short ends within the 64 bytes in place
abbrev pub IsWithin : Room → Type 0
IsWithin (Short front) = (length front.all ≡ 64) × (front.len ≤ 64)
IsWithin (Long items) = ⊤
