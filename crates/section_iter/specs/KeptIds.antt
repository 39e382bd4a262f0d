-- What an iteration keeps.
use Rattle.std.specs.Prelude.{ℕ, List}
use Rattle.section_iter.specs.declared.room.Room.{Room}

-- the identifiers that may still be given, in their order, and its room: for how many, and of how many bytes each
pub record KeptIds : Type 0 where
  pub ids : List (List ℕ)
  pub room : Room
