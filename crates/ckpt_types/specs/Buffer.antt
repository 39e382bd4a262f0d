-- A buffer of a read: the pieces of bytes in it, and its room.
use Rattle.std.specs.Prelude.{ℕ, ◌-◌, List, [], ◌∷◌, ◌++◌, length}

-- the pieces that are there, and the room for more of them and for their bytes
pub record Buffer : Type 0 where
  pub pieces : List (List ℕ)
  pub spare_pieces : ℕ
  pub spare_bytes : ℕ

-- the buffer with one piece more
abbrev pub with_piece : List ℕ → Buffer → Buffer
with_piece piece b = record { pieces = b.pieces ++ piece ∷ []; spare_pieces = b.spare_pieces - 1; spare_bytes = b.spare_bytes - length piece }
