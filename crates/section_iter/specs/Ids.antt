-- Identifiers that stand one behind another, each with the place where it ends.
use Rattle.std.specs.Prelude.{ℕ, ◌≤◌, List, length}
use Rattle.std.specs.List.{All}
use Rattle.ckpt_types.specs.Ends.{pieces_between, AreEnds}
use Rattle.ckpt_types.specs.Limits.{section_id_max}

-- the identifiers that end at these places
abbrev pub ids_in : List ℕ → List ℕ → List (List ℕ)
ids_in ends bytes = pieces_between 0 ends bytes

-- the bytes are identifiers one behind another, none longer than one may be
pub record AreIds (ends bytes : List ℕ) : Type 0 where
  pub follow : AreEnds 0 ends (length bytes)
  pub short : All (λ (id : List ℕ). length id ≤ section_id_max) (ids_in ends bytes)
