-- Pieces of bytes that stand one behind another, each with the place where it ends.
use Rattle.std.specs.Prelude.{◌≡◌, ℕ, zero, suc, ◌-◌, ◌≤◌, List, [], ◌∷◌, ◌++◌, length, take, drop, slice_index}

-- the pieces stand one behind another from a place on, and end at these places
abbrev pub pieces_between : ℕ → List ℕ → List ℕ → List (List ℕ)
pieces_between start [] bytes = []
pieces_between start (end ∷ ends) bytes = take (end - start) (drop start bytes) ∷ pieces_between end ends bytes

-- the ends do not fall, and the last is the end of the bytes
abbrev pub AreEnds : ℕ → List ℕ → ℕ → Type 0
AreEnds start [] len = start ≡ len
AreEnds start (end ∷ ends) len = (start ≤ end) × AreEnds end ends len

-- where the piece at a place begins
abbrev pub start_before : ℕ → List ℕ → ℕ → ℕ
start_before start ends zero = start
start_before start ends (suc i) = slice_index ends i

-- ---- pieces that are kept by their number and by the ends of all but the last, which ends with the bytes

-- the ends of so many pieces
abbrev pub ends_of : ℕ → List ℕ → ℕ → List ℕ
ends_of zero breaks len = []
ends_of (suc count) breaks len = breaks ++ len ∷ []

-- the pieces
abbrev pub pieces_in : ℕ → List ℕ → List ℕ → List (List ℕ)
pieces_in count breaks bytes = pieces_between 0 (ends_of count breaks (length bytes)) bytes

-- so many pieces stand one behind another, up to the end of the bytes
pub record ArePieces (count : ℕ) (breaks : List ℕ) (len : ℕ) : Type 0 where
  pub ends : AreEnds 0 (ends_of count breaks len) len
  pub many : length breaks ≡ count - 1
