-- What a region holds, as its callers see it, and the changes of one of its strings.
use Rattle.std.specs.Prelude.{ℕ, zero, suc, List, [], ◌∷◌, take, slice_index_or}
use Rattle.ckpt_types.specs.Updates.{padded}

-- the strings in the order of their places, how many bytes they may have together, and for how many strings more there are places
pub record RegionState : Type 0 where
  pub strings : List (List ℕ)
  pub size : ℕ
  pub spare : ℕ

-- the string at a place
abbrev pub string_at : ℕ → List (List ℕ) → List ℕ
string_at place strings = slice_index_or strings place []

-- the strings with the one at a place changed; all others stay
abbrev pub with_string : (List ℕ → List ℕ) → ℕ → List (List ℕ) → List (List ℕ)
with_string change place [] = []
with_string change zero (s ∷ strings) = change s ∷ strings
with_string change (suc place) (s ∷ strings) = s ∷ with_string change place strings

-- a string of this length: it is cut, or has zeros behind it
abbrev pub resized : ℕ → List ℕ → List ℕ
resized len s = padded (take len s) len
