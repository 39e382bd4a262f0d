-- The key of an identifier: its first 8 bytes as a number, the highest first, with zeros behind a shorter one.
use Rattle.std.specs.Prelude.{ℕ, zero, suc, ◌+◌, ◌*◌, ◌<◌, List, [], ◌∷◌, get_or}

-- a number, and so many bytes behind it
abbrev pub key_from : ℕ → ℕ → List ℕ → ℕ
key_from number zero bytes = number
key_from number (suc count) [] = key_from (number * 256) count []
key_from number (suc count) (b ∷ bytes) = key_from (number * 256 + b) count bytes

-- the key of an identifier; where two keys differ, their identifiers stand in the same order
abbrev pub key_of : List ℕ → ℕ
key_of id = key_from 0 8 id

-- what a key tells of an identifier are bytes
abbrev pub AreBytes : List ℕ → Type 0
AreBytes id = (i : ℕ) → i < 8 → get_or id i 0 < 256
