-- Lists looked up and changed by a key, and maps changed at a place.
use Rattle.std.specs.Prelude.{ℕ, ◌+◌, List, [], ◌∷◌, Option, Some, None, ◌==◌, ◌&&◌, if◌then◌else◌}

-- the first whose key is k
abbrev pub find_key : {X : Type 0} → (X → ℕ) → ℕ → List X → Option X
find_key key k [] = None
find_key key k (x ∷ xs) = if key x == k then Some x else find_key key k xs

-- that one changed
abbrev pub change_key : {X : Type 0} → (X → ℕ) → ℕ → (X → X) → List X → List X
change_key key k change [] = []
change_key key k change (x ∷ xs) = if key x == k then change x ∷ xs else x ∷ change_key key k change xs

-- the place of the first whose key is k, counted from n
abbrev pub place_from : {X : Type 0} → (X → ℕ) → ℕ → ℕ → List X → Option ℕ
place_from key k n [] = None
place_from key k n (x ∷ xs) = if key x == k then Some n else place_from key k (n + 1) xs

-- its place in the list, counted from 0
abbrev pub place_key : {X : Type 0} → (X → ℕ) → ℕ → List X → Option ℕ
place_key key k xs = place_from key k 0 xs

-- a list, and the empty one where there is none
abbrev pub list_or : {X : Type 0} → Option (List X) → List X
list_or None = []
list_or (Some xs) = xs

-- an option of an option as one: a value only where both have it
abbrev pub or_none : {X : Type 0} → Option (Option X) → Option X
or_none None = None
or_none (Some x) = x

-- a map with the value at one place changed
abbrev pub put : {X : Type 0} → (ℕ → X) → ℕ → X → ℕ → X
put f k x q = if q == k then x else f q

-- a map of two numbers with one value changed
abbrev pub put2 : {X : Type 0} → (ℕ → ℕ → X) → ℕ → ℕ → X → ℕ → ℕ → X
put2 f k r x j q = if (j == k) && (q == r) then x else f j q
