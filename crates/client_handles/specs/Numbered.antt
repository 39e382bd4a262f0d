-- Things in a list that have numbers, and places that stand for them.
use Rattle.std.specs.Prelude.{ℕ, ◌<◌, ◌≤◌, not, ◌==◌, List, [], ◌∷◌, filter, find, slice_index, Option}

-- the one of that number
abbrev pub numbered : {A : Type 0} → (A → ℕ) → ℕ → List A → Option A
numbered number_of number xs = find (λ x. number_of x == number) xs

-- those of other numbers
abbrev pub without : {A : Type 0} → (A → ℕ) → ℕ → List A → List A
without number_of number xs = filter (λ x. not (number_of x == number)) xs

-- the one for which a place stands: that of the number to which the place was set
abbrev pub stands_for : {A : Type 0} → (A → ℕ) → List ℕ → List A → ℕ → Option A
stands_for number_of places xs place = numbered number_of (slice_index places place) xs

-- their numbers rise, each above a first number and at most a last one
abbrev pub RiseWithin : {A : Type 0} → (A → ℕ) → ℕ → ℕ → List A → Type 0
RiseWithin number_of first last [] = Unit {0}
RiseWithin number_of first last (x ∷ xs) = (first < number_of x) × (number_of x ≤ last) × RiseWithin number_of (number_of x) last xs
