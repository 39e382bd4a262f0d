-- A list whose elements are changed, each by its number.
use Rattle.std.specs.Prelude.{ℕ, ◌+◌, List, [], ◌∷◌}

-- each is changed, by its number, counted from n
abbrev pub each_by_number : {X : Type 0} → (ℕ → X → X) → ℕ → List X → List X
each_by_number change n [] = []
each_by_number change n (x ∷ xs) = change n x ∷ each_by_number change (n + 1) xs
