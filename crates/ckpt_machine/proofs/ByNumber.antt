-- A list whose elements are changed, each by its number: what is found there.
use Rattle.std.proofs.Common.{◌≡◌, ℕ, ◌+◌, zero, suc, List, [], ◌∷◌, Some, refl, ap, ◌∙◌, arith}
use Rattle.std.specs.Prelude.{slice_get}
use Rattle.std.specs.Option.{option_map}
use Rattle.ckpt_machine.specs.ByNumber.{each_by_number}

-- the element of a number
number_from : {X : Type 0} (change : ℕ → X → X) (n : ℕ) (xs : List X) (c : ℕ) → slice_get (each_by_number change n xs) c ≡ option_map (change (c + n)) (slice_get xs c)
number_from change n [] c = refl
number_from change n (x ∷ xs) zero = ap (λ m. Some (change m x)) (let same : n ≡ 0 + n = omega arith in same)
number_from change n (x ∷ xs) (suc c) =
    number_from change (n + 1) xs c
    ∙ ap (λ m. option_map (change m) (slice_get xs c)) (let moved : c + (n + 1) ≡ suc c + n = omega arith in moved)

-- counted from 0
pub at_number : {X : Type 0} (change : ℕ → X → X) (xs : List X) (c : ℕ) → slice_get (each_by_number change 0 xs) c ≡ option_map (change c) (slice_get xs c)
at_number change xs c = number_from change 0 xs c ∙ ap (λ m. option_map (change m) (slice_get xs c)) (let same : c + 0 ≡ c = omega arith in same)
