-- A list whose elements are changed, each by its number, one after the other.
use Rattle.std.proofs.Common.{◌≡◌, ℕ, ◌+◌, ◌<◌, ◌≤◌, zero, suc, List, [], ◌∷◌, length, refl, ap, ◌∙◌, arith}
use Rattle.std.specs.Prelude.{slice_set, slice_index_or}
use Rattle.ckpt_machine.specs.ByNumber.{each_by_number}

-- those from a place on are left to do
abbrev pub left_from : {X : Type 0} → (ℕ → X → X) → ℕ → ℕ → List X → List X
left_from change n i [] = []
left_from change n zero (x ∷ xs) = each_by_number change n (x ∷ xs)
left_from change n (suc i) (x ∷ xs) = x ∷ left_from change (n + 1) i xs

-- all are at first
pub left_from-start : {X : Type 0} (change : ℕ → X → X) (n : ℕ) (xs : List X) → left_from change n 0 xs ≡ each_by_number change n xs
left_from-start change n [] = refl
left_from-start change n (x ∷ xs) = refl

left_from-step : {X : Type 0} (change : ℕ → X → X) (d : X) (n i : ℕ) (xs : List X) → i < length xs → left_from change n (suc i) (slice_set xs i (change (i + n) (slice_index_or xs i d))) ≡ left_from change n i xs
left_from-step change d n i [] within = absurd (omega arith)
left_from-step change d n zero (x ∷ xs) within = (λ j. change ((let same : 0 + n ≡ n = omega arith in same) j) x ∷ left_from-start change (n + 1) xs j)
left_from-step change d n (suc i) (x ∷ xs) within =
    ap (λ m. x ∷ left_from change (n + 1) (suc i) (slice_set xs i (change m (slice_index_or xs i d)))) (let moved : suc i + n ≡ i + (n + 1) = omega arith in moved)
    ∙ ap (λ ys. x ∷ ys) (left_from-step change d (n + 1) i xs (omega (arith, within)))

-- one fewer once the one at the place is changed
pub left_from-next : {X : Type 0} (change : ℕ → X → X) (d : X) (i : ℕ) (xs : List X) → i < length xs → left_from change 0 (i + 1) (slice_set xs i (change i (slice_index_or xs i d))) ≡ left_from change 0 i xs
left_from-next change d i xs within =
    (λ j. left_from change 0 ((let next : i + 1 ≡ suc i = omega arith in next) j) (slice_set xs i (change ((let same : i ≡ i + 0 = omega arith in same) j) (slice_index_or xs i d))))
    ∙ left_from-step change d 0 i xs within

-- none at the end
pub left_from-end : {X : Type 0} (change : ℕ → X → X) (n i : ℕ) (xs : List X) → length xs ≤ i → left_from change n i xs ≡ xs
left_from-end change n i [] through = refl
left_from-end change n zero (x ∷ xs) through = absurd (omega (arith, through))
left_from-end change n (suc i) (x ∷ xs) through = ap (λ ys. x ∷ ys) (left_from-end change (n + 1) i xs (omega (arith, through)))
