-- A list whose elements are changed one after the other.
use Rattle.std.proofs.Common.{◌≡◌, ℕ, ◌+◌, ◌<◌, ◌≤◌, zero, suc, List, [], ◌∷◌, length, drop, All, refl, ap, subst, arith}
use Rattle.std.specs.Prelude.{map, slice_set, slice_index_or}
use Rattle.std.proofs.lemmas.List.Elements.{All-nil, All-cons, All-head, All-tail}

-- the elements from a place on are changed
abbrev pub changed_from : {X : Type 0} → (X → X) → ℕ → List X → List X
changed_from f n [] = []
changed_from f zero (x ∷ xs) = map f (x ∷ xs)
changed_from f (suc n) (x ∷ xs) = x ∷ changed_from f n xs

pub changed_from-start : {X : Type 0} (f : X → X) (xs : List X) → changed_from f 0 xs ≡ map f xs
changed_from-start f [] = refl
changed_from-start f (x ∷ xs) = refl

-- where the one at a place is changed, those behind it are left to do
changed_from-step : {X : Type 0} (f : X → X) (d : X) (n : ℕ) (xs : List X) → n < length xs → changed_from f (suc n) (slice_set xs n (f (slice_index_or xs n d))) ≡ changed_from f n xs
changed_from-step f d n [] h = absurd (omega arith)
changed_from-step f d zero (x ∷ xs) h = ap (λ ys. f x ∷ ys) (changed_from-start f xs)
changed_from-step f d (suc n) (x ∷ xs) h = ap (λ ys. x ∷ ys) (changed_from-step f d n xs (omega (arith, h)))

pub changed_from-next : {X : Type 0} (f : X → X) (d : X) (n : ℕ) (xs : List X) → n < length xs → changed_from f (n + 1) (slice_set xs n (f (slice_index_or xs n d))) ≡ changed_from f n xs
changed_from-next f d n xs h = let next : suc n ≡ n + 1 = omega arith in subst (λ m. changed_from f m (slice_set xs n (f (slice_index_or xs n d))) ≡ changed_from f n xs) next (changed_from-step f d n xs h)

pub changed_from-end : {X : Type 0} (f : X → X) (n : ℕ) (xs : List X) → length xs ≤ n → changed_from f n xs ≡ xs
changed_from-end f n [] h = refl
changed_from-end f zero (x ∷ xs) h = absurd (omega arith)
changed_from-end f (suc n) (x ∷ xs) h = ap (λ ys. x ∷ ys) (changed_from-end f n xs (omega (arith, h)))

-- ---- what holds of those from a place on

module _ {X : Type 0} (P : X → Type 0) where
  -- holds of the one at the place
  pub All-here : (i : ℕ) (xs : List X) (d : X) → i < length xs → All P (drop i xs) → P (slice_index_or xs i d)
  All-here i [] d h all = absurd (omega (arith, h))
  All-here zero (x ∷ xs) d h all = All-head P x xs all
  All-here (suc i) (x ∷ xs) d h all = All-here i xs d (omega (arith, h)) all

  behind-suc : (i : ℕ) (xs : List X) (y : X) → i < length xs → All P (drop i xs) → All P (drop (suc i) (slice_set xs i y))
  behind-suc i [] y h all = absurd (omega (arith, h))
  behind-suc zero (x ∷ xs) y h all = All-tail P x xs all
  behind-suc (suc i) (x ∷ xs) y h all = behind-suc i xs y (omega (arith, h)) all

  -- and of those behind it, whatever that becomes
  pub All-behind : (i : ℕ) (xs : List X) (y : X) → i < length xs → All P (drop i xs) → All P (drop (i + 1) (slice_set xs i y))
  All-behind i xs y h all = let next : suc i ≡ i + 1 = omega arith in subst (λ m. All P (drop m (slice_set xs i y))) next (behind-suc i xs y h all)

  -- what holds of any holds of all
  pub All-any : ((x : X) → P x) → (xs : List X) → All P xs
  All-any any [] = All-nil P
  All-any any (x ∷ xs) = All-cons P x xs (any x) (All-any any xs)
