-- Of lists of any kind: what a filter leaves of one, and lists of zeros.
use Rattle.std.proofs.Common.{◌≡◌, ℕ, zero, suc, ◌≤◌, List, [], ◌∷◌, length, filter, replicate, Bool, refl, ap, arith}
use Rattle.std.specs.Prelude.{slice_set, slice_index}
use Rattle.std.proofs.lemmas.List.Sums.{length-filter, count_by-le-length}

-- leaving elements out takes no more places
pub length-filter_le : {X : Type 0} (p : X → Bool) (xs : List X) → length (filter p xs) ≤ length xs
length-filter_le p xs = omega (arith, length-filter p xs, count_by-le-length p xs)

-- a list of zeros has 0 at each place, and past its end
pub slice_index-replicate : (n i : ℕ) → slice_index (replicate n 0) i ≡ 0
slice_index-replicate zero i = refl
slice_index-replicate (suc n) zero = refl
slice_index-replicate (suc n) (suc i) = slice_index-replicate n i

-- with one of them set to 0 it is the same
pub slice_set-replicate : (n i : ℕ) → slice_set {A = ℕ} (replicate n 0) i 0 ≡ replicate n 0
slice_set-replicate zero i = refl
slice_set-replicate (suc n) zero = refl
slice_set-replicate (suc n) (suc i) = ap (λ xs. 0 ∷ xs) (slice_set-replicate n i)

-- a place that was set to 0 has that, or is past the end
pub slice_index-cleared : (xs : List ℕ) (i : ℕ) → slice_index (slice_set xs i 0) i ≡ 0
slice_index-cleared [] i = refl
slice_index-cleared (x ∷ xs) zero = refl
slice_index-cleared (x ∷ xs) (suc i) = slice_index-cleared xs i
