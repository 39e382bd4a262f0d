-- A list in which all stay.
use Rattle.std.proofs.Common.{◌≡◌, List, [], ◌∷◌, filter, Bool, true, false, cond, refl, ap}
use Rattle.std.specs.Prelude.{◌&&◌}
use Rattle.std.specs.List.{list_all}

-- what stays of it is the list
pub filter-all : {X : Type 0} (p : X → Bool) (xs : List X) → list_all p xs ≡ true → filter p xs ≡ xs
filter-all p [] all = refl
filter-all p (x ∷ xs) all = by (p x) (filter-all p xs) all where
  by : (b : Bool) → (list_all p xs ≡ true → filter p xs ≡ xs) → (b && list_all p xs) ≡ true → cond b (x ∷ filter p xs) (filter p xs) ≡ x ∷ xs
  by true rest all = ap (λ zs. x ∷ zs) (rest all)
  by false rest all = absurd cc
