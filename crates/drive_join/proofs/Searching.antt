-- A search from a place on.
use Rattle.std.proofs.Common.{◌≡◌, ℕ, ◌+◌, zero, suc, Bool, true, false, cond, List, [], ◌∷◌, drop, sym, ap, ◌∙◌, arith}
use Rattle.std.specs.Prelude.{Some, find, slice_get}
use Rattle.std.proofs.lemmas.Option.{same_Some}

-- the element at the place is found where it does
pub find-here : {X : Type 0} (p : X → Bool) (xs : List X) (i : ℕ) (x : X) → slice_get xs i ≡ Some x → p x ≡ true → find p (drop i xs) ≡ Some x
find-here p [] i x is does = absurd (cc is)
find-here p (y ∷ ys) zero x is does =
    let at : y ≡ x = same_Some y x is in
    ap (λ b. cond b (Some y) (find p ys)) (ap p at ∙ does) ∙ ap Some at
find-here p (y ∷ ys) (suc i) x is does = find-here p ys i x is does

-- and else it is looked for behind that place
find-behind : {X : Type 0} (p : X → Bool) (xs : List X) (i : ℕ) (x : X) → slice_get xs i ≡ Some x → p x ≡ false → find p (drop (suc i) xs) ≡ find p (drop i xs)
find-behind p [] i x is not_it = absurd (cc is)
find-behind p (y ∷ ys) zero x is not_it =
    let at : y ≡ x = same_Some y x is in
    sym (ap (λ b. cond b (Some y) (find p ys)) (ap p at ∙ not_it))
find-behind p (y ∷ ys) (suc i) x is not_it = find-behind p ys i x is not_it

pub find-next : {X : Type 0} (p : X → Bool) (xs : List X) (i : ℕ) (x : X) → slice_get xs i ≡ Some x → p x ≡ false → find p (drop (i + 1) xs) ≡ find p (drop i xs)
find-next p xs i x is not_it = ap (λ n. find p (drop n xs)) (let next : i + 1 ≡ suc i = omega arith in next) ∙ find-behind p xs i x is not_it
