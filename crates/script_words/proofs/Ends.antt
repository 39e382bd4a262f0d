-- The first and the last elements of a list, where they meet or lie over one another.
use Rattle.std.proofs.Common.{◌≡◌, refl, sym, ap, ◌∙◌, ℕ, ◌+◌, ◌-◌, ◌≤◌, Bool, true, false, ◌&&◌, List, length, length-take-le, take, drop, arith}
use Rattle.std.specs.List.{list_all}
use Rattle.std.proofs.lemmas.List.{take-append-drop, drop-append-le}
use Rattle.std.proofs.lemmas.List.Folds.{list_all-append}

middle_twice : (front middle back : Bool) → ((front && middle) && (middle && back)) ≡ ((front && middle) && back)
middle_twice true true back = refl
middle_twice true false back = refl
middle_twice false middle back = refl

-- all pass where both ends do
pub ends_pass : {X : Type 0} (p : X → Bool) (n : ℕ) (xs : List X) → n ≤ length xs → length xs ≤ n + n → (list_all p (take n xs) && list_all p (drop (length xs - n) xs)) ≡ list_all p xs
ends_pass p n xs within meet =
    let m : ℕ = length xs - n in
    let long = length-take-le n xs within in
    let few : m ≤ length (take n xs) = omega (arith, long, within, meet) in
    let front = ap (list_all p) (sym (take-append-drop m (take n xs))) ∙ list_all-append p (take m (take n xs)) (drop m (take n xs)) in
    let joined = ap (drop m) (sym (take-append-drop n xs)) ∙ drop-append-le m (take n xs) (drop n xs) few in
    let back = ap (list_all p) joined ∙ list_all-append p (drop m (take n xs)) (drop n xs) in
    let all = ap (list_all p) (sym (take-append-drop n xs)) ∙ list_all-append p (take n xs) (drop n xs) in
    rw (all, back, front) (middle_twice (list_all p (take m (take n xs))) (list_all p (drop m (take n xs))) (list_all p (drop n xs)))
