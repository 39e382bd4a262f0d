-- Where something is found in a list, the others are fewer.
use Rattle.std.proofs.Common.{◌≡◌, ◌+◌, ◌≤◌, Bool, true, false, not, cond, List, [], ◌∷◌, length, Option, Some, IfSome, refl, arith}
use Rattle.std.specs.List.{filter, find}
use Rattle.std.proofs.lemmas.List.Filters.{length-filter_both}
use Rattle.std.proofs.lemmas.Option.{IfSome_then}

passes : {A : Type 0} (x : A) (o : Option A) (passed : List A) → IfSome o (λ _. 1 ≤ length passed) → (b : Bool) → IfSome (cond b (Some x) o) (λ _. 1 ≤ length (cond b (x ∷ passed) passed))
passes x o passed rest true = omega arith
passes x o passed rest false = rest

some_pass : {A : Type 0} (test : A → Bool) (xs : List A) → IfSome (find test xs) (λ _. 1 ≤ length (filter test xs))
some_pass test [] = tt
some_pass test (x ∷ xs) = passes x (find test xs) (filter test xs) (some_pass test xs) (test x)

-- where one passes the test, fewer fail it than there are
pub fewer-others : {A : Type 0} (test : A → Bool) (xs : List A) → IfSome (find test xs) (λ _. length (filter (λ y. not (test y)) xs) + 1 ≤ length xs)
fewer-others test xs =
    let both : length (filter test xs) + length (filter (λ y. not (test y)) xs) ≡ length xs = length-filter_both test (λ y. not (test y)) (λ y. refl) xs in
    IfSome_then (find test xs) (some_pass test xs) (λ x some. omega (arith, some, both))
