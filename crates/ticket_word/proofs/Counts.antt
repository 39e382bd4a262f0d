-- Sums over a list in which one place is set, and how often a number stands in one.
use Rattle.std.proofs.Common.{◌≡◌, ℕ, zero, suc, ◌+◌, ◌<◌, ◌≤◌, List, [], ◌∷◌, ◌++◌, length, get_or, set, refl, sym, ap, subst, arith}
use Rattle.std.specs.Prelude.{slice_index_or, sum_by, All, cond, ◌==◌}
use Rattle.std.proofs.lemmas.List.Sums.{sum_by-cons, sum_by-append, sum_by_push, sum_by-set, get_or-le-sum_by}
use Rattle.std.proofs.lemmas.Bool.Decides.{nat_tests}
use mathlib.Core.Option.{some, some-ne-none, some-injective}
use lib.ListN.{get_elem?}
use Rattle.ticket_word.specs.Seats.{count_of, once_below}

-- ---- sums

module _ {A : Type 0} where
  -- what stands at a place
  found : (list : List A) (place : ℕ) (one : A) → get_elem? list place ≡ some one → (place < length list) × (get_or list place one ≡ one)
  found [] place one at = absurd (some-ne-none one (sym at))
  found (x ∷ xs) zero one at = (omega arith, some-injective x one at)
  found (x ∷ xs) (suc place) one at = let (low, is) = found xs place one at in (omega (arith, low), is)

  module _ (f : A → ℕ) where
    -- the sum behind a change of one
    pub sum_set : (list : List A) (place : ℕ) (one new : A) → get_elem? list place ≡ some one → sum_by f (set list place new) + f one ≡ sum_by f list + f new
    sum_set list place one new at = let (low, is) = found list place one at in subst (λ (x : A). sum_by f (set list place new) + f x ≡ sum_by f list + f new) is (sum_by-set f list place new one low)

    -- each is at most the sum
    pub sum_at : (list : List A) (place : ℕ) (one : A) → get_elem? list place ≡ some one → f one ≤ sum_by f list
    sum_at list place one at = let (low, is) = found list place one at in subst (λ (x : A). f x ≤ sum_by f list) is (get_or-le-sum_by f list place one low)

  module _ (f g : A → ℕ) (with_it : (x : A) → g x ≡ 0 → f x ≡ 0) where
    -- where one sum is nothing, so is the other
    sum_none : (list : List A) → sum_by g list ≡ 0 → sum_by f list ≡ 0
    sum_none [] none = refl
    sum_none (x ∷ xs) none =
        let split : sum_by g (x ∷ xs) ≡ g x + sum_by g xs = sum_by-cons g x xs in
        let first : f x ≡ 0 = with_it x (omega (arith, split, none)) in
        let others : sum_by f xs ≡ 0 = sum_none xs (omega (arith, split, none)) in
        omega (arith, sum_by-cons f x xs, first, others)

    -- where one has all of the one sum, it has all of the other
    pub sum_one : (list : List A) (place : ℕ) (one : A) → get_elem? list place ≡ some one → sum_by g list ≡ g one → sum_by f list ≡ f one
    sum_one [] place one at all = absurd (some-ne-none one (sym at))
    sum_one (x ∷ xs) zero one at all =
        let is : x ≡ one = some-injective x one at in
        let same : g x ≡ g one = ap g is in
        let split : sum_by g (x ∷ xs) ≡ g x + sum_by g xs = sum_by-cons g x xs in
        let others : sum_by f xs ≡ 0 = sum_none xs (omega (arith, split, same, all)) in
        let here : f x ≡ f one = ap f is in
        omega (arith, sum_by-cons f x xs, here, others)
    sum_one (x ∷ xs) (suc place) one at all =
        let split : sum_by g (x ∷ xs) ≡ g x + sum_by g xs = sum_by-cons g x xs in
        let most : g one ≤ sum_by g xs = sum_at g xs place one at in
        let first : f x ≡ 0 = with_it x (omega (arith, split, most, all)) in
        let others : sum_by f xs ≡ f one = sum_one xs place one at (omega (arith, split, most, all)) in
        omega (arith, sum_by-cons f x xs, first, others)

-- ---- how often a number stands

pub count_of-append : (number : ℕ) (xs ys : List ℕ) → count_of number (xs ++ ys) ≡ count_of number xs + count_of number ys
count_of-append number xs ys = sum_by-append (λ (one : ℕ). cond (one == number) 1 0) xs ys

pub count_of_push : (number : ℕ) (xs : List ℕ) (one : ℕ) → count_of number (xs ++ one ∷ []) ≡ count_of number xs + cond (one == number) 1 0
count_of_push number xs one = sum_by_push (λ (one : ℕ). cond (one == number) 1 0) xs one

-- in no number none stands
pub count_of_none : (number : ℕ) (xs : List ℕ) → length xs ≡ 0 → count_of number xs ≡ 0
count_of_none number [] none = refl
count_of_none number (x ∷ xs) none = absurd (omega (arith, none))

-- one number more is below a bound that is higher by one
pub once_below_next : (number bound : ℕ) → once_below number (bound + 1) ≡ once_below number bound + cond (bound == number) 1 0
once_below_next number bound = grind (arith, nat_tests)

-- a number that stands in a list stands there once or more
count_of_at : (xs : List ℕ) (place : ℕ) (default : ℕ) → place < length xs → 0 < count_of (slice_index_or xs place default) xs
count_of_at [] place default low = absurd (omega (arith, low))
count_of_at (x ∷ xs) zero default low =
    let split : count_of x (x ∷ xs) ≡ cond (x == x) 1 0 + count_of x xs = sum_by-cons (λ (one : ℕ). cond (one == x) 1 0) x xs in grind (arith, nat_tests, split)
count_of_at (x ∷ xs) (suc place) default low =
    let number : ℕ = slice_index_or xs place default in
    let split : count_of number (x ∷ xs) ≡ cond (x == number) 1 0 + count_of number xs = sum_by-cons (λ (one : ℕ). cond (one == number) 1 0) x xs in
    let there : 0 < count_of number xs = count_of_at xs place default (omega (arith, low)) in omega (arith, split, there)

-- where each number stands as often as those below a bound at most, all of them are below it
pub all_below : (xs : List ℕ) (bound : ℕ) → ((number : ℕ) → count_of number xs ≤ once_below number bound) → All (λ number. number < bound) xs
all_below xs bound few place default low = go (slice_index_or xs place default) (count_of_at xs place default low)
  where
    go : (number : ℕ) → 0 < count_of number xs → number < bound
    go number there = let most : count_of number xs ≤ once_below number bound = few number in grind (arith, nat_tests, there, most)
