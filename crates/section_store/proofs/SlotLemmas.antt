-- Slots that stand each once in an order: what follows from it, and that it stays where slots are moved.
use Rattle.std.proofs.Common.{◌≡◌, ◌≢◌, ℕ, zero, suc, ◌+◌, ◌-◌, ◌<◌, ◌≤◌, List, [], ◌∷◌, length, set, get_or, inl, inr, sym, ap, refl, ◌∙◌, arith, get_or-set_same, get_or-set_other}
use Rattle.std.specs.Prelude.{insert, remove, sum_by, swap}
use Rattle.std.proofs.lemmas.Bool.{cases_eq, cases_lt}
use Rattle.std.proofs.lemmas.List.Edits.{swap_is}
use Rattle.std.proofs.lemmas.List.Sums.{sum_by-cons, sum_by-set, sum_by-remove, sum_by-insert, get_or-le-sum_by}
use Rattle.section_store.specs.Kept.{sum_below, AreSlots}
use Rattle.section_store.specs.RegionState.{string_at}

-- ---- sums over numbers

-- the first number in front of the others
sum_below-front : (each : ℕ → ℕ) (n : ℕ) → sum_below each (suc n) ≡ each 0 + sum_below (λ k. each (suc k)) n
sum_below-front each zero = omega arith
sum_below-front each (suc n) = omega (arith, sum_below-front each n)

-- the lengths of strings, added up by their places
pub sum_below-length : (strings : List (List ℕ)) → sum_below (λ k. length (string_at k strings)) (length strings) ≡ sum_by length strings
sum_below-length [] = refl
sum_below-length (s ∷ strings) =
    omega (arith, sum_below-front (λ k. length (string_at k (s ∷ strings))) (length strings), sum_below-length strings, sum_by-cons length s strings)

sum_below-one : (n : ℕ) → sum_below (λ _. 1) n ≡ n
sum_below-one zero = refl
sum_below-one (suc n) = omega (arith, sum_below-one n)

sum_by-one : (slots : List ℕ) → sum_by (λ _. 1) slots ≡ length slots
sum_by-one [] = refl
sum_by-one (slot ∷ slots) = omega (arith, sum_by-cons (λ _. 1) slot slots, sum_by-one slots)

sum_below-above : (n m : ℕ) → m ≤ n → sum_below (λ slot. suc slot - n) m ≡ 0
sum_below-above n zero low = refl
sum_below-above n (suc m) low = omega (arith, sum_below-above n m (omega arith))

-- 1 of one number, and 0 of the others
pub is_one : ℕ → ℕ → ℕ
is_one one slot = 1 - (slot - one + (one - slot))

is_one-same : (one : ℕ) → is_one one one ≡ 1
unfolding is_one
is_one-same one = omega arith

is_one-other : (one slot : ℕ) → slot ≢ one → is_one one slot ≡ 0
unfolding is_one
is_one-other one slot other = elim (cases_lt slot one) [ inl below ↦ omega arith | inr above ↦ (let more : one < slot = omega (arith, other) in omega arith) ]

sum_below-is_one : (one n : ℕ) → (n ≤ one → sum_below (is_one one) n ≡ 0) × (sum_below (is_one one) n ≤ 1)
sum_below-is_one one zero = (λ low. refl, omega arith)
sum_below-is_one one (suc n) =
    let (none, once) = sum_below-is_one one n in
    elim (cases_eq n one) [
      | inl same ↦
          let before : sum_below (is_one one) n ≡ 0 = none (omega arith) in
          let here : is_one one n ≡ 1 = ap (is_one one) same ∙ is_one-same one in
          (λ low. absurd (omega arith), omega arith)
      | inr other ↦
          let here : is_one one n ≡ 0 = is_one-other one n other in
          (λ low. (let before : sum_below (is_one one) n ≡ 0 = none (omega arith) in omega arith), omega arith)
    ]

-- ---- what slots are

pub as_many : (n : ℕ) (slots : List ℕ) → AreSlots n slots → length slots ≡ n
as_many n slots are = sym (sum_by-one slots) ∙ are.sums (λ _. 1) ∙ sum_below-one n

pub within : (n : ℕ) (slots : List ℕ) (i : ℕ) → AreSlots n slots → i < length slots → get_or slots i 0 < n
within n slots i are there =
    let one : suc (get_or slots i 0) - n ≤ sum_by (λ slot. suc slot - n) slots = get_or-le-sum_by (λ slot. suc slot - n) slots i 0 there in
    omega (arith, one, are.sums (λ slot. suc slot - n), sum_below-above n n (omega arith))

two_in_sum : (each : ℕ → ℕ) (xs : List ℕ) (i j : ℕ) → i < j → j < length xs → each (get_or xs i 0) + each (get_or xs j 0) ≤ sum_by each xs
two_in_sum each [] i j lt there = absurd (omega arith)
two_in_sum each (x ∷ xs) zero zero lt there = absurd (omega arith)
two_in_sum each (x ∷ xs) zero (suc j) lt there = omega (arith, sum_by-cons each x xs, get_or-le-sum_by each xs j 0 (omega arith))
two_in_sum each (x ∷ xs) (suc i) zero lt there = absurd (omega arith)
two_in_sum each (x ∷ xs) (suc i) (suc j) lt there = omega (arith, sum_by-cons each x xs, two_in_sum each xs i j (omega arith) (omega arith))

different_below : (n : ℕ) (slots : List ℕ) (i j : ℕ) → AreSlots n slots → i < j → j < length slots → get_or slots i 0 ≢ get_or slots j 0
different_below n slots i j are lt there same =
    let one = get_or slots j 0 in
    let first : is_one one (get_or slots i 0) ≡ 1 = ap (is_one one) same ∙ is_one-same one in
    omega (arith, two_in_sum (is_one one) slots i j lt there, first, is_one-same one, are.sums (is_one one), (sum_below-is_one one n).1)

-- two places have two slots
pub different : (n : ℕ) (slots : List ℕ) (i j : ℕ) → AreSlots n slots → i < length slots → j < length slots → i ≢ j → get_or slots i 0 ≢ get_or slots j 0
different n slots i j are there_i there_j other =
    elim (cases_lt i j) [
      | inl below ↦ different_below n slots i j are below there_j
      | inr above ↦ (let below : j < i = omega (arith, other) in λ same. different_below n slots j i are below there_i (sym same))
    ]

-- the strings of all slots are all strings
pub bytes_in-slots : (strings : List (List ℕ)) (slots : List ℕ) → AreSlots (length strings) slots → sum_by (λ slot. length (string_at slot strings)) slots ≡ sum_by length strings
bytes_in-slots strings slots are = are.sums (λ slot. length (string_at slot strings)) ∙ sum_below-length strings

-- ---- where they are moved

-- no slots are the slots below 0
pub AreSlots-none : AreSlots 0 []
AreSlots-none = record { sums = λ each. refl }

-- a slot more is put in at a place
pub AreSlots-more : (n : ℕ) (slots : List ℕ) (i : ℕ) → AreSlots n slots → AreSlots (suc n) (insert slots i n)
AreSlots-more n slots i are = record { sums = λ each. sum_by-insert each slots i n ∙ ap (λ m. m + each n) (are.sums each) }

-- a slot goes from its place to another
pub AreSlots-moved : (n : ℕ) (slots : List ℕ) (from to : ℕ) → AreSlots n slots → from < length slots → AreSlots n (insert (remove slots from) to (get_or slots from 0))
AreSlots-moved n slots from to are there = record { sums = λ each. sum_by-insert each (remove slots from) to (get_or slots from 0) ∙ sum_by-remove each slots from 0 there ∙ are.sums each }

sum_by-swap : (each : ℕ → ℕ) (slots : List ℕ) (i j : ℕ) → i < length slots → j < length slots → sum_by each (swap slots i j) ≡ sum_by each slots
sum_by-swap each slots i j there_i there_j =
    let a = get_or slots i 0 in
    let b = get_or slots j 0 in
    let second : get_or (set slots i b) j 0 ≡ b = elim (cases_eq j i) [
      | inl same ↦ ap (λ k. get_or (set slots i b) k 0) same ∙ get_or-set_same slots i b 0 there_i
      | inr other ↦ get_or-set_other slots i j b 0 other
    ] in
    omega (arith, ap (sum_by each) (sym (swap_is slots i j 0 there_i there_j)), sum_by-set each slots i b 0 there_i, sum_by-set each (set slots i b) j a 0 (omega (arith, length-set_is slots i b)), ap each second)
  where
    length-set_is : (xs : List ℕ) (i x : ℕ) → length (set xs i x) ≡ length xs
    length-set_is [] i x = refl
    length-set_is (y ∷ xs) zero x = refl
    length-set_is (y ∷ xs) (suc i) x = ap suc (length-set_is xs i x)

-- two slots change their places
pub AreSlots-swap : (n : ℕ) (slots : List ℕ) (i j : ℕ) → AreSlots n slots → i < length slots → j < length slots → AreSlots n (swap slots i j)
AreSlots-swap n slots i j are there_i there_j = record { sums = λ each. sum_by-swap each slots i j there_i there_j ∙ are.sums each }
