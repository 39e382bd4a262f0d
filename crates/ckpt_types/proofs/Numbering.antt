-- The identifiers that the service makes: where fewer than 2 ^ 64 - 1 sections are there, the least number
-- from 1 whose identifier no section has is found, and it is at most one above the number of sections.
use Rattle.std.proofs.Common.{◌≡◌, ◌≢◌, ℕ, zero, suc, ◌+◌, ◌^◌, ◌<◌, ◌≤◌, List, length, Option, Some, None, find, is_some, Bool, true, false, not, refl, sym, ap, ◌∙◌, inl, inr, arith}
use Rattle.std.specs.Prelude.{unwrap_or}
use Rattle.std.specs.Int.{from_be_bytes, w64}
use Rattle.std.proofs.lemmas.Bool.{cases_eq, cond_both, not-true, not-false}
use Rattle.std.proofs.lemmas.Nat.{from_be_bytes-to_be_bytes_8}
use Rattle.ckpt_types.specs.Sections.{Section, is_taken, without_section}
use Rattle.ckpt_types.specs.Updates.{numbered_id, numbers_from, free_number, generated_id}
use Rattle.ckpt_types.proofs.Placing.{section_at-without_section_other, length-without_section-lt}

-- ---- identifiers of numbers

-- numbers below 2 ^ 64 have identifiers of their own
pub numbered_id-injective : (m n : ℕ) → m < 2 ^ 64 → n < 2 ^ 64 → numbered_id m ≡ numbered_id n → m ≡ n
numbered_id-injective m n below_m below_n same = sym (from_be_bytes-to_be_bytes_8 m below_m) ∙ ap (from_be_bytes w64) same ∙ from_be_bytes-to_be_bytes_8 n below_n

-- the identifier of a number has 8 bytes
pub length-numbered_id : (n : ℕ) → length (numbered_id n) ≡ 8
length-numbered_id n = refl

-- a generated identifier has 8 bytes
pub length-generated_id : (sections : List Section) → length (generated_id sections) ≡ 8
length-generated_id sections = length-numbered_id (free_number sections)

-- k numbers have k sections: so many numbers can't all be taken by fewer
numbers-le-length : (k : ℕ) (sections : List Section) → k < 2 ^ 64 → ((n : ℕ) → 1 ≤ n → n ≤ k → is_taken (numbered_id n) sections ≡ true) → k ≤ length sections
numbers-le-length zero sections below taken = omega arith
numbers-le-length (suc k) sections below taken =
    let rest : List Section = without_section (numbered_id (suc k)) sections in
    let here : is_taken (numbered_id (suc k)) sections ≡ true = taken (suc k) (omega arith) (omega arith) in
    let shorter : length rest < length sections = length-without_section-lt (numbered_id (suc k)) sections here in
    let others : (n : ℕ) → 1 ≤ n → n ≤ k → is_taken (numbered_id n) rest ≡ true = λ n first last.
    let apart : numbered_id (suc k) ≢ numbered_id n = λ same. let equal : suc k ≡ n = numbered_id-injective (suc k) n below (omega arith) same in omega arith in
    ap is_some (section_at-without_section_other (numbered_id (suc k)) (numbered_id n) sections apart) ∙ taken n first (omega arith) in
    let within : k ≤ length rest = numbers-le-length k rest (omega arith) others in
    omega arith

-- ---- the first number that passes a test

-- what was found among so many numbers from n on: the least that passes, or that none passes
abbrev IsLeast : (ℕ → Bool) → ℕ → ℕ → Option ℕ → Type 0
IsLeast test n count None = (m : ℕ) → n ≤ m → m < n + count → test m ≡ false
IsLeast test n count (Some found) = (n ≤ found) × (found < n + count) × (test found ≡ true) × ((m : ℕ) → n ≤ m → m < found → test m ≡ false)

-- where the first number fails, what was found behind it is the least
IsLeast-behind : (test : ℕ → Bool) (n count : ℕ) (found : Option ℕ) → test n ≡ false → IsLeast test (n + 1) count found → IsLeast test n (suc count) found
IsLeast-behind test n count None fails least = λ m from below. elim (cases_eq m n) [ inl same ↦ ap test same ∙ fails | inr other ↦ least m (omega arith) (omega arith) ]
IsLeast-behind test n count (Some found) fails least =
    (omega arith, omega arith, least.2, λ m from below. elim (cases_eq m n) [ inl same ↦ ap test same ∙ fails | inr other ↦ least.3 m (omega arith) below ])

-- finding among so many numbers gives the least that passes
find-numbers_from : (test : ℕ → Bool) (n count : ℕ) → IsLeast test n count (find test (numbers_from n count))
find-numbers_from test n zero = λ m from below. absurd (omega arith)
find-numbers_from test n (suc count) =
    cond_both (test n) (Some n) (find test (numbers_from (n + 1) count)) (IsLeast test n (suc count))
    (λ passes. (omega arith, omega arith, passes, λ m from below. absurd (omega arith)))
    (λ fails. IsLeast-behind test n count (find test (numbers_from (n + 1) count)) fails (find-numbers_from test (n + 1) count))

-- ---- the free number

-- the number is free
abbrev pub is_free : List Section → ℕ → Bool
is_free sections n = not (is_taken (numbered_id n) sections)

-- what the definition of the free number finds
free_found : (sections : List Section) → IsLeast (is_free sections) 1 (length sections + 1) (find (is_free sections) (numbers_from 1 (length sections + 1)))
free_found sections = find-numbers_from (is_free sections) 1 (length sections + 1)

-- what was found is counted from 1, and free
found_is_free : (sections : List Section) (found : Option ℕ) → length sections + 1 < 2 ^ 64 → IsLeast (is_free sections) 1 (length sections + 1) found → (1 ≤ unwrap_or found 0) × (is_taken (numbered_id (unwrap_or found 0)) sections ≡ false)
found_is_free sections None few least =
    let all : length sections + 1 ≤ length sections = numbers-le-length (length sections + 1) sections few (λ n first last. not-false (is_taken (numbered_id n) sections) (least n first (omega arith))) in
    absurd (omega arith)
found_is_free sections (Some found) few least = (least.0, not-true (is_taken (numbered_id found) sections) least.2)

-- lower numbers than the found one are taken
found_is_least : (sections : List Section) (found : Option ℕ) → IsLeast (is_free sections) 1 (length sections + 1) found → (n : ℕ) → 1 ≤ n → n < unwrap_or found 0 → is_taken (numbered_id n) sections ≡ true
found_is_least sections None least = λ n first below. absurd (omega arith)
found_is_least sections (Some found) least = λ n first below. not-false (is_taken (numbered_id n) sections) (least.3 n first below)

-- what was found is at most one above the number of sections
found_is_small : (sections : List Section) (found : Option ℕ) → IsLeast (is_free sections) 1 (length sections + 1) found → unwrap_or found 0 ≤ length sections + 1
found_is_small sections None least = omega arith
found_is_small sections (Some found) least = omega arith

-- no section has the generated identifier
pub free_number-free : (sections : List Section) → length sections + 1 < 2 ^ 64 → is_taken (generated_id sections) sections ≡ false
free_number-free sections few = (found_is_free sections (find (is_free sections) (numbers_from 1 (length sections + 1))) few (free_found sections)).1

-- the sections have every identifier of a lower number
pub free_number-least : (sections : List Section) (n : ℕ) → 1 ≤ n → n < free_number sections → is_taken (numbered_id n) sections ≡ true
free_number-least sections = found_is_least sections (find (is_free sections) (numbers_from 1 (length sections + 1))) (free_found sections)

-- numbers are counted from 1
pub one-le-free_number : (sections : List Section) → length sections + 1 < 2 ^ 64 → 1 ≤ free_number sections
one-le-free_number sections few = (found_is_free sections (find (is_free sections) (numbers_from 1 (length sections + 1))) few (free_found sections)).0

-- no more numbers are passed over than there are sections
pub free_number-le : (sections : List Section) → free_number sections ≤ length sections + 1
free_number-le sections = found_is_small sections (find (is_free sections) (numbers_from 1 (length sections + 1))) (free_found sections)
