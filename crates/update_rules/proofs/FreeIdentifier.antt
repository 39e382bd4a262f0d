-- An identifier that the service makes is free, however many sections a machine can count.
use Rattle.std.proofs.Common.{◌≡◌, ◌≢◌, ℕ, zero, suc, ◌+◌, ◌^◌, ◌<◌, ◌≤◌, List, [], ◌∷◌, length, Option, Some, None, find, is_some, unwrap_or, Bool, true, false, cond, sym, ap, ◌∙◌, refl, inl, inr, arith}
use Rattle.std.proofs.lemmas.Bool.{not-true, not-false, cases_eq}
use Rattle.std.proofs.lemmas.Option.{none-some, same_Some}
use Rattle.ckpt_types.specs.Sections.{Section, is_taken, Rises, without_section}
use Rattle.ckpt_types.specs.Updates.{numbered_id, numbers_from, generated_id}
use Rattle.ckpt_types.proofs.Numbering.{is_free, numbered_id-injective}
use Rattle.ckpt_types.proofs.Placing.{Rises-without_section, section_at-without_section_other, length-without_section}

-- a number up to 2 ^ 64 has another identifier than each lower one from 1 on
numbered_id-apart : (k n : ℕ) → suc k ≤ 2 ^ 64 → 1 ≤ n → n ≤ k → numbered_id (suc k) ≢ numbered_id n
numbered_id-apart k n few some lower same =
    elim (cases_eq (suc k) (2 ^ 64)) [
      | inl last ↦
          let none : 0 ≡ n = numbered_id-injective 0 n (omega arith) (omega arith) (ap numbered_id (sym last) ∙ same) in
          absurd (omega arith)
      | inr before ↦
          let equal : suc k ≡ n = numbered_id-injective (suc k) n (omega arith) (omega arith) same in
          absurd (omega arith)
    ]

-- where the identifiers of so many numbers are taken, there are as many sections
numbers_taken : (k : ℕ) (sections : List Section) → Rises sections → k ≤ 2 ^ 64 → ((n : ℕ) → 1 ≤ n → n ≤ k → is_taken (numbered_id n) sections ≡ true) → k ≤ length sections
numbers_taken zero sections rises few taken = omega arith
numbers_taken (suc k) sections rises few taken =
    let rest : List Section = without_section (numbered_id (suc k)) sections in
    let here : is_taken (numbered_id (suc k)) sections ≡ true = taken (suc k) (omega arith) (omega arith) in
    let fewer : length rest + 1 ≡ length sections = rw here at (length-without_section (numbered_id (suc k)) sections rises) in
    let others : (n : ℕ) → 1 ≤ n → n ≤ k → is_taken (numbered_id n) rest ≡ true = λ n first last.
    ap is_some (section_at-without_section_other (numbered_id (suc k)) (numbered_id n) sections (numbered_id-apart k n few first last)) ∙ taken n first (omega arith) in
    let within : k ≤ length rest = numbers_taken k rest (Rises-without_section (numbered_id (suc k)) sections rises) (omega arith) others in
    omega arith

-- what is found passes the test
find-Some : (test : ℕ → Bool) (ns : List ℕ) (n : ℕ) → find test ns ≡ Some n → test n ≡ true
find-Some test [] n is = absurd (none-some n is)
find-Some test (m ∷ ns) n is =
    elim (test m) as (λ b. test m ≡ b → cond b (Some m) (find test ns) ≡ Some n → test n ≡ true) [
      | true ↦ λ passes found. ap test (sym (same_Some m n found)) ∙ passes
      | false ↦ λ fails found. find-Some test ns n found
    ] refl is

-- where nothing is found every number fails
find-None : (test : ℕ → Bool) (n count : ℕ) → find test (numbers_from n count) ≡ None → (m : ℕ) → n ≤ m → m < n + count → test m ≡ false
find-None test n zero is m from below = absurd (omega arith)
find-None test n (suc count) is m from below =
    elim (test n) as (λ b. test n ≡ b → cond b (Some n) (find test (numbers_from (n + 1) count)) ≡ None → test m ≡ false) [
      | true ↦ λ passes found. absurd (none-some n (sym found))
      | false ↦ λ fails found. elim (cases_eq m n) [ inl same ↦ ap test same ∙ fails | inr other ↦ find-None test (n + 1) count found m (omega arith) (omega arith) ]
    ] refl is

-- no section has the identifier that the service makes
pub is_taken-generated_id : (sections : List Section) → Rises sections → length sections < 2 ^ 64 → is_taken (generated_id sections) sections ≡ false
is_taken-generated_id sections rises few = step (find (is_free sections) (numbers_from 1 (length sections + 1))) refl
  where
    step : (found : Option ℕ) → find (is_free sections) (numbers_from 1 (length sections + 1)) ≡ found → is_taken (numbered_id (unwrap_or found 0)) sections ≡ false
    step None is =
        let all : length sections + 1 ≤ length sections = numbers_taken (length sections + 1) sections rises (omega arith) (λ n first last. not-false (is_taken (numbered_id n) sections) (find-None (is_free sections) 1 (length sections + 1) is n first (omega arith))) in
        absurd (omega arith)
    step (Some n) is = not-true (is_taken (numbered_id n) sections) (find-Some (is_free sections) _ n is)
