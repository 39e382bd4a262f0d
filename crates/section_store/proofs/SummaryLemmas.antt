-- What is kept of the sections beside them, where one of them is changed, put in or taken away.
use Rattle.std.proofs.Common.{◌≡◌, ℕ, zero, suc, ◌+◌, ◌^◌, ◌<◌, ◌≤◌, List, [], ◌∷◌, length, min, max, Some, slice_get, insert, remove, is_some, true, false, cond, sym, ap, ◌∙◌, refl, inl, inr, arith}
use Rattle.std.proofs.lemmas.Bool.{true≢false, cases_eq, cases_lt}
use Rattle.std.proofs.lemmas.Option.{none-some, same_Some}
use Rattle.std.proofs.lemmas.List.Sums.{sum_by-cons}
use Rattle.ckpt_types.specs.Sections.{Section, is_named, is_taken, section_at, memory_used, size_of}
use Rattle.ckpt_types.specs.Updates.{numbered_id, free_number}
use Rattle.ckpt_types.proofs.Numbering.{free_number-free, free_number-least, one-le-free_number}
use Rattle.ckpt_types.proofs.Presence.{is_named_decides}
use Rattle.section_store.specs.Keys.{key_of}
use Rattle.section_store.specs.Places.{changed_at}
use Rattle.section_store.specs.Summary.{AreTaken}
use Rattle.section_store.proofs.KeyLemmas.{key_of-numbered_id}

-- ---- how many bytes they have together

-- a change that leaves the sizes leaves their sum
pub memory_used-changed_at-same : (change : Section → Section) (i : ℕ) (sections : List Section) → ((s : Section) → size_of (change s) ≡ size_of s) → memory_used (changed_at change i sections) ≡ memory_used sections
memory_used-changed_at-same change i [] same = refl
memory_used-changed_at-same change zero (x ∷ sections) same = omega (arith, sum_by-cons size_of (change x) sections, sum_by-cons size_of x sections, same x)
memory_used-changed_at-same change (suc i) (x ∷ sections) same =
    omega (arith, sum_by-cons size_of x (changed_at change i sections), sum_by-cons size_of x sections, memory_used-changed_at-same change i sections same)

-- ---- the numbers that are taken

-- the free number is not below one below which all are taken
pub AreTaken-le : (first : ℕ) (sections : List Section) → length sections + 1 < 2 ^ 64 → AreTaken first sections → first ≤ free_number sections
AreTaken-le first sections few are = elim (cases_lt (free_number sections) first) [
  | inl below ↦ absurd (true≢false (sym (are.taken (free_number sections) (one-le-free_number sections few) below) ∙ free_number-free sections few))
  | inr le ↦ le
]

-- all below the free number are taken
pub AreTaken-free_number : (sections : List Section) → length sections + 1 < 2 ^ 64 → AreTaken (free_number sections) sections
AreTaken-free_number sections few = record { counted = one-le-free_number sections few; taken = free_number-least sections }

-- what is found first, or behind
is_taken-cons : (id : List ℕ) (s : Section) (sections others : List Section) → (is_taken id sections ≡ true → is_taken id others ≡ true) → is_taken id (s ∷ sections) ≡ true → is_taken id (s ∷ others) ≡ true
is_taken-cons id s sections others rest =
    elim (is_named id s) as (λ b. is_some (cond b (Some s) (section_at id sections)) ≡ true → is_some (cond b (Some s) (section_at id others)) ≡ true) [
      | true ↦ λ is. refl
      | false ↦ rest
    ]

-- a change that leaves the identifiers leaves what is taken
is_taken-changed_at : (change : Section → Section) (id : List ℕ) (i : ℕ) (sections : List Section) → ((s : Section) → (change s).id ≡ s.id) → is_taken id sections ≡ true → is_taken id (changed_at change i sections) ≡ true
is_taken-changed_at change id i [] same is = is
is_taken-changed_at change id zero (s ∷ sections) same is =
    let named : is_named id (change s) ≡ is_named id s = ap (λ x. is_named id (record s { id = x })) (same s) in
    rw named (elim (is_named id s) as (λ b. is_some (cond b (Some s) (section_at id sections)) ≡ true → is_some (cond b (Some (change s)) (section_at id sections)) ≡ true) [ true ↦ λ t. refl | false ↦ λ t. t ] is)
is_taken-changed_at change id (suc i) (s ∷ sections) same is = is_taken-cons id s sections (changed_at change i sections) (is_taken-changed_at change id i sections same) is

pub AreTaken-changed_at : (change : Section → Section) (first i : ℕ) (sections : List Section) → ((s : Section) → (change s).id ≡ s.id) → AreTaken first sections → AreTaken first (changed_at change i sections)
AreTaken-changed_at change first i sections same are =
    record { counted = are.counted; taken = λ n from below. is_taken-changed_at change (numbered_id n) i sections same (are.taken n from below) }

-- what is taken is taken still beside one more
is_taken-behind : (id : List ℕ) (s : Section) (sections : List Section) → is_taken id sections ≡ true → is_taken id (s ∷ sections) ≡ true
is_taken-behind id s sections is = elim (is_named id s) as (λ b. is_some (cond b (Some s) (section_at id sections)) ≡ true) [ true ↦ refl | false ↦ is ]

is_taken-insert : (id : List ℕ) (s : Section) (i : ℕ) (sections : List Section) → is_taken id sections ≡ true → is_taken id (insert sections i s) ≡ true
is_taken-insert id s i [] is = absurd (true≢false (sym is))
is_taken-insert id s zero (x ∷ sections) is = is_taken-behind id s (x ∷ sections) is
is_taken-insert id s (suc i) (x ∷ sections) is = is_taken-cons id x sections (insert sections i s) (is_taken-insert id s i sections) is

-- the identifier of the one that was put in is taken
is_taken-inserted : (id : List ℕ) (s : Section) (i : ℕ) (sections : List Section) → s.id ≡ id → is_taken id (insert sections i s) ≡ true
is_taken-inserted id s zero [] same = rw ((is_named_decides id s).1 same) refl
is_taken-inserted id s (suc i) [] same = rw ((is_named_decides id s).1 same) refl
is_taken-inserted id s zero (x ∷ sections) same = rw ((is_named_decides id s).1 same) refl
is_taken-inserted id s (suc i) (x ∷ sections) same = is_taken-behind id x (insert sections i s) (is_taken-inserted id s i sections same)

pub AreTaken-insert : (first i : ℕ) (s : Section) (sections : List Section) → AreTaken first sections → AreTaken first (insert sections i s)
AreTaken-insert first i s sections are =
    record { counted = are.counted; taken = λ n from below. is_taken-insert (numbered_id n) s i sections (are.taken n from below) }

-- with a section of the free number, that number is taken too
pub AreTaken-numbered : (number i : ℕ) (s : Section) (sections : List Section) → s.id ≡ numbered_id number → AreTaken number sections → AreTaken (number + 1) (insert sections i s)
AreTaken-numbered number i s sections named are = record {
  counted = omega arith;
  taken = λ n from below. elim (cases_eq n number) [
    | inl same ↦ is_taken-inserted (numbered_id n) s i sections (named ∙ ap numbered_id (sym same))
    | inr other ↦ is_taken-insert (numbered_id n) s i sections (are.taken n from (omega arith))
  ];
}

-- what is taken is taken still where another section goes
is_taken-remove : (id : List ℕ) (sections : List Section) (i : ℕ) (s : Section) → slice_get sections i ≡ Some s → is_named id s ≡ false → is_taken id sections ≡ true → is_taken id (remove sections i) ≡ true
is_taken-remove id [] i s at other is = absurd (none-some s at)
is_taken-remove id (x ∷ sections) zero s at other is =
    let here : is_named id x ≡ false = ap (is_named id) (same_Some x s at) ∙ other in
    rw here at is
is_taken-remove id (x ∷ sections) (suc i) s at other is = is_taken-cons id x sections (remove sections i) (is_taken-remove id sections i s at other) is

-- a number below the key of an identifier is not its number
not_named : (n : ℕ) (s : Section) → n < 2 ^ 64 → n < key_of s.id → is_named (numbered_id n) s ≡ false
not_named n s fits below =
    elim (is_named (numbered_id n) s) as (λ b. is_named (numbered_id n) s ≡ b → b ≡ false) [
      | true ↦ λ named.
          let same : key_of s.id ≡ n = ap key_of ((is_named_decides (numbered_id n) s).0 named) ∙ key_of-numbered_id n fits in
          absurd (omega arith)
      | false ↦ λ other. refl
    ] refl

-- where a section goes, the numbers below its key stay taken
pub AreTaken-remove : (first i : ℕ) (s : Section) (sections : List Section) → first < 2 ^ 64 → slice_get sections i ≡ Some s → AreTaken first sections → AreTaken (min first (max (key_of s.id) 1)) (remove sections i)
AreTaken-remove first i s sections fits at are = record {
  counted = let counted = are.counted in omega arith;
  taken = λ n from below. is_taken-remove (numbered_id n) sections i s at (not_named n s (omega arith) (omega arith)) (are.taken n from (omega arith));
}
