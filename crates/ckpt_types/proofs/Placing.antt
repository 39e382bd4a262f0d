-- What the sections are once one is placed among them, and once one is taken from them.
use Rattle.std.proofs.Common.{◌≡◌, ◌≢◌, ℕ, ◌+◌, ◌<◌, ◌≤◌, List, [], ◌∷◌, length, Option, Some, None, is_some, Bool, true, false, cond, not, if◌then◌else◌, nat_eq, Less, Equal, Greater, All, sum_by, sym, ap, ◌∙◌, subst, refl, inl, inr, arith}
use Rattle.std.specs.Option.{option_map_or}
use Rattle.std.specs.Ordering.{match_ordering}
use Rattle.std.specs.Cmp.Lexicographic.{bytes_decides, pointwise}
use Rattle.std.proofs.lemmas.Bool.{false_from_ne_true, true≢false, false≢true, cases_Bool}
use Rattle.std.proofs.lemmas.List.Elements.{All-head, All-tail, All-cons}
use Rattle.std.proofs.lemmas.List.Sums.{sum_by-cons}
use Rattle.ckpt_types.specs.Sections.{Section, id_cmp, is_named, section_at, is_taken, IsBelowAll, Rises, with_section, without_section, memory_used, size_of}
use Rattle.ckpt_types.proofs.Presence.{is_named_decides, is_named-by_order, id_cmp_turned, section_at-below_all, section_at_after, IsBelowAll-earlier, Rises-filter, memory_used-filter-le}
use Rattle.ckpt_types.proofs.Lists.{length-filter_le}

-- an identifier is that of a section where the order ties them
id_cmp-Equal : (id : List ℕ) (s : Section) → id_cmp id s.id ≡ Equal → s.id ≡ id
id_cmp-Equal id s e = (is_named_decides id s).0 (is_named-by_order id s Equal e)

-- two sections with one identifier are named alike
is_named_alike : (id : List ℕ) (r s : Section) → r.id ≡ s.id → is_named id r ≡ is_named id s
is_named_alike id r s same = ap (λ x. pointwise nat_eq x id) same

-- ---- what is found

-- two tests of which not both hold can be made in either order
two_found : (r s : Section) (b c : Bool) (found : Option Section) → (b ≡ true → c ≡ true → ⊥) → cond c (Some s) (cond b (Some r) found) ≡ cond b (Some r) (cond c (Some s) found)
two_found r s true true found apart = absurd (apart refl refl)
two_found r s true false found apart = refl
two_found r s false true found apart = refl
two_found r s false false found apart = refl

-- a test made once more behind itself changes nothing
same_found : (r s : Section) (b : Bool) (found : Option Section) → cond b (Some r) found ≡ cond b (Some r) (cond b (Some s) found)
same_found r s true found = refl
same_found r s false found = refl

-- of two sections of which the order puts one behind the other, not both have one identifier
named_apart : (new s : Section) (id : List ℕ) → id_cmp new.id s.id ≡ Greater → is_named id new ≡ true → is_named id s ≡ true → ⊥
named_apart new s id behind of_new of_s =
    let same : s.id ≡ new.id = (is_named_decides id s).0 of_s ∙ sym ((is_named_decides id new).0 of_new) in
    true≢false (sym ((is_named_decides new.id s).1 same) ∙ is_named-by_order new.id s Greater behind)

-- a section placed is found by its identifier, and another as before
pub section_at-with_section : (new : Section) (id : List ℕ) (sections : List Section) → section_at id (with_section new sections) ≡ (if is_named id new then Some new else section_at id sections)
section_at-with_section new id [] = refl
section_at-with_section new id (s ∷ sections) =
    elim (id_cmp new.id s.id) as (λ o. id_cmp new.id s.id ≡ o → section_at id (match_ordering o (new ∷ s ∷ sections) (new ∷ sections) (s ∷ with_section new sections)) ≡ cond (is_named id new) (Some new) (cond (is_named id s) (Some s) (section_at id sections))) [
      | Less ↦ λ is. refl
      | Equal ↦ λ is. rw (is_named_alike id s new (id_cmp-Equal new.id s is)) (same_found new s (is_named id new) (section_at id sections))
      | Greater ↦ λ is. ap (cond (is_named id s) (Some s)) (section_at-with_section new id sections) ∙ two_found new s (is_named id new) (is_named id s) (section_at id sections) (named_apart new s id is)
    ] refl

-- a section placed is found
pub section_at-with_section_same : (new : Section) (sections : List Section) → section_at new.id (with_section new sections) ≡ Some new
section_at-with_section_same new sections = section_at-with_section new new.id sections ∙ ap (λ b. cond b (Some new) (section_at new.id sections)) ((is_named_decides new.id new).1 refl)

-- the others are found as before one was placed
pub section_at-with_section_other : (new : Section) (id : List ℕ) (sections : List Section) → new.id ≢ id → section_at id (with_section new sections) ≡ section_at id sections
section_at-with_section_other new id sections other =
    section_at-with_section new id sections ∙ ap (λ b. cond b (Some new) (section_at id sections)) (false_from_ne_true (is_named id new) (λ named. other ((is_named_decides id new).0 named)))

-- the tests of a look-up where one identifier is taken away: at the section's being that one, at the two being one, at the section's being the one asked
taken_test : (s : Section) (gone same asked : Bool) (among all : Option Section) → (gone ≡ true → asked ≡ same) → (same ≡ true → gone ≡ asked) → among ≡ cond same None all → cond gone among (cond asked (Some s) among) ≡ cond same None (cond asked (Some s) all)
taken_test s gone same asked among all first second rest = grind arith

-- a section taken away is not found, and another as before
pub section_at-without_section : (x id : List ℕ) (sections : List Section) → section_at id (without_section x sections) ≡ (if pointwise nat_eq x id then None else section_at id sections)
section_at-without_section x id [] = elim (pointwise nat_eq x id) as (λ b. ◌≡◌ {A = Option Section} None (cond b None None)) [ true ↦ refl | false ↦ refl ]
section_at-without_section x id (s ∷ sections) =
    let first : is_named x s ≡ true → is_named id s ≡ pointwise nat_eq x id = λ at_x. ap (λ i. pointwise nat_eq i id) ((is_named_decides x s).0 at_x) in
    let second : pointwise nat_eq x id ≡ true → is_named x s ≡ is_named id s = λ same. ap (pointwise nat_eq s.id) ((bytes_decides x id).0 same) in
    elim (is_named x s) as (λ b. section_at id (cond (not b) (s ∷ without_section x sections) (without_section x sections)) ≡ cond b (section_at id (without_section x sections)) (cond (is_named id s) (Some s) (section_at id (without_section x sections)))) [ true ↦ refl | false ↦ refl ]
    ∙ taken_test s (is_named x s) (pointwise nat_eq x id) (is_named id s) _ (section_at id sections) first second (section_at-without_section x id sections)

-- a section taken away is not found
pub section_at-without_section_same : (id : List ℕ) (sections : List Section) → section_at id (without_section id sections) ≡ None
section_at-without_section_same id sections = section_at-without_section id id sections ∙ ap (λ b. cond b None (section_at id sections)) ((bytes_decides id id).1 refl)

-- the others are found as before one was taken away
pub section_at-without_section_other : (x id : List ℕ) (sections : List Section) → x ≢ id → section_at id (without_section x sections) ≡ section_at id sections
section_at-without_section_other x id sections other =
    section_at-without_section x id sections ∙ ap (λ b. cond b None (section_at id sections)) (false_from_ne_true (pointwise nat_eq x id) (λ same. other ((bytes_decides x id).0 same)))

-- ---- the order

-- below all stays below all where a section above is placed
pub IsBelowAll-with_section : (id : List ℕ) (new : Section) (sections : List Section) → id_cmp id new.id ≡ Less → IsBelowAll id sections → IsBelowAll id (with_section new sections)
IsBelowAll-with_section id new [] first below = (first, tt)
IsBelowAll-with_section id new (s ∷ sections) first below =
    elim (id_cmp new.id s.id) as (λ o. IsBelowAll id (match_ordering o (new ∷ s ∷ sections) (new ∷ sections) (s ∷ with_section new sections))) [
      | Less ↦ (first, below)
      | Equal ↦ (first, below.1)
      | Greater ↦ (below.0, IsBelowAll-with_section id new sections first below.1)
    ]

-- the identifiers rise still where a section is placed
pub Rises-with_section : (new : Section) (sections : List Section) → Rises sections → Rises (with_section new sections)
Rises-with_section new [] rises = (tt, tt)
Rises-with_section new (s ∷ sections) rises =
    elim (id_cmp new.id s.id) as (λ o. id_cmp new.id s.id ≡ o → Rises (match_ordering o (new ∷ s ∷ sections) (new ∷ sections) (s ∷ with_section new sections))) [
      | Less ↦ λ is. ((is, IsBelowAll-earlier new.id s.id sections is rises.0), rises)
      | Equal ↦ λ is. (subst (λ id. IsBelowAll id sections) (id_cmp-Equal new.id s is) rises.0, rises.1)
      | Greater ↦ λ is. (IsBelowAll-with_section s.id new sections (id_cmp_turned new.id s.id Greater is) rises.0, Rises-with_section new sections rises.1)
    ] refl

-- the identifiers rise still where a section is taken away
pub Rises-without_section : (id : List ℕ) (sections : List Section) → Rises sections → Rises (without_section id sections)
Rises-without_section id sections rises = Rises-filter (λ s. not (is_named id s)) sections rises

-- what holds of all and of the one placed holds of all then
pub All-with_section : (P : Section → Type 0) (new : Section) (sections : List Section) → P new → All P sections → All P (with_section new sections)
All-with_section P new [] here all = All-cons P new [] here all
All-with_section P new (s ∷ sections) here all =
    elim (id_cmp new.id s.id) as (λ o. All P (match_ordering o (new ∷ s ∷ sections) (new ∷ sections) (s ∷ with_section new sections))) [
      | Less ↦ All-cons P new (s ∷ sections) here all
      | Equal ↦ All-cons P new sections here (All-tail P s sections all)
      | Greater ↦ All-cons P s (with_section new sections) (All-head P s sections all) (All-with_section P new sections here (All-tail P s sections all))
    ]

-- ---- how many, and how many bytes

-- any sum over the sections, once one is placed: the section's own part takes the place of the one that it replaces
pub sum_by-with_section : (f : Section → ℕ) (new : Section) (sections : List Section) → Rises sections → sum_by f (with_section new sections) + option_map_or f (section_at new.id sections) 0 ≡ sum_by f sections + f new
sum_by-with_section f new [] rises = omega arith
sum_by-with_section f new (s ∷ sections) rises =
    let all = sum_by-cons f s sections in
    elim (id_cmp new.id s.id) as (λ o. id_cmp new.id s.id ≡ o → sum_by f (match_ordering o (new ∷ s ∷ sections) (new ∷ sections) (s ∷ with_section new sections)) + option_map_or f (cond (is_named new.id s) (Some s) (section_at new.id sections)) 0 ≡ sum_by f (s ∷ sections) + f new) [
      | Less ↦ λ is.
          let none : section_at new.id sections ≡ None = section_at-below_all new.id sections (IsBelowAll-earlier new.id s.id sections is rises.0) in
          rw (is_named-by_order new.id s Less is, none) (omega (arith, sum_by-cons f new (s ∷ sections)))
      | Equal ↦ λ is. rw (is_named-by_order new.id s Equal is) (omega (arith, all, sum_by-cons f new sections))
      | Greater ↦ λ is. rw (is_named-by_order new.id s Greater is) (omega (arith, all, sum_by-cons f s (with_section new sections), sum_by-with_section f new sections rises.1))
    ] refl

-- any sum over the sections, once one is taken away
pub sum_by-without_section : (f : Section → ℕ) (id : List ℕ) (sections : List Section) → Rises sections → sum_by f (without_section id sections) + option_map_or f (section_at id sections) 0 ≡ sum_by f sections
sum_by-without_section f id [] rises = refl
sum_by-without_section f id (s ∷ sections) rises =
    let all = sum_by-cons f s sections in
    let rest = sum_by-without_section f id sections rises.1 in
    elim (is_named id s) as (λ b. is_named id s ≡ b → sum_by f (cond (not b) (s ∷ without_section id sections) (without_section id sections)) + option_map_or f (cond b (Some s) (section_at id sections)) 0 ≡ sum_by f (s ∷ sections)) [
      | true ↦ λ named.
          let none : section_at id sections ≡ None = section_at_after id s sections rises.0 named in
          let nothing : option_map_or f (section_at id sections) 0 ≡ 0 = ap (λ o. option_map_or f o 0) none in
          omega (arith, all, rest, nothing)
      | false ↦ λ other. omega (arith, all, rest, sum_by-cons f s (without_section id sections))
    ] refl

-- the bytes together, once a section is placed
pub memory_used-with_section : (new : Section) (sections : List Section) → Rises sections → memory_used (with_section new sections) + option_map_or size_of (section_at new.id sections) 0 ≡ memory_used sections + size_of new
memory_used-with_section new sections rises = sum_by-with_section size_of new sections rises

-- the bytes together, once a section takes another's place
pub memory_used-with_section_over : (new s : Section) (sections : List Section) → Rises sections → section_at new.id sections ≡ Some s → memory_used (with_section new sections) + size_of s ≡ memory_used sections + size_of new
memory_used-with_section_over new s sections rises there = rw there at (memory_used-with_section new sections rises)

-- the bytes together, once a section is taken away
pub memory_used-without_section : (id : List ℕ) (sections : List Section) → Rises sections → memory_used (without_section id sections) + option_map_or size_of (section_at id sections) 0 ≡ memory_used sections
memory_used-without_section id sections rises = sum_by-without_section size_of id sections rises

-- taking a section away takes no more bytes
pub memory_used-without_section-le : (id : List ℕ) (sections : List Section) → memory_used (without_section id sections) ≤ memory_used sections
memory_used-without_section-le id sections = memory_used-filter-le (λ s. not (is_named id s)) sections

-- a length is a sum of ones
length-sum_by : (sections : List Section) → length sections ≡ sum_by (λ s. 1) sections
length-sum_by [] = refl
length-sum_by (s ∷ sections) = omega (arith, length-sum_by sections, sum_by-cons (λ x. 1) s sections)

-- what is found counts one, and nothing counts none
one_where_some : (found : Option Section) → cond {A = ℕ} (is_some found) 1 0 ≡ option_map_or (λ s. 1) found 0
one_where_some None = refl
one_where_some (Some s) = refl

-- placing a section gives one more just where its identifier was not taken
pub length-with_section : (new : Section) (sections : List Section) → Rises sections → length (with_section new sections) + (if is_taken new.id sections then 1 else 0) ≡ length sections + 1
length-with_section new sections rises =
    rw (length-sum_by (with_section new sections), length-sum_by sections, one_where_some (section_at new.id sections)) (sum_by-with_section (λ s. 1) new sections rises)

-- a section that takes another's place leaves their number
pub length-with_section_taken : (new : Section) (sections : List Section) → Rises sections → is_taken new.id sections ≡ true → length (with_section new sections) ≡ length sections
length-with_section_taken new sections rises taken = let all = rw taken at (length-with_section new sections rises) in omega arith

-- a section whose identifier was not taken is one more
pub length-with_section_free : (new : Section) (sections : List Section) → Rises sections → is_taken new.id sections ≡ false → length (with_section new sections) ≡ length sections + 1
length-with_section_free new sections rises free = let all = rw free at (length-with_section new sections rises) in omega arith

-- taking a section away leaves one fewer just where its identifier was taken
pub length-without_section : (id : List ℕ) (sections : List Section) → Rises sections → length (without_section id sections) + (if is_taken id sections then 1 else 0) ≡ length sections
length-without_section id sections rises =
    rw (length-sum_by (without_section id sections), length-sum_by sections, one_where_some (section_at id sections)) (sum_by-without_section (λ s. 1) id sections rises)

-- taking a section away takes no more places
pub length-without_section-le : (id : List ℕ) (sections : List Section) → length (without_section id sections) ≤ length sections
length-without_section-le id sections = length-filter_le (λ s. not (is_named id s)) sections

-- taking a section away leaves fewer where its identifier was taken, in whatever order the sections stand
pub length-without_section-lt : (id : List ℕ) (sections : List Section) → is_taken id sections ≡ true → length (without_section id sections) < length sections
length-without_section-lt id [] taken = absurd (false≢true taken)
length-without_section-lt id (s ∷ sections) taken =
    elim (cases_Bool (is_named id s)) [
      | inl here ↦ rw here (omega (arith, length-without_section-le id sections))
      | inr there ↦
          let later : is_taken id sections ≡ true = rw there at taken in
          rw there (omega (arith, length-without_section-lt id sections later))
    ]
