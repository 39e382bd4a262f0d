-- Where an identifier stands among sections that rise, and what a change there makes of them.
use Rattle.std.proofs.Common.{◌≡◌, ◌≢◌, ℕ, zero, suc, ◌<◌, ◌≤◌, List, [], ◌∷◌, length, take, Option, Some, None, Ok, Err, option_map, slice_get, true, false, cond, not, Less, Equal, Greater, sym, ap, ◌∙◌, subst, refl, inl, inr, arith}
use Rattle.std.specs.Prelude.{insert, remove}
use Rattle.std.specs.Option.{ok_or}
use Rattle.std.specs.Ordering.{match_ordering}
use Rattle.std.specs.Result.{result_ok}
use Rattle.std.proofs.lemmas.Bool.{cases_eq}
use Rattle.std.proofs.lemmas.Cmp.{nat_list_cmp_total, tied_itself}
use Rattle.std.proofs.lemmas.Option.{none-some, same_Some}
use Rattle.ckpt_types.specs.Sections.{Section, id_cmp, is_named, section_at, place_of, IsBelowAll, Rises, with_section, without_section}
use Rattle.ckpt_types.proofs.Presence.{is_named_decides, is_named-by_order, id_cmp_turned, id_cmp_trans, section_at-place_of, section_at-named, id_cmp-IsBelowAll}
use Rattle.section_store.specs.Places.{count_below, changed_at}

-- ---- the order

-- an identifier ties with itself
pub id_cmp_same : (x y : List ℕ) → x ≡ y → id_cmp x y ≡ Equal
id_cmp_same x y e = ap (id_cmp x) (sym e) ∙ tied_itself nat_list_cmp_total x

-- what has a place has a section there
pub slice_get-within : (sections : List Section) (i : ℕ) → i < length sections → (s : Section) × (slice_get sections i ≡ Some s)
slice_get-within [] i lt = absurd (omega arith)
slice_get-within (s ∷ sections) zero lt = (s, refl)
slice_get-within (s ∷ sections) (suc i) lt = slice_get-within sections i (omega arith)

-- ---- the place

-- there are no more sections before a place than sections
pub count_below-le-length : (id : List ℕ) (sections : List Section) → count_below id sections ≤ length sections
count_below-le-length id [] = omega arith
count_below-le-length id (x ∷ sections) =
    let rest = count_below-le-length id sections in
    elim (id_cmp id x.id) as (λ o. match_ordering o 0 0 (suc (count_below id sections)) ≤ suc (length sections)) [ Less ↦ omega arith | Equal ↦ omega arith | Greater ↦ omega arith ]

-- a section before an identifier is counted, with those before it
pub count_below-above : (id : List ℕ) (sections : List Section) (i : ℕ) (s : Section) → Rises sections → slice_get sections i ≡ Some s → id_cmp id s.id ≡ Greater → i < count_below id sections
count_below-above id [] i s rises is above = absurd (none-some s is)
count_below-above id (x ∷ sections) zero s rises is above =
    let here : id_cmp id x.id ≡ Greater = ap (λ y. id_cmp id y.id) (same_Some x s is) ∙ above in
    rw here (omega arith)
count_below-above id (x ∷ sections) (suc i) s rises is above =
    let first : id_cmp x.id id ≡ Less = id_cmp_trans x.id s.id id (id_cmp-IsBelowAll x.id sections i s rises.0 is) (id_cmp_turned id s.id Greater above) in
    let here : id_cmp id x.id ≡ Greater = id_cmp_turned x.id id Less first in
    let rest : i < count_below id sections = count_below-above id sections i s rises.1 is above in
    rw here (omega arith)

-- a section that is not before an identifier is not counted, nor is one behind it
pub count_below-le : (id : List ℕ) (sections : List Section) (i : ℕ) (s : Section) → slice_get sections i ≡ Some s → id_cmp id s.id ≢ Greater → count_below id sections ≤ i
count_below-le id [] i s is low = absurd (none-some s is)
count_below-le id (x ∷ sections) zero s is low =
    elim (id_cmp id x.id) as (λ o. id_cmp id x.id ≡ o → match_ordering o 0 0 (suc (count_below id sections)) ≤ 0) [
      | Less ↦ λ e. omega arith
      | Equal ↦ λ e. omega arith
      | Greater ↦ λ e. absurd (low (ap (λ y. id_cmp id y.id) (sym (same_Some x s is)) ∙ e))
    ] refl
count_below-le id (x ∷ sections) (suc i) s is low =
    let rest = count_below-le id sections i s is low in
    elim (id_cmp id x.id) as (λ o. match_ordering o 0 0 (suc (count_below id sections)) ≤ suc i) [ Less ↦ omega arith | Equal ↦ omega arith | Greater ↦ omega arith ]

-- none is counted before the section of that identifier, where it is the first
count_below-here : (id : List ℕ) (x : Section) (n : ℕ) → is_named id x ≡ true → match_ordering (id_cmp id x.id) 0 0 n ≡ 0
count_below-here id x n named = rw (id_cmp_same id x.id (sym ((is_named_decides id x).0 named))) refl

-- a place behind the first is one behind a place
pub suc_place : (place : Option ℕ) (i : ℕ) → option_map suc place ≡ Some i → (j : ℕ) × (place ≡ Some j) × (suc j ≡ i)
suc_place None i is = absurd (none-some i is)
suc_place (Some j) i is = (j, refl, same_Some (suc j) i is)

-- the first of sections that rise stands before one that is found behind it
pub id_cmp-found : (x : Section) (id : List ℕ) (sections : List Section) (j : ℕ) → IsBelowAll x.id sections → place_of id sections ≡ Some j → id_cmp x.id id ≡ Less
id_cmp-found x id [] j below is = absurd (none-some j is)
id_cmp-found x id (y ∷ sections) j below is =
    elim (is_named id y) as (λ b. is_named id y ≡ b → cond b (Some 0) (option_map suc (place_of id sections)) ≡ Some j → id_cmp x.id id ≡ Less) [
      | true ↦ λ named at. subst (λ i. id_cmp x.id i ≡ Less) ((is_named_decides id y).0 named) below.0
      | false ↦ λ other at. let (k, at_k, next) = suc_place (place_of id sections) j at in id_cmp-found x id sections k below.1 at_k
    ] refl is

-- the section of that identifier stands at its place
pub count_below-place_of : (id : List ℕ) (sections : List Section) (i : ℕ) → Rises sections → place_of id sections ≡ Some i → count_below id sections ≡ i
count_below-place_of id [] i rises is = absurd (none-some i is)
count_below-place_of id (x ∷ sections) i rises is =
    elim (is_named id x) as (λ b. is_named id x ≡ b → cond b (Some 0) (option_map suc (place_of id sections)) ≡ Some i → count_below id (x ∷ sections) ≡ i) [
      | true ↦ λ named at. count_below-here id x _ named ∙ same_Some 0 i at
      | false ↦ λ other at.
          let (j, at_j, next) = suc_place (place_of id sections) i at in
          let here : id_cmp id x.id ≡ Greater = id_cmp_turned x.id id Less (id_cmp-found x id sections j rises.0 at_j) in
          rw here (ap suc (count_below-place_of id sections j rises.1 at_j) ∙ next)
    ] refl is

-- what is found, or else another place, gives what is found
pub result_ok-ok_or : (found : Option ℕ) (other : ℕ) → result_ok (ok_or found other) ≡ found
result_ok-ok_or None other = refl
result_ok-ok_or (Some i) other = refl

-- the place that is found is behind those that are counted
pub count_below-found : (id : List ℕ) (sections : List Section) (i : ℕ) → Rises sections → Ok i ≡ ok_or (place_of id sections) (count_below id sections) → i ≡ count_below id sections
count_below-found id sections i rises is =
    elim (place_of id sections) as (λ o. place_of id sections ≡ o → Ok i ≡ ok_or o (count_below id sections) → i ≡ count_below id sections) [
      | None ↦ λ nowhere found. absurd (cc found)
      | Some j ↦ λ at found. let same : i ≡ j = cc found in same ∙ sym (count_below-place_of id sections j rises at)
    ] refl is

-- where none is found, the place to put it is behind those that are counted
pub count_below-not_found : (id : List ℕ) (sections : List Section) (i : ℕ) → Err i ≡ ok_or (place_of id sections) (count_below id sections) → i ≡ count_below id sections
count_below-not_found id sections i is =
    elim (place_of id sections) as (λ o. Err i ≡ ok_or o (count_below id sections) → i ≡ count_below id sections) [
      | None ↦ λ missed. cc missed
      | Some j ↦ λ missed. absurd (cc missed)
    ] is

-- an identifier before that of the section at a place has its own place before it
pub place_of-below : (id : List ℕ) (sections : List Section) (m i : ℕ) (s : Section) → Rises sections → slice_get sections m ≡ Some s → id_cmp id s.id ≡ Less → place_of id sections ≡ Some i → i < m
place_of-below id sections m i s rises is below at =
    let low : id_cmp id s.id ≢ Greater = λ above. cc (below, above) in
    elim (cases_eq i m) [
      | inl same ↦
          let found : section_at id sections ≡ Some s = section_at-place_of id sections i at ∙ ap (slice_get sections) same ∙ is in
          let tie : id_cmp id s.id ≡ Equal = id_cmp_same id s.id (sym (section_at-named id sections s found)) in
          absurd (cc (below, tie))
      | inr other ↦ omega (arith, count_below-le id sections m s is low, count_below-place_of id sections i rises at)
    ]

-- ---- the changes

-- a section that takes the place of the one found is that one changed
pub with_section-changed_at : (change : Section → Section) (id : List ℕ) (sections : List Section) (i : ℕ) (was : Section) → Rises sections → place_of id sections ≡ Some i → section_at id sections ≡ Some was → (change was).id ≡ id → with_section (change was) sections ≡ changed_at change i sections
with_section-changed_at change id [] i was rises is found same = absurd (none-some i is)
with_section-changed_at change id (x ∷ sections) i was rises is found same =
    elim (is_named id x) as (λ b. is_named id x ≡ b → cond b (Some 0) (option_map suc (place_of id sections)) ≡ Some i → cond b (Some x) (section_at id sections) ≡ Some was → with_section (change was) (x ∷ sections) ≡ changed_at change i (x ∷ sections)) [
      | true ↦ λ named at there.
          let tie : id_cmp (change was).id x.id ≡ Equal = id_cmp_same (change was).id x.id (same ∙ sym ((is_named_decides id x).0 named)) in
          rw (tie, ← same_Some 0 i at, ← same_Some x was there) refl
      | false ↦ λ other at there.
          let (j, at_j, next) = suc_place (place_of id sections) i at in
          let here : id_cmp (change was).id x.id ≡ Greater = ap (λ y. id_cmp y x.id) same ∙ id_cmp_turned x.id id Less (id_cmp-found x id sections j rises.0 at_j) in
          rw (here, ← next) (ap (λ rest. x ∷ rest) (with_section-changed_at change id sections j was rises.1 at_j there same))
    ] refl is found

-- a section whose identifier was not there is put in at its place
pub with_section-insert : (new : Section) (sections : List Section) → section_at new.id sections ≡ None → with_section new sections ≡ insert sections (count_below new.id sections) new
with_section-insert new [] none = refl
with_section-insert new (x ∷ sections) none =
    elim (id_cmp new.id x.id) as (λ o. id_cmp new.id x.id ≡ o → match_ordering o (new ∷ x ∷ sections) (new ∷ sections) (x ∷ with_section new sections) ≡ insert (x ∷ sections) (match_ordering o 0 0 (suc (count_below new.id sections))) new) [
      | Less ↦ λ is. refl
      | Equal ↦ λ is. absurd (none-some x (sym (rw (is_named-by_order new.id x Equal is) at none)))
      | Greater ↦ λ is. ap (λ rest. x ∷ rest) (with_section-insert new sections (rw (is_named-by_order new.id x Greater is) at none))
    ] refl

-- nothing goes where the identifier is before all
pub without_section-below : (id : List ℕ) (sections : List Section) → IsBelowAll id sections → without_section id sections ≡ sections
without_section-below id [] below = refl
without_section-below id (x ∷ sections) below = rw (is_named-by_order id x Less below.0) (ap (λ rest. x ∷ rest) (without_section-below id sections below.1))

-- the section of that identifier goes from its place
pub without_section-remove : (id : List ℕ) (sections : List Section) (i : ℕ) → Rises sections → place_of id sections ≡ Some i → without_section id sections ≡ remove sections i
without_section-remove id [] i rises is = absurd (none-some i is)
without_section-remove id (x ∷ sections) i rises is =
    elim (is_named id x) as (λ b. is_named id x ≡ b → cond b (Some 0) (option_map suc (place_of id sections)) ≡ Some i → cond (not b) (x ∷ without_section id sections) (without_section id sections) ≡ remove (x ∷ sections) i) [
      | true ↦ λ named at. rw (← same_Some 0 i at) (without_section-below id sections (subst (λ y. IsBelowAll y sections) ((is_named_decides id x).0 named) rises.0))
      | false ↦ λ other at.
          let (j, at_j, next) = suc_place (place_of id sections) i at in
          rw (← next) (ap (λ rest. x ∷ rest) (without_section-remove id sections j rises.1 at_j))
    ] refl is

-- the first sections with the next one put in behind them are the first ones and one more
pub insert-take : (sections : List Section) (i : ℕ) (s : Section) → slice_get sections i ≡ Some s → insert (take i sections) i s ≡ take (suc i) sections
insert-take [] i s is = absurd (none-some s is)
insert-take (x ∷ sections) zero s is = ap (λ y. y ∷ []) (sym (same_Some x s is))
insert-take (x ∷ sections) (suc i) s is = ap (λ xs. x ∷ xs) (insert-take sections i s is)
