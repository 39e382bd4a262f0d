-- Where an update goes: the places of sections among those that are present, and the plan of a write, an element behind another.
use Rattle.std.proofs.Common.{◌≡◌, ◌≢◌, ℕ, zero, suc, ◌+◌, ◌*◌, ◌^◌, ◌≤◌, ◌<◌, List, [], ◌∷◌, ◌++◌, length, take, max, Some, None, option_map, unwrap_or, is_some, slice_get, Bool, true, false, cond, if◌then◌else◌, ◌==◌, Less, Equal, Greater, ℤ, ◌<ℤ◌, int_lt, sym, ap, ◌∙◌, subst, refl, inl, inr, arith, append_assoc, append-nil, eq-eqb, ne_eqb}
use Rattle.std.specs.Prelude.{IsOk, Ok}
use Rattle.std.specs.Ordering.{match_ordering}
use Rattle.std.proofs.lemmas.Bool.{cases_eq}
use Rattle.std.proofs.lemmas.Int.{ints, clamps}
use Rattle.std.proofs.lemmas.Option.{none-some, same_Some}
use Rattle.ckpt_types.specs.declared.attributes.CreationAttributes.{CreationAttributes}
use Rattle.ckpt_types.specs.declared.update.IoElement.{IoElement}
use Rattle.ckpt_types.specs.Attributes.{is_malformed}
use Rattle.ckpt_types.proofs.AttributeLaws.{IsWellFormed-from_check}
use Rattle.std.proofs.Math.Nat.{mul-le-mul_right, max-eq_left}
use Rattle.std.proofs.lemmas.List.Elements.{All-push}
use Rattle.ckpt_types.specs.Sections.{Section, Rises, Fits, IsBelowAll, id_cmp, is_named, is_present, present, place_of, section_at, size_of, earliest_expiration}
use Rattle.ckpt_types.specs.Updates.{written, element_written, elements_written}
use Rattle.ckpt_types.proofs.Accepted.{element_written-Ok}
use Rattle.ckpt_types.proofs.Fitting.{length-written}
use Rattle.ckpt_types.proofs.Presence.{is_named_decides, is_named-by_order, IsBelowAll-earlier, IsBelowAll-present, section_at-present, where_present-Some, section_at-named, section_at-place_of, section_at-no_place, place_of-lt}
use Rattle.section_store.specs.Places.{count_below, changed_at, place_among_present}
use Rattle.section_store.specs.Planned.{planned_at, planned_elements, left_by, size_found, size_planned, next_planned, KeepSizes}
use Rattle.section_store.specs.declared.plan.Planned.{Planned}
use Rattle.section_store.proofs.PlaceLemmas.{slice_get-within, suc_place}
use Rattle.section_store.proofs.Placed.{Ok_from_IsOk, element_written-IsOk, element_written-any_place, element_written-changed_at}

-- ---- places

-- what is found has a place
pub place_of-Some : (id : List ℕ) (sections : List Section) (s : Section) → section_at id sections ≡ Some s → (i : ℕ) × (place_of id sections ≡ Some i)
place_of-Some id sections s is =
    elim (place_of id sections) as (λ o. place_of id sections ≡ o → (i : ℕ) × (o ≡ Some i)) [
      | None ↦ λ nowhere. absurd (none-some s (sym (section_at-no_place id sections nowhere) ∙ is))
      | Some i ↦ λ at. (i, refl)
    ] refl

pub is_some-place_of : (id : List ℕ) (sections : List Section) (s : Section) → section_at id sections ≡ Some s → is_some (place_of id sections) ≡ true
is_some-place_of id sections s is = let (i, at) = place_of-Some id sections s is in ap is_some at

-- what has a place is found there
pub section_at-Some : (id : List ℕ) (sections : List Section) (i : ℕ) → place_of id sections ≡ Some i → (s : Section) × (section_at id sections ≡ Some s) × (slice_get sections i ≡ Some s)
section_at-Some id sections i at =
    let (s, is) = slice_get-within sections i (place_of-lt id sections i at) in
    (s, section_at-place_of id sections i at ∙ is, is)

-- what is found of those present is found of all, and present
pub section_at-of_present : (t : ℤ) (id : List ℕ) (sections : List Section) (s : Section) → Rises sections → section_at id (present t sections) ≡ Some s → (section_at id sections ≡ Some s) × (is_present t s ≡ true)
section_at-of_present t id sections s rises is = where_present-Some t (section_at id sections) s (sym (section_at-present t id sections rises) ∙ is)

-- the first one is present, where it is found of those present
here_present : (t : ℤ) (id : List ℕ) (x : Section) (sections : List Section) (s : Section) → Rises (x ∷ sections) → section_at id (present t (x ∷ sections)) ≡ Some s → is_named id x ≡ true → is_present t x ≡ true
here_present t id x sections s rises is named =
    let (found, here) = section_at-of_present t id (x ∷ sections) s rises is in
    let there : section_at id (x ∷ sections) ≡ Some x = rw named refl in
    ap (is_present t) (same_Some x s (sym there ∙ found)) ∙ here

-- one that is not the first stands behind it, where the first is present, and else where it stands without it
beside : (b : Bool) (id : List ℕ) (x : Section) (all before : List Section) (s : Section) → is_named id x ≡ false → section_at id (cond b (x ∷ all) all) ≡ Some s → (section_at id all ≡ Some s → place_of id all ≡ Some (length before))
    → place_of id (cond b (x ∷ all) all) ≡ Some (length (cond b (x ∷ before) before))
beside true id x all before s other is rest = let found : section_at id all ≡ Some s = rw other at is in rw other (ap (option_map suc) (rest found))
beside false id x all before s other is rest = rest is

-- among those present a section stands behind those that stand before it and are present
pub place_of-present : (t : ℤ) (id : List ℕ) (sections : List Section) (i : ℕ) (s : Section) → Rises sections → place_of id sections ≡ Some i → section_at id (present t sections) ≡ Some s → place_of id (present t sections) ≡ Some (place_among_present t i sections)
place_of-present t id [] i s rises at is = absurd (none-some i at)
place_of-present t id (x ∷ sections) i s rises at is =
    elim (is_named id x) as (λ b. is_named id x ≡ b → cond b (Some 0) (option_map suc (place_of id sections)) ≡ Some i → place_of id (present t (x ∷ sections)) ≡ Some (place_among_present t i (x ∷ sections))) [
      | true ↦ λ named first.
          let here : is_present t x ≡ true = here_present t id x sections s rises is named in
          rw (← same_Some 0 i first, here, named) refl
      | false ↦ λ other first.
          let (j, at_j, next) = suc_place (place_of id sections) i first in
          rw (← next) (beside (is_present t x) id x (present t sections) (present t (take j sections)) s other is (place_of-present t id sections j s rises.1 at_j))
    ] refl at

-- none is before an identifier that stands before all
count_below-IsBelowAll : (id : List ℕ) (sections : List Section) → IsBelowAll id sections → count_below id sections ≡ 0
count_below-IsBelowAll id [] below = refl
count_below-IsBelowAll id (x ∷ sections) below = rw below.0 refl

-- those present that stand before an identifier are as many as are present of those that stand before it
pub count_below-present : (t : ℤ) (id : List ℕ) (sections : List Section) → Rises sections → count_below id (present t sections) ≡ place_among_present t (count_below id sections) sections
count_below-present t id [] rises = refl
count_below-present t id (x ∷ sections) rises =
    elim (id_cmp id x.id) as (λ o. id_cmp id x.id ≡ o → count_below id (present t (x ∷ sections)) ≡ length (present t (take (match_ordering o 0 0 (suc (count_below id sections))) (x ∷ sections)))) [
      | Less ↦ λ is. count_below-IsBelowAll id (present t (x ∷ sections)) (IsBelowAll-present t id (x ∷ sections) (is, IsBelowAll-earlier id x.id sections is rises.0))
      | Equal ↦ λ is.
          let tie : x.id ≡ id = (is_named_decides id x).0 (is_named-by_order id x Equal is) in
          let behind : count_below id (present t sections) ≡ 0 = count_below-IsBelowAll id (present t sections) (IsBelowAll-present t id sections (subst (λ y. IsBelowAll y sections) tie rises.0)) in
          elim (is_present t x) as (λ b. count_below id (cond b (x ∷ present t sections) (present t sections)) ≡ 0) [ true ↦ rw is refl | false ↦ behind ]
      | Greater ↦ λ is.
          let rest = count_below-present t id sections rises.1 in
          elim (is_present t x) as (λ b. count_below id (cond b (x ∷ present t sections) (present t sections)) ≡ length (cond b (x ∷ present t (take (count_below id sections) sections)) (present t (take (count_below id sections) sections)))) [ true ↦ rw is (ap suc rest) | false ↦ rest ]
    ] refl

-- a change that leaves the identifiers moves none
pub place_of-changed_at : (change : Section → Section) (id : List ℕ) (i : ℕ) (sections : List Section) → ((s : Section) → (change s).id ≡ s.id) → place_of id (changed_at change i sections) ≡ place_of id sections
place_of-changed_at change id i [] same = refl
place_of-changed_at change id zero (s ∷ sections) same =
    let named : is_named id (change s) ≡ is_named id s = ap (λ x. is_named id (record s { id = x })) (same s) in
    ap (λ b. cond b (Some 0) (option_map suc (place_of id sections))) named
place_of-changed_at change id (suc i) (s ∷ sections) same = ap (λ o. cond (is_named id s) (Some 0) (option_map suc o)) (place_of-changed_at change id i sections same)

-- the one at the place is changed
slice_get-changed_at : (change : Section → Section) (i : ℕ) (sections : List Section) (s : Section) → slice_get sections i ≡ Some s → slice_get (changed_at change i sections) i ≡ Some (change s)
slice_get-changed_at change i [] s is = absurd (none-some s is)
slice_get-changed_at change zero (x ∷ sections) s is = ap (λ y. Some (change y)) (same_Some x s is)
slice_get-changed_at change (suc i) (x ∷ sections) s is = slice_get-changed_at change i sections s is

-- and no other
slice_get-changed_at-other : (change : Section → Section) (i j : ℕ) (sections : List Section) → i ≢ j → slice_get (changed_at change i sections) j ≡ slice_get sections j
slice_get-changed_at-other change i j [] other = refl
slice_get-changed_at-other change zero zero (x ∷ sections) other = absurd (other refl)
slice_get-changed_at-other change zero (suc j) (x ∷ sections) other = refl
slice_get-changed_at-other change (suc i) zero (x ∷ sections) other = refl
slice_get-changed_at-other change (suc i) (suc j) (x ∷ sections) other = slice_get-changed_at-other change i j sections (λ same. other (ap suc same))

-- before the earliest expiration all keep their places
pub place_among_present-all : (t : ℤ) (sections : List Section) (i : ℕ) → t <ℤ earliest_expiration sections → i ≤ length sections → i ≡ place_among_present t i sections
place_among_present-all t [] zero before within = refl
place_among_present-all t [] (suc i) before within = absurd (omega (arith, within))
place_among_present-all t (s ∷ sections) zero before within = refl
place_among_present-all t (s ∷ sections) (suc i) before within =
    let here : int_lt t s.expiration ≡ true = grind (arith, ints) in
    let rest : t <ℤ earliest_expiration sections = omega (arith, ints, clamps) in
    rw here (ap suc (place_among_present-all t sections i rest (omega arith)))

-- ---- one section

-- a section that is changed has the entry of its place, with the size that it has then
pub planned_at-changed_at : (change : Section → Section) (id : List ℕ) (i : ℕ) (sections : List Section) (was : Section) → ((s : Section) → (change s).id ≡ s.id) → place_of id sections ≡ Some i → section_at id sections ≡ Some was
    → planned_at id (changed_at change i sections) ≡ record { place = i; size = size_of (change was) }
planned_at-changed_at change id i sections was same place there =
    let at = place_of-changed_at change id i sections same ∙ place in
    let found : section_at id (changed_at change i sections) ≡ Some (change was) =
    section_at-place_of id (changed_at change i sections) i at ∙ slice_get-changed_at change i sections was (sym (section_at-place_of id sections i place) ∙ there) in
    λ k. record { place = unwrap_or (at k) 0; size = size_found (found k) }

-- ---- a write

-- one entry more is the last of its place
size_planned-push : (place size : ℕ) (plan : List Planned) (entry : Planned) → size_planned place size (plan ++ entry ∷ []) ≡ (if entry.place == place then entry.size else size_planned place size plan)
size_planned-push place size [] entry = refl
size_planned-push place size (x ∷ plan) entry = size_planned-push place (if x.place == place then x.size else size) plan entry

-- behind some elements of a write: the sections that they left, where each stands as at the start and has the size that is
-- planned last; what is planned of the others makes the plan whole
pub record GoesOn (a : CreationAttributes) (t : ℤ) (rest : List IoElement) (start : List Section) (plan whole : List Planned) : Type 0 where
  pub left : List Section
  pub index : ℕ
  pub rises : Rises left
  pub fits : Fits a left
  pub accepted : IsOk (elements_written a t index rest left)
  pub whole_plan : plan ++ planned_elements a t rest left ≡ whole
  pub places : (id : List ℕ) → place_of id left ≡ place_of id start
  pub sizes : (id : List ℕ) (i : ℕ) → place_of id start ≡ Some i → size_found (section_at id left) ≡ size_planned i (size_found (section_at id start)) plan

-- before the first element
pub GoesOn-start : (a : CreationAttributes) (t : ℤ) (elements : List IoElement) (start : List Section) → Rises start → Fits a start → IsOk (elements_written a t 0 elements start) → GoesOn a t elements start [] (planned_elements a t elements start)
GoesOn-start a t elements start rises fits accepted =
    record { left = start; index = 0; rises = rises; fits = fits; accepted = accepted; whole_plan = refl; places = λ id. refl; sizes = λ id i at. refl }

-- behind the last
pub GoesOn-end : (a : CreationAttributes) (t : ℤ) (start : List Section) (plan whole : List Planned) → GoesOn a t [] start plan whole → plan ≡ whole
GoesOn-end a t start plan whole g = sym (append-nil plan) ∙ g.whole_plan

-- the first of the elements that are left has a section at that place, and ends where a section may end
pub record IsNext (a : CreationAttributes) (t : ℤ) (e : IoElement) (left : List Section) : Type 0 where
  pub was : Section
  pub there : section_at e.id left ≡ Some was
  pub place : ℕ
  pub at : place_of e.id left ≡ Some place
  pub small : e.offset + length e.bytes ≤ a.max_section_size
  pub accepted : IsOk (element_written a t 0 e left)

pub IsNext-first : (a : CreationAttributes) (t : ℤ) (index : ℕ) (e : IoElement) (rest : List IoElement) (left : List Section) → IsOk (elements_written a t index (e ∷ rest) left) → IsNext a t e left
IsNext-first a t index e rest left accepted =
    let first : IsOk (element_written a t 0 e left) = element_written-IsOk a t index e rest left accepted in
    let (after, is) = Ok_from_IsOk (element_written a t 0 e left) first in
    let done = element_written-Ok a t 0 e left after is in
    let (i, at) = place_of-Some e.id left done.was done.there in
    record { was = done.was; there = done.there; place = i; at = at; small = done.small; accepted = first }

-- where one place is that of two identifiers, they are one
same_id : (x id : List ℕ) (i k : ℕ) (sections : List Section) → place_of x sections ≡ Some i → place_of id sections ≡ Some k → i ≡ k → x ≡ id
same_id x id i k sections at_i at_k same =
    let (r, found_r, there_r) = section_at-Some x sections i at_i in
    let (s, found_s, there_s) = section_at-Some id sections k at_k in
    let one : r ≡ s = same_Some r s (sym there_r ∙ ap (slice_get sections) same ∙ there_s) in
    sym (section_at-named x sections r found_r) ∙ ap (λ y. y.id) one ∙ section_at-named id sections s found_s

-- the elements behind the first are not refused
accepted_next : (a : CreationAttributes) (t : ℤ) (index : ℕ) (e : IoElement) (rest : List IoElement) (left after : List Section) → element_written a t 0 e left ≡ Ok after → IsOk (elements_written a t index (e ∷ rest) left) → IsOk (elements_written a t (index + 1) rest after)
accepted_next a t index e rest left after is accepted =
    let first : element_written a t index e left ≡ Ok after = element_written-any_place a t 0 index e left after is in
    rw first at accepted

-- what is next has a section among those present
found_next : (a : CreationAttributes) (t : ℤ) (e : IoElement) (rest : List IoElement) (start : List Section) (plan whole : List Planned) → GoesOn a t (e ∷ rest) start plan whole
    → (i : ℕ) × (s : Section) × (place_of e.id start ≡ Some i) × (section_at e.id start ≡ Some s)
found_next a t e rest start plan whole g =
    let next = IsNext-first a t g.index e rest g.left g.accepted in
    let at : place_of e.id start ≡ Some next.place = sym (g.places e.id) ∙ next.at in
    let (s, found, there) = section_at-Some e.id start next.place at in
    (next.place, s, at, found)

-- the next element has a section, and ends where a section may end
pub GoesOn-there : (a : CreationAttributes) (t : ℤ) (e : IoElement) (rest : List IoElement) (sections : List Section) (plan whole : List Planned) → Rises sections → GoesOn a t (e ∷ rest) (present t sections) plan whole → is_some (place_of e.id sections) ≡ true
GoesOn-there a t e rest sections plan whole rises g =
    let (i, s, at, found) = found_next a t e rest (present t sections) plan whole g in
    is_some-place_of e.id sections s (section_at-of_present t e.id sections s rises found).0

pub GoesOn-small : (a : CreationAttributes) (t : ℤ) (e : IoElement) (rest : List IoElement) (start : List Section) (plan whole : List Planned) → GoesOn a t (e ∷ rest) start plan whole → e.offset + length e.bytes ≤ a.max_section_size
GoesOn-small a t e rest start plan whole g = (IsNext-first a t g.index e rest g.left g.accepted).small

-- what is next is planned as the element that follows
entry_next : (t : ℤ) (e : IoElement) (sections left : List Section) (plan : List Planned) (i : ℕ) (was s : Section) → Rises sections → place_of e.id sections ≡ Some i → section_at e.id (present t sections) ≡ Some s
    → place_of e.id left ≡ Some (place_among_present t i sections) → section_at e.id left ≡ Some was → size_of was ≡ size_planned (place_among_present t i sections) (size_of s) plan
    → planned_at e.id (changed_at (λ s. record s { bytes = written s.bytes e.offset e.bytes; last_update = t }) (place_among_present t i sections) left) ≡ next_planned t e i sections plan
entry_next t e sections left plan i was s rises place found at there size =
    let k = place_among_present t i sections in
    let change : Section → Section = λ s. record s { bytes = written s.bytes e.offset e.bytes; last_update = t } in
    let sought : slice_get sections i ≡ Some s = sym (section_at-place_of e.id sections i place) ∙ (section_at-of_present t e.id sections s rises found).0 in
    let before : size_of was ≡ size_planned k (size_found (slice_get sections i)) plan = size ∙ ap (λ o. size_planned k (size_found o) plan) (sym sought) in
    let grown : size_of (change was) ≡ max (size_planned k (size_found (slice_get sections i)) plan) (e.offset + length e.bytes) =
    length-written was.bytes e.offset e.bytes ∙ ap (λ n. max n (e.offset + length e.bytes)) before in
    planned_at-changed_at change e.id k left was (λ s. refl) at there ∙ ap (λ n. record { place = k; size = n }) grown

-- the sizes that are planned are those of the sections that are left, behind one element more
sizes_next : (change : Section → Section) (id : List ℕ) (k : ℕ) (start left : List Section) (plan : List Planned) (entry : Planned) → ((s : Section) → (change s).id ≡ s.id) → ((x : List ℕ) → place_of x left ≡ place_of x start)
    → ((x : List ℕ) (i : ℕ) → place_of x start ≡ Some i → size_found (section_at x left) ≡ size_planned i (size_found (section_at x start)) plan)
    → place_of id start ≡ Some k → planned_at id (changed_at change k left) ≡ entry
    → (x : List ℕ) (i : ℕ) → place_of x start ≡ Some i → size_found (section_at x (changed_at change k left)) ≡ size_planned i (size_found (section_at x start)) (plan ++ entry ∷ [])
sizes_next change id k start left plan entry same places sizes at entry_is x i at_i =
    let next = changed_at change k left in
    let size = size_found (section_at x start) in
    let pushed = size_planned-push i size plan entry in
    let there : place_of id next ≡ Some k = place_of-changed_at change id k left same ∙ places id ∙ at in
    let here : entry.place ≡ k = ap (λ p. p.place) (sym entry_is) ∙ ap (λ o. unwrap_or o 0) there in
    elim (cases_eq k i) [
      | inl e ↦
          let named : x ≡ id = same_id x id i k start at_i at (sym e) in
          let hit : (entry.place == i) ≡ true = eq-eqb entry.place i (here ∙ e) in
          let last : size_found (section_at x next) ≡ entry.size = ap (λ y. size_found (section_at y next)) named ∙ ap (λ p. p.size) entry_is in
          last ∙ sym (pushed ∙ ap (λ b. if b then entry.size else size_planned i size plan) hit)
      | inr other ↦
          let missed : (entry.place == i) ≡ false = ne_eqb entry.place i (λ e. other (sym here ∙ e)) in
          let at_next : place_of x next ≡ Some i = place_of-changed_at change x k left same ∙ places x ∙ at_i in
          let kept : section_at x next ≡ section_at x left = section_at-place_of x next i at_next ∙ slice_get-changed_at-other change k i left other ∙ sym (section_at-place_of x left i (places x ∙ at_i)) in
          ap size_found kept ∙ sizes x i at_i ∙ sym (pushed ∙ ap (λ b. if b then entry.size else size_planned i size plan) missed)
    ]

-- behind one element more
pub GoesOn-next : (a : CreationAttributes) (t : ℤ) (e : IoElement) (rest : List IoElement) (sections : List Section) (plan whole : List Planned) (i : ℕ) → Rises sections → place_of e.id sections ≡ Some i
    → GoesOn a t (e ∷ rest) (present t sections) plan whole → GoesOn a t rest (present t sections) (plan ++ next_planned t e i sections plan ∷ []) whole
GoesOn-next a t e rest sections plan whole i rises place g =
    let start = present t sections in
    let next = IsNext-first a t g.index e rest g.left g.accepted in
    let (j, s, at_j, found) = found_next a t e rest start plan whole g in
    let k = place_among_present t i sections in
    let at : place_of e.id start ≡ Some k = place_of-present t e.id sections i s rises place found in
    let at_left : place_of e.id g.left ≡ Some k = g.places e.id ∙ at in
    let change : Section → Section = λ s. record s { bytes = written s.bytes e.offset e.bytes; last_update = t } in
    let after = changed_at change k g.left in
    let leaves = element_written-changed_at a t e g.left k g.rises g.fits at_left next.accepted in
    let size : size_of next.was ≡ size_planned k (size_of s) plan = ap size_found (sym next.there) ∙ g.sizes e.id k at ∙ ap (λ o. size_planned k (size_found o) plan) found in
    let entry = next_planned t e i sections plan in
    let entry_is : planned_at e.id after ≡ entry = entry_next t e sections g.left plan i next.was s rises place found at_left next.there size in
    let goes : planned_elements a t (e ∷ rest) g.left ≡ entry ∷ planned_elements a t rest after =
    ap (λ r. let xs = left_by g.left r in planned_at e.id xs ∷ planned_elements a t rest xs) leaves.is ∙ ap (λ p. p ∷ planned_elements a t rest after) entry_is in
    record {
      left = after;
      index = g.index + 1;
      rises = leaves.rises;
      fits = leaves.fits;
      accepted = accepted_next a t g.index e rest g.left after leaves.is g.accepted;
      whole_plan = append_assoc plan (entry ∷ []) (planned_elements a t rest after) ∙ ap (λ xs. plan ++ xs) (sym goes) ∙ g.whole_plan;
      places = λ x. place_of-changed_at change x k g.left (λ s. refl) ∙ g.places x;
      sizes = sizes_next change e.id k start g.left plan entry (λ s. refl) g.places g.sizes at entry_is;
    }

-- a section that is next is the same among all and among those present
pub GoesOn-here : (a : CreationAttributes) (t : ℤ) (e : IoElement) (rest : List IoElement) (sections : List Section) (plan whole : List Planned) (i : ℕ) → Rises sections → place_of e.id sections ≡ Some i
    → GoesOn a t (e ∷ rest) (present t sections) plan whole → slice_get (present t sections) (place_among_present t i sections) ≡ slice_get sections i
GoesOn-here a t e rest sections plan whole i rises place g =
    let start = present t sections in
    let (j, s, at_j, found) = found_next a t e rest start plan whole g in
    let k = place_among_present t i sections in
    let at : place_of e.id start ≡ Some k = place_of-present t e.id sections i s rises place found in
    sym (section_at-place_of e.id start k at) ∙ found ∙ sym (section_at-of_present t e.id sections s rises found).0 ∙ section_at-place_of e.id sections i place

-- ---- sections that keep their sizes

-- nothing is planned
pub KeepSizes-none : (sections : List Section) → KeepSizes sections []
KeepSizes-none sections = λ k d lt. absurd (omega arith)

-- where all keep their sizes, the size that is planned last for a section is its own
pub size_planned-kept : (sections : List Section) (place : ℕ) (plan : List Planned) → KeepSizes sections plan → size_planned place (size_found (slice_get sections place)) plan ≡ size_found (slice_get sections place)
size_planned-kept sections place [] kept = refl
size_planned-kept sections place (x ∷ plan) kept =
    let size = size_found (slice_get sections place) in
    let here : x.size ≡ size_found (slice_get sections x.place) = kept 0 x (omega arith) in
    let rest : KeepSizes sections plan = λ k d lt. kept (suc k) d (omega arith) in
    let same : (if x.place == place then x.size else size) ≡ size = elim (cases_eq x.place place) [
      | inl e ↦ ap (λ b. if b then x.size else size) (eq-eqb x.place place e) ∙ here ∙ ap (λ i. size_found (slice_get sections i)) e
      | inr other ↦ ap (λ b. if b then x.size else size) (ne_eqb x.place place other)
    ] in
    ap (λ n. size_planned place n plan) same ∙ size_planned-kept sections place plan rest

-- so is that of the next element's section
pub size_planned-next : (t : ℤ) (sections : List Section) (i : ℕ) (plan : List Planned) → slice_get (present t sections) (place_among_present t i sections) ≡ slice_get sections i → KeepSizes (present t sections) plan
    → size_planned (place_among_present t i sections) (size_found (slice_get sections i)) plan ≡ size_found (slice_get sections i)
size_planned-next t sections i plan here kept =
    let k = place_among_present t i sections in
    ap (λ o. size_planned k (size_found o) plan) (sym here) ∙ size_planned-kept (present t sections) k plan kept ∙ ap size_found here

-- and all keep their sizes still, where the next element ends in its section
pub KeepSizes-next : (t : ℤ) (e : IoElement) (sections : List Section) (i : ℕ) (plan : List Planned) → slice_get (present t sections) (place_among_present t i sections) ≡ slice_get sections i → KeepSizes (present t sections) plan
    → e.offset + length e.bytes ≤ size_planned (place_among_present t i sections) (size_found (slice_get sections i)) plan → KeepSizes (present t sections) (plan ++ next_planned t e i sections plan ∷ [])
KeepSizes-next t e sections i plan here kept within =
    let start = present t sections in
    All-push (λ entry. entry.size ≡ size_found (slice_get start entry.place)) plan (next_planned t e i sections plan) kept
    (max-eq_left within ∙ size_planned-next t sections i plan here kept ∙ ap size_found (sym here))

-- ---- few bytes and few sections

-- a store has few sections
pub sections-few : (a : CreationAttributes) (sections : List Section) → is_malformed a ≡ false → Fits a sections → length sections < 2 ^ 32
sections-few a sections checked fits =
    let declared = IsWellFormed-from_check a checked in
    omega (arith, fits.few, declared.few_sections)

-- a section has few bytes
pub section_size-small : (a : CreationAttributes) → is_malformed a ≡ false → a.max_section_size < 2 ^ 63
section_size-small a checked =
    let declared = IsWellFormed-from_check a checked in
    let one : 1 * a.max_section_size ≤ a.max_sections * a.max_section_size = mul-le-mul_right a.max_section_size declared.some_sections in
    omega (arith, one, declared.few_bytes)
