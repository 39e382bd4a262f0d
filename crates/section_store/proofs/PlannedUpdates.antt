-- The plan of each update, and updates that are made by the plan alone.
use Rattle.std.proofs.Common.{◌≡◌, ℕ, zero, suc, ◌+◌, ◌≤◌, ◌<◌, List, [], ◌∷◌, length, drop, Option, Some, None, unwrap_or, is_some, slice_get, get_or, true, Result, ℤ, sym, ap, ◌∙◌, subst, refl, drop-cons, arith}
use Rattle.std.specs.Prelude.{IsOk, Ok, insert, remove}
use Rattle.std.proofs.lemmas.List.{length-drop, drop_all}
use Rattle.std.proofs.lemmas.Option.{same_Some}
use Rattle.ckpt_types.specs.declared.attributes.CreationAttributes.{CreationAttributes}
use Rattle.ckpt_types.specs.declared.sections.SectionState.TheVariants.{Valid}
use Rattle.ckpt_types.specs.declared.update.IoElement.{IoElement}
use Rattle.ckpt_types.specs.declared.update.NewId.{NewId}
use Rattle.ckpt_types.specs.declared.update.Update.TheVariants as updates
use Rattle.ckpt_types.specs.Sections.{Section, Rises, Fits, present, place_of, size_of}
use Rattle.ckpt_types.specs.Updates.{Refusal, new_id, first_place, written, element_written, elements_written, overwritten, section_created, section_deleted, expiration_set}
use Rattle.ckpt_types.proofs.Accepted.{accepted_same, element_written-Ok, overwritten-Ok, expiration_set-Ok, section_deleted-Ok}
use Rattle.ckpt_types.proofs.Fitting.{Fits-present}
use Rattle.ckpt_types.proofs.Presence.{Rises-present, place_of-lt, section_at-place_of, section_at-slice_get, place_of-slice_get}
use Rattle.section_store.specs.Places.{count_below, changed_at, place_among_present}
use Rattle.section_store.specs.Planned.{planned, planned_at, planned_elements, left_by, size_found, next_planned}
use Rattle.section_store.specs.StoreState.{StoreState, new_section}
use Rattle.section_store.specs.declared.plan.Planned.{Planned}
use Rattle.section_store.proofs.PlaceLemmas.{count_below-le-length}
use Rattle.section_store.proofs.Placed.{Leaves, Ok_from_IsOk, element_written-IsOk, element_written-any_place, element_written-changed_at, overwritten-changed_at, expiration_set-changed_at, section_deleted-remove, section_created-insert}
use Rattle.section_store.proofs.PlanLemmas.{is_some-place_of, section_at-of_present, place_of-present, place_of-Some, count_below-present, place_of-changed_at, planned_at-changed_at, GoesOn-start, GoesOn-next, GoesOn-end, GoesOn-there, GoesOn-small, GoesOn-here}

-- ---- one element

-- where a place is that of the first element or 0, and there is one, it is that one
some_first : (found : Option ℕ) (n : ℕ) → is_some found ≡ true → n ≡ unwrap_or found 0 → found ≡ Some n
some_first None n there is = absurd (cc there)
some_first (Some i) n there is = ap Some (sym is)

-- a list of one
pub one_of : (elements : List IoElement) (e : IoElement) → 1 ≤ length elements → length elements < 2 → e ≡ get_or elements 0 e → elements ≡ e ∷ []
one_of [] e some few is = absurd (omega arith)
one_of (x ∷ []) e some few is = ap (λ y. y ∷ []) (sym is)
one_of (x ∷ y ∷ rest) e some few is = absurd (omega (arith, few))

-- a write of one element, whose section stands at that place
pub record PlansOne (a : CreationAttributes) (t : ℤ) (e : IoElement) (elements : List IoElement) (sections : List Section) (first : ℕ) : Type 0 where
  pub place : place_of e.id sections ≡ Some first
  pub small : e.offset + length e.bytes ≤ a.max_section_size
  pub here : slice_get (present t sections) (place_among_present t first sections) ≡ slice_get sections first
  pub plan : next_planned t e first sections [] ∷ [] ≡ planned_elements a t elements (present t sections)

plans_one : (a : CreationAttributes) (t : ℤ) (e : IoElement) (sections : List Section) (first : ℕ) → Rises sections → Fits a sections → first ≡ first_place (e ∷ []) sections
    → IsOk (elements_written a t 0 (e ∷ []) (present t sections)) → PlansOne a t e (e ∷ []) sections first
plans_one a t e sections first rises fits is accepted =
    let start = present t sections in
    let whole = planned_elements a t (e ∷ []) start in
    let begins = GoesOn-start a t (e ∷ []) start (Rises-present t sections rises) (Fits-present a t sections fits) accepted in
    let place : place_of e.id sections ≡ Some first = some_first (place_of e.id sections) first (GoesOn-there a t e [] sections [] whole rises begins) is in
    record {
      place = place;
      small = GoesOn-small a t e [] start [] whole begins;
      here = GoesOn-here a t e [] sections [] whole first rises place begins;
      plan = GoesOn-end a t start (next_planned t e first sections [] ∷ []) whole (GoesOn-next a t e [] sections [] whole first rises place begins);
    }

pub PlansOne-elements : (a : CreationAttributes) (t : ℤ) (e : IoElement) (elements : List IoElement) (sections : List Section) (first : ℕ) → 1 ≤ length elements → length elements < 2 → e ≡ get_or elements 0 e → Rises sections → Fits a sections
    → first ≡ first_place elements sections → IsOk (elements_written a t 0 elements (present t sections)) → PlansOne a t e elements sections first
PlansOne-elements a t e elements sections first some few item rises fits is accepted =
    let one : elements ≡ e ∷ [] = one_of elements e some few item in
    subst (λ xs. PlansOne a t e xs sections first) (sym one)
    (plans_one a t e sections first rises fits (is ∙ ap (λ xs. first_place xs sections) one) (subst (λ xs. IsOk (elements_written a t 0 xs (present t sections))) one accepted))

-- ---- the other updates

-- what is overwritten, deleted or expires otherwise is there
pub overwritten-there : (a : CreationAttributes) (id bytes : List ℕ) (t : ℤ) (sections : List Section) → Rises sections → IsOk (overwritten a id bytes t (present t sections)) → is_some (place_of id sections) ≡ true
overwritten-there a id bytes t sections rises accepted =
    let (after, is) = Ok_from_IsOk (overwritten a id bytes t (present t sections)) accepted in
    let done = overwritten-Ok a id bytes t (present t sections) after is in
    is_some-place_of id sections done.was (section_at-of_present t id sections done.was rises done.there).0

pub section_deleted-there : (a : CreationAttributes) (id : List ℕ) (t : ℤ) (sections : List Section) → Rises sections → IsOk (section_deleted a id (present t sections)) → is_some (place_of id sections) ≡ true
section_deleted-there a id t sections rises accepted =
    let (after, is) = Ok_from_IsOk (section_deleted a id (present t sections)) accepted in
    let done = section_deleted-Ok a id (present t sections) after is in
    is_some-place_of id sections done.gone (section_at-of_present t id sections done.gone rises done.there).0

pub expiration_set-there : (a : CreationAttributes) (id : List ℕ) (expiration t : ℤ) (sections : List Section) → Rises sections → IsOk (expiration_set a id expiration t (present t sections)) → is_some (place_of id sections) ≡ true
expiration_set-there a id expiration t sections rises accepted =
    let (after, is) = Ok_from_IsOk (expiration_set a id expiration t (present t sections)) accepted in
    let done = expiration_set-Ok a id expiration t (present t sections) after is in
    is_some-place_of id sections done.was (section_at-of_present t id sections done.was rises done.there).0

-- their plans, where the section stands at a place among all
pub planned-overwritten : (a : CreationAttributes) (id bytes : List ℕ) (t : ℤ) (sections : List Section) (i : ℕ) → Rises sections → Fits a sections → place_of id sections ≡ Some i → IsOk (overwritten a id bytes t (present t sections))
    → record { place = place_among_present t i sections; size = length bytes } ∷ [] ≡ planned a (updates.Overwrite id bytes) t sections
planned-overwritten a id bytes t sections i rises fits place accepted =
    let start = present t sections in
    let (after, is) = Ok_from_IsOk (overwritten a id bytes t start) accepted in
    let done = overwritten-Ok a id bytes t start after is in
    let at = place_of-present t id sections i done.was rises place done.there in
    let leaves = overwritten-changed_at a id bytes t start (place_among_present t i sections) (Rises-present t sections rises) (Fits-present a t sections fits) at accepted in
    sym (ap (λ r. planned_at id (left_by sections r) ∷ []) leaves.is ∙ ap (λ p. p ∷ []) (planned_at-changed_at (λ s. record s { bytes = bytes; state = Valid; last_update = t }) id (place_among_present t i sections) start done.was (λ s. refl) at done.there))

pub planned-expiration_set : (a : CreationAttributes) (id : List ℕ) (expiration t : ℤ) (sections : List Section) (i : ℕ) → Rises sections → Fits a sections → place_of id sections ≡ Some i → IsOk (expiration_set a id expiration t (present t sections))
    → record { place = place_among_present t i sections; size = size_found (slice_get sections i) } ∷ [] ≡ planned a (updates.SetExpiration id expiration) t sections
planned-expiration_set a id expiration t sections i rises fits place accepted =
    let start = present t sections in
    let (after, is) = Ok_from_IsOk (expiration_set a id expiration t start) accepted in
    let done = expiration_set-Ok a id expiration t start after is in
    let at = place_of-present t id sections i done.was rises place done.there in
    let leaves = expiration_set-changed_at a id expiration t start (place_among_present t i sections) (Rises-present t sections rises) (Fits-present a t sections fits) at accepted in
    let there : slice_get sections i ≡ Some done.was = sym (section_at-place_of id sections i place) ∙ (section_at-of_present t id sections done.was rises done.there).0 in
    ap (λ o. record { place = place_among_present t i sections; size = size_found o } ∷ []) there
    ∙ sym (ap (λ r. planned_at id (left_by sections r) ∷ []) leaves.is ∙ ap (λ p. p ∷ []) (planned_at-changed_at (λ s. record s { expiration = expiration }) id (place_among_present t i sections) start done.was (λ s. refl) at done.there))

pub planned-section_deleted : (a : CreationAttributes) (id : List ℕ) (t : ℤ) (sections : List Section) (i : ℕ) → Rises sections → place_of id sections ≡ Some i → IsOk (section_deleted a id (present t sections))
    → record { place = place_among_present t i sections; size = 0 } ∷ [] ≡ planned a (updates.Delete id) t sections
planned-section_deleted a id t sections i rises place accepted =
    let (after, is) = Ok_from_IsOk (section_deleted a id (present t sections)) accepted in
    let done = section_deleted-Ok a id (present t sections) after is in
    let at = place_of-present t id sections i done.gone rises place done.there in
    ap (λ o. record { place = unwrap_or o 0; size = 0 } ∷ []) (sym at)

-- what is put in at a place stands there
slice_get-insert : (sections : List Section) (i : ℕ) (s : Section) → i ≤ length sections → slice_get (insert sections i s) i ≡ Some s
slice_get-insert [] zero s within = refl
slice_get-insert [] (suc i) s within = absurd (omega (arith, within))
slice_get-insert (x ∷ sections) zero s within = refl
slice_get-insert (x ∷ sections) (suc i) s within = slice_get-insert sections i s (omega (arith, within))

-- what is made has the entry of its place, with the bytes that it is made with
planned_at-insert : (section : Section) (sections : List Section) (i : ℕ) → i ≤ length sections → Rises (insert sections i section) → planned_at section.id (insert sections i section) ≡ record { place = i; size = size_of section }
planned_at-insert section sections i within rises =
    let there = slice_get-insert sections i section within in
    let at = place_of-slice_get (insert sections i section) i section rises there in
    let found = section_at-slice_get (insert sections i section) i section rises there in
    λ k. record { place = unwrap_or (at k) 0; size = size_found (found k) }

pub planned-section_created : (a : CreationAttributes) (new : NewId) (expiration : ℤ) (bytes : List ℕ) (t : ℤ) (sections : List Section) → Rises sections → Fits a sections → IsOk (section_created a new expiration bytes t (present t sections))
    → record { place = place_among_present t (count_below (new_id new (present t sections)) sections) sections; size = length bytes } ∷ [] ≡ planned a (updates.Create new expiration bytes) t sections
planned-section_created a new expiration bytes t sections rises fits accepted =
    let start = present t sections in
    let id = new_id new start in
    let i = count_below id start in
    let leaves = section_created-insert a new expiration bytes t start (Rises-present t sections rises) (Fits-present a t sections fits) accepted in
    let is : planned_at id (insert start i (new_section id bytes expiration t)) ≡ record { place = i; size = length bytes } = planned_at-insert (new_section id bytes expiration t) start i (count_below-le-length id start) leaves.rises in
    ap (λ n. record { place = n; size = length bytes } ∷ []) (sym (count_below-present t id sections rises)) ∙ sym (ap (λ r. planned_at id (left_by sections r) ∷ []) leaves.is ∙ ap (λ p. p ∷ []) is)

-- ---- updates that are made by their plan

-- an element that is accepted has a section
there : (a : CreationAttributes) (t : ℤ) (e : IoElement) (left : List Section) → IsOk (element_written a t 0 e left) → (s : Section) × (i : ℕ) × (place_of e.id left ≡ Some i)
there a t e left accepted =
    let (after, is) = Ok_from_IsOk (element_written a t 0 e left) accepted in
    let done = element_written-Ok a t 0 e left after is in
    let (i, at) = place_of-Some e.id left done.was done.there in
    (done.was, i, at)

-- an element has its section at the place that is planned first
element_place : (a : CreationAttributes) (t : ℤ) (e : IoElement) (left : List Section) → Rises left → Fits a left → IsOk (element_written a t 0 e left) → place_of e.id left ≡ Some ((planned_at e.id (left_by left (element_written a t 0 e left))).place)
element_place a t e left rises fits accepted =
    let (was, i, at) = there a t e left accepted in
    let leaves = element_written-changed_at a t e left i rises fits at accepted in
    let same : place_of e.id (left_by left (element_written a t 0 e left)) ≡ Some i =
    ap (λ r. place_of e.id (left_by left r)) leaves.is ∙ place_of-changed_at (λ s. record s { bytes = written s.bytes e.offset e.bytes; last_update = t }) e.id i left (λ s. refl) ∙ at in
    at ∙ ap (λ o. Some (unwrap_or o 0)) (sym same)

-- the elements behind the first ones are written into the sections that these left, by what is planned behind them
pub record WritesOn (a : CreationAttributes) (t : ℤ) (index : ℕ) (rest : List IoElement) (left : List Section) (plan : List Planned) (all : Result (List Section) Refusal) : Type 0 where
  pub rises : Rises left
  pub fits : Fits a left
  pub going : elements_written a t index rest left ≡ all
  pub planned : drop index plan ≡ planned_elements a t rest left

-- the first of a list is what is read at the place behind which it is left
slice_get-drop : (xs : List Planned) (i : ℕ) → slice_get xs i ≡ slice_get (drop i xs) 0
slice_get-drop [] zero = refl
slice_get-drop [] (suc i) = refl
slice_get-drop (x ∷ xs) zero = refl
slice_get-drop (x ∷ xs) (suc i) = slice_get-drop xs i

drop_behind : (xs : List Planned) (i : ℕ) (x : Planned) (rest : List Planned) → drop i xs ≡ x ∷ rest → drop (suc i) xs ≡ rest
drop_behind [] zero x rest is = absurd (cc is)
drop_behind [] (suc i) x rest is = absurd (cc is)
drop_behind (y ∷ xs) zero x rest is = cc is
drop_behind (y ∷ xs) (suc i) x rest is = drop_behind xs i x rest is

-- the next element is accepted, and the plan has its place
pub record WritesNext (a : CreationAttributes) (t : ℤ) (index : ℕ) (e : IoElement) (left : List Section) (plan : List Planned) : Type 0 where
  pub accepted : IsOk (element_written a t 0 e left)
  pub there : index < length plan
  pub place : (entry : Planned) → slice_get plan index ≡ Some entry → place_of e.id left ≡ Some entry.place

pub WritesOn-first : (a : CreationAttributes) (t : ℤ) (index : ℕ) (e : IoElement) (rest : List IoElement) (left : List Section) (plan : List Planned) (all : Result (List Section) Refusal) → IsOk all → WritesOn a t index (e ∷ rest) left plan all → WritesNext a t index e left plan
WritesOn-first a t index e rest left plan all ok w =
    let accepted : IsOk (element_written a t 0 e left) = element_written-IsOk a t index e rest left (subst IsOk (sym w.going) ok) in
    let after = left_by left (element_written a t 0 e left) in
    let long : length (drop index plan) ≡ suc (length (planned_elements a t rest after)) = ap length w.planned in
    record {
      accepted = accepted;
      there = omega (arith, long, length-drop index plan);
      place = λ entry is.
          let first : planned_at e.id after ≡ entry = same_Some (planned_at e.id after) entry (ap (λ xs. slice_get xs 0) (sym w.planned) ∙ sym (slice_get-drop plan index) ∙ is) in
          element_place a t e left w.rises w.fits accepted ∙ ap (λ p. Some p.place) first;
    }

pub WritesOn-next : (a : CreationAttributes) (t : ℤ) (index : ℕ) (e : IoElement) (rest : List IoElement) (left after : List Section) (plan : List Planned) (all : Result (List Section) Refusal) → IsOk all → WritesOn a t index (e ∷ rest) left plan all
    → element_written a t 0 e left ≡ Ok after → WritesOn a t (suc index) rest after plan all
WritesOn-next a t index e rest left after plan all ok w is =
    let accepted : IsOk (element_written a t 0 e left) = element_written-IsOk a t index e rest left (subst IsOk (sym w.going) ok) in
    let (was, i, at) = there a t e left accepted in
    let leaves = element_written-changed_at a t e left i w.rises w.fits at accepted in
    let same : changed_at (λ s. record s { bytes = written s.bytes e.offset e.bytes; last_update = t }) i left ≡ after = accepted_same _ after (sym leaves.is ∙ is) in
    let first : element_written a t index e left ≡ Ok after = element_written-any_place a t 0 index e left after is in
    let behind : suc index ≡ index + 1 = omega arith in
    record {
      rises = subst Rises same leaves.rises;
      fits = subst (Fits a) same leaves.fits;
      going = ap (λ n. elements_written a t n rest after) behind ∙ (rw first at w.going);
      planned = drop_behind plan index _ _ w.planned ∙ ap (λ r. planned_elements a t rest (left_by left r)) is;
    }

-- the next of the elements that are left is the first of them
pub WritesOn-item : (a : CreationAttributes) (t : ℤ) (index : ℕ) (elements : List IoElement) (e : IoElement) (left : List Section) (plan : List Planned) (all : Result (List Section) Refusal) → index < length elements → e ≡ get_or elements index e
    → WritesOn a t index (drop index elements) left plan all → WritesOn a t index (e ∷ drop (suc index) elements) left plan all
WritesOn-item a t index elements e left plan all there is w =
    subst (λ xs. WritesOn a t index xs left plan all) (drop-cons elements index e there ∙ ap (λ x. x ∷ drop (suc index) elements) (sym is)) w

-- behind the last, all is written
pub WritesOn-end : (a : CreationAttributes) (t : ℤ) (index : ℕ) (elements : List IoElement) (left : List Section) (plan : List Planned) (all : Result (List Section) Refusal) → length elements ≤ index → WritesOn a t index (drop index elements) left plan all → all ≡ Ok left
WritesOn-end a t index elements left plan all over w = sym w.going ∙ ap (λ xs. elements_written a t index xs left) (drop_all index elements over)

-- where a section is changed at its place, the entry of what is left has that place
changed_place : (change : Section → Section) (id : List ℕ) (start left : List Section) (i : ℕ) (entry : Planned) → ((s : Section) → (change s).id ≡ s.id) → place_of id start ≡ Some i → left ≡ changed_at change i start → planned_at id left ≡ entry → place_of id start ≡ Some entry.place
changed_place change id start left i entry same at is planned =
    let at_left : place_of id left ≡ Some i = ap (place_of id) is ∙ place_of-changed_at change id i start same ∙ at in
    at ∙ ap (λ o. Some (unwrap_or o 0)) (sym at_left) ∙ ap (λ p. Some p.place) planned

-- the section stands at the place that the plan has, among those present
pub overwritten-planned : (a : CreationAttributes) (id bytes : List ℕ) (t : ℤ) (sections : List Section) (entry : Planned) → Rises sections → Fits a sections → IsOk (overwritten a id bytes t (present t sections))
    → slice_get (planned a (updates.Overwrite id bytes) t sections) 0 ≡ Some entry → place_of id (present t sections) ≡ Some entry.place
overwritten-planned a id bytes t sections entry rises fits accepted first =
    let start = present t sections in
    let (after, is) = Ok_from_IsOk (overwritten a id bytes t start) accepted in
    let done = overwritten-Ok a id bytes t start after is in
    let (i, at) = place_of-Some id start done.was done.there in
    let leaves = overwritten-changed_at a id bytes t start i (Rises-present t sections rises) (Fits-present a t sections fits) at accepted in
    changed_place (λ s. record s { bytes = bytes; state = Valid; last_update = t }) id start _ i entry (λ s. refl) at (ap (left_by sections) leaves.is) (same_Some _ entry first)

pub expiration_set-planned : (a : CreationAttributes) (id : List ℕ) (expiration t : ℤ) (sections : List Section) (entry : Planned) → Rises sections → Fits a sections → IsOk (expiration_set a id expiration t (present t sections))
    → slice_get (planned a (updates.SetExpiration id expiration) t sections) 0 ≡ Some entry → place_of id (present t sections) ≡ Some entry.place
expiration_set-planned a id expiration t sections entry rises fits accepted first =
    let start = present t sections in
    let (after, is) = Ok_from_IsOk (expiration_set a id expiration t start) accepted in
    let done = expiration_set-Ok a id expiration t start after is in
    let (i, at) = place_of-Some id start done.was done.there in
    let leaves = expiration_set-changed_at a id expiration t start i (Rises-present t sections rises) (Fits-present a t sections fits) at accepted in
    changed_place (λ s. record s { expiration = expiration }) id start _ i entry (λ s. refl) at (ap (left_by sections) leaves.is) (same_Some _ entry first)

pub section_deleted-planned : (a : CreationAttributes) (id : List ℕ) (t : ℤ) (sections : List Section) (entry : Planned) → IsOk (section_deleted a id (present t sections))
    → slice_get (planned a (updates.Delete id) t sections) 0 ≡ Some entry → place_of id (present t sections) ≡ Some entry.place
section_deleted-planned a id t sections entry accepted first =
    let start = present t sections in
    let (after, is) = Ok_from_IsOk (section_deleted a id start) accepted in
    let done = section_deleted-Ok a id start after is in
    let (i, at) = place_of-Some id start done.gone done.there in
    at ∙ ap (λ o. Some (unwrap_or o 0)) (sym at) ∙ ap (λ p. Some p.place) (same_Some _ entry first)

pub section_created-planned : (a : CreationAttributes) (new : NewId) (expiration : ℤ) (bytes : List ℕ) (t : ℤ) (sections : List Section) (entry : Planned) → Rises sections → Fits a sections → IsOk (section_created a new expiration bytes t (present t sections))
    → slice_get (planned a (updates.Create new expiration bytes) t sections) 0 ≡ Some entry → entry.place ≡ count_below (new_id new (present t sections)) (present t sections)
section_created-planned a new expiration bytes t sections entry rises fits accepted first =
    let start = present t sections in
    let is = ap (λ xs. slice_get xs 0) (planned-section_created a new expiration bytes t sections rises fits accepted) ∙ first in
    sym (ap (λ p. p.place) (same_Some _ entry is)) ∙ sym (count_below-present t (new_id new start) sections rises)

-- an update is made at a place that is there, and leaves what its outcome is
pub record IsMadeAt (place : ℕ) (state : StoreState) (answer : Result (List Section) Refusal) (after : List Section) : Type 0 where
  pub there : place < length state.sections
  pub leaves : Leaves state.attributes answer after

-- what is made of those present, where the store that has them is told in other words
with_present : (a : CreationAttributes) (t m : ℤ) (sections : List Section) (state : StoreState) → m ≡ t → state ≡ record { attributes = a; sections = present m sections } → record { attributes = a; sections = present t sections } ≡ state
with_present a t m sections state moment is = sym (is ∙ ap (λ n. record { attributes = a; sections = present n sections }) moment)

pub IsMadeAt-overwritten : (a : CreationAttributes) (id bytes told : List ℕ) (t m : ℤ) (sections : List Section) (entry : Planned) (state : StoreState) → m ≡ t → told ≡ bytes → state ≡ record { attributes = a; sections = present m sections } → Rises sections → Fits a sections
    → IsOk (overwritten a id bytes t (present t sections)) → slice_get (planned a (updates.Overwrite id bytes) t sections) 0 ≡ Some entry
    → IsMadeAt entry.place state (overwritten a id bytes t (present t sections)) (changed_at (λ s. record s { bytes = told; state = Valid; last_update = m }) entry.place state.sections)
IsMadeAt-overwritten a id bytes told t m sections entry state moment same is rises fits accepted first =
    let start = present t sections in
    let answer = overwritten a id bytes t start in
    let place = overwritten-planned a id bytes t sections entry rises fits accepted first in
    let change : List ℕ → ℤ → StoreState → List Section = λ b n x. changed_at (λ s. record s { bytes = b; state = Valid; last_update = n }) entry.place x.sections in
    let made : IsMadeAt entry.place (record { attributes = a; sections = start }) answer (change bytes t (record { attributes = a; sections = start })) = record {
      there = place_of-lt id start entry.place place;
      leaves = overwritten-changed_at a id bytes t start entry.place (Rises-present t sections rises) (Fits-present a t sections fits) place accepted;
    } in
    subst (λ b. IsMadeAt entry.place state answer (change b m state)) (sym same)
    (subst (λ n. IsMadeAt entry.place state answer (change bytes n state)) (sym moment)
    (subst (λ x. IsMadeAt entry.place x answer (change bytes t x)) (with_present a t m sections state moment is) made))

pub IsMadeAt-expiration_set : (a : CreationAttributes) (id : List ℕ) (expiration told t m : ℤ) (sections : List Section) (entry : Planned) (state : StoreState) → m ≡ t → told ≡ expiration → state ≡ record { attributes = a; sections = present m sections } → Rises sections → Fits a sections
    → IsOk (expiration_set a id expiration t (present t sections)) → slice_get (planned a (updates.SetExpiration id expiration) t sections) 0 ≡ Some entry
    → IsMadeAt entry.place state (expiration_set a id expiration t (present t sections)) (changed_at (λ s. record s { expiration = told }) entry.place state.sections)
IsMadeAt-expiration_set a id expiration told t m sections entry state moment same is rises fits accepted first =
    let start = present t sections in
    let answer = expiration_set a id expiration t start in
    let place = expiration_set-planned a id expiration t sections entry rises fits accepted first in
    let change : ℤ → StoreState → List Section = λ n x. changed_at (λ s. record s { expiration = n }) entry.place x.sections in
    let made : IsMadeAt entry.place (record { attributes = a; sections = start }) answer (change expiration (record { attributes = a; sections = start })) = record {
      there = place_of-lt id start entry.place place;
      leaves = expiration_set-changed_at a id expiration t start entry.place (Rises-present t sections rises) (Fits-present a t sections fits) place accepted;
    } in
    subst (λ n. IsMadeAt entry.place state answer (change n state)) (sym same)
    (subst (λ x. IsMadeAt entry.place x answer (change expiration x)) (with_present a t m sections state moment is) made)

pub IsMadeAt-section_deleted : (a : CreationAttributes) (id : List ℕ) (t m : ℤ) (sections : List Section) (entry : Planned) (state : StoreState) → m ≡ t → state ≡ record { attributes = a; sections = present m sections } → Rises sections → Fits a sections
    → IsOk (section_deleted a id (present t sections)) → slice_get (planned a (updates.Delete id) t sections) 0 ≡ Some entry
    → IsMadeAt entry.place state (section_deleted a id (present t sections)) (remove state.sections entry.place)
IsMadeAt-section_deleted a id t m sections entry state moment is rises fits accepted first =
    let start = present t sections in
    let answer = section_deleted a id start in
    let place = section_deleted-planned a id t sections entry accepted first in
    let made : IsMadeAt entry.place (record { attributes = a; sections = start }) answer (remove start entry.place) = record {
      there = place_of-lt id start entry.place place;
      leaves = section_deleted-remove a id start entry.place (Rises-present t sections rises) (Fits-present a t sections fits) place accepted;
    } in
    subst (λ x. IsMadeAt entry.place x answer (remove x.sections entry.place)) (with_present a t m sections state moment is) made
