-- What an update that is not refused leaves, where it is made at the place of its section.
use Rattle.std.proofs.Common.{◌≡◌, ℕ, ◌+◌, ◌<◌, ◌≤◌, List, [], ◌∷◌, length, Some, None, Result, Ok, Err, true, false, cond, ℤ, sym, ap, ◌∙◌, subst, refl, arith}
use Rattle.std.specs.Prelude.{IsOk, is_ok, insert, remove}
use Rattle.std.proofs.lemmas.Option.{none-some}
use Rattle.ckpt_types.specs.declared.attributes.CreationAttributes.{CreationAttributes}
use Rattle.ckpt_types.specs.declared.sections.SectionState.TheVariants.{Valid, Corrupted}
use Rattle.ckpt_types.specs.declared.update.IoElement.{IoElement}
use Rattle.ckpt_types.specs.declared.update.NewId.{NewId}
use Rattle.ckpt_types.specs.Attributes.{is_malformed}
use Rattle.ckpt_types.specs.Limits.{section_id_max}
use Rattle.ckpt_types.specs.Sections.{Section, Rises, Fits, section_at, place_of, with_section, is_present, present, size_of}
use Rattle.ckpt_types.specs.Updates.{Refusal, new_id, section_created, section_deleted, expiration_set, overwritten, written, element_written, elements_written}
use Rattle.ckpt_types.proofs.Accepted.{and_then-Ok, element_written-Ok, overwritten-Ok, expiration_set-Ok, section_deleted-Ok, section_created-Ok}
use Rattle.ckpt_types.proofs.Presence.{section_at-named, section_at-no_place, section_at-place_of, place_of-lt, All-section_at}
use Rattle.ckpt_types.proofs.Placing.{Rises-with_section, Rises-without_section, memory_used-with_section_over}
use Rattle.ckpt_types.proofs.AttributeLaws.{IsWellFormed-from_check}
use Rattle.ckpt_types.proofs.Fitting.{length-new_id-le, Fits-element_written, Fits-overwritten, Fits-expiration_set, Fits-without_section, Fits-section_created, Fits-with_section_over}
use Rattle.ckpt_types.proofs.Options.{none_of}
use Rattle.section_store.specs.Places.{count_below, changed_at}
use Rattle.section_store.specs.StoreState.{new_section, with_corrupted, corrupted_where}
use Rattle.section_store.proofs.PlaceLemmas.{slice_get-within, with_section-changed_at, with_section-insert, without_section-remove}

-- an update is not refused and leaves these sections, which rise and keep to what was declared
pub record Leaves (a : CreationAttributes) (answer : Result (List Section) Refusal) (after : List Section) : Type 0 where
  pub is : answer ≡ Ok after
  pub rises : Rises after
  pub fits : Fits a after

-- what is not refused has a value
pub Ok_from_IsOk : {A E : Type 0} (r : Result A E) → IsOk r → (x : A) × (r ≡ Ok x)
Ok_from_IsOk (Ok x) is = (x, refl)
Ok_from_IsOk (Err e) is = absurd (cc is)

-- the same sections, by another way to them
Leaves-same : (a : CreationAttributes) (answer : Result (List Section) Refusal) (after other : List Section) → after ≡ other → answer ≡ Ok after → Rises after → Fits a after → Leaves a answer other
Leaves-same a answer after other same is rises fits = record { is = is ∙ ap Ok same; rises = subst Rises same rises; fits = subst (Fits a) same fits }

-- a section that takes the place of the one found, at that place
changed_left : (change : Section → Section) (id : List ℕ) (sections after : List Section) (i : ℕ) (was : Section) → Rises sections → place_of id sections ≡ Some i → section_at id sections ≡ Some was → (change was).id ≡ was.id → with_section (change was) sections ≡ after → after ≡ changed_at change i sections
changed_left change id sections after i was rises place there same left = sym left ∙ with_section-changed_at change id sections i was rises place there (same ∙ section_at-named id sections was there)

-- an element is written into the section at its place
pub element_written-changed_at : (a : CreationAttributes) (t : ℤ) (e : IoElement) (sections : List Section) (i : ℕ) → Rises sections → Fits a sections → place_of e.id sections ≡ Some i → IsOk (element_written a t 0 e sections)
    → Leaves a (element_written a t 0 e sections) (changed_at (λ s. record s { bytes = written s.bytes e.offset e.bytes; last_update = t }) i sections)
element_written-changed_at a t e sections i rises fits place accepted =
    let (after, is) = Ok_from_IsOk (element_written a t 0 e sections) accepted in
    let done = element_written-Ok a t 0 e sections after is in
    let change : Section → Section = λ s. record s { bytes = written s.bytes e.offset e.bytes; last_update = t } in
    Leaves-same a _ after _ (changed_left change e.id sections after i done.was rises place done.there refl done.left) is
    (subst Rises done.left (Rises-with_section _ sections rises)) (Fits-element_written a t e sections after rises fits done)

-- an element whose section has no place is refused
pub element_written-no_place : (a : CreationAttributes) (t : ℤ) (e : IoElement) (sections : List Section) → place_of e.id sections ≡ None → IsOk (element_written a t 0 e sections) → ⊥
element_written-no_place a t e sections nowhere accepted =
    let (after, is) = Ok_from_IsOk (element_written a t 0 e sections) accepted in
    let done = element_written-Ok a t 0 e sections after is in
    none-some done.was (sym (section_at-no_place e.id sections nowhere) ∙ done.there)

-- the section at a place is overwritten
pub overwritten-changed_at : (a : CreationAttributes) (id bytes : List ℕ) (t : ℤ) (sections : List Section) (i : ℕ) → Rises sections → Fits a sections → place_of id sections ≡ Some i → IsOk (overwritten a id bytes t sections)
    → Leaves a (overwritten a id bytes t sections) (changed_at (λ s. record s { bytes = bytes; state = Valid; last_update = t }) i sections)
overwritten-changed_at a id bytes t sections i rises fits place accepted =
    let (after, is) = Ok_from_IsOk (overwritten a id bytes t sections) accepted in
    let done = overwritten-Ok a id bytes t sections after is in
    let change : Section → Section = λ s. record s { bytes = bytes; state = Valid; last_update = t } in
    Leaves-same a _ after _ (changed_left change id sections after i done.was rises place done.there refl done.left) is
    (subst Rises done.left (Rises-with_section _ sections rises)) (Fits-overwritten a id bytes t sections after rises fits done)

-- a section that has no place can't be overwritten
pub overwritten-no_place : (a : CreationAttributes) (id bytes : List ℕ) (t : ℤ) (sections : List Section) → place_of id sections ≡ None → IsOk (overwritten a id bytes t sections) → ⊥
overwritten-no_place a id bytes t sections nowhere accepted =
    let (after, is) = Ok_from_IsOk (overwritten a id bytes t sections) accepted in
    let done = overwritten-Ok a id bytes t sections after is in
    none-some done.was (sym (section_at-no_place id sections nowhere) ∙ done.there)

-- the section at a place expires at another moment
pub expiration_set-changed_at : (a : CreationAttributes) (id : List ℕ) (expiration t : ℤ) (sections : List Section) (i : ℕ) → Rises sections → Fits a sections → place_of id sections ≡ Some i → IsOk (expiration_set a id expiration t sections)
    → Leaves a (expiration_set a id expiration t sections) (changed_at (λ s. record s { expiration = expiration }) i sections)
expiration_set-changed_at a id expiration t sections i rises fits place accepted =
    let (after, is) = Ok_from_IsOk (expiration_set a id expiration t sections) accepted in
    let done = expiration_set-Ok a id expiration t sections after is in
    let change : Section → Section = λ s. record s { expiration = expiration } in
    Leaves-same a _ after _ (changed_left change id sections after i done.was rises place done.there refl done.left) is
    (subst Rises done.left (Rises-with_section _ sections rises)) (Fits-expiration_set a id expiration t sections after rises fits done)

-- a section that has no place gets no other expiration
pub expiration_set-no_place : (a : CreationAttributes) (id : List ℕ) (expiration t : ℤ) (sections : List Section) → place_of id sections ≡ None → IsOk (expiration_set a id expiration t sections) → ⊥
expiration_set-no_place a id expiration t sections nowhere accepted =
    let (after, is) = Ok_from_IsOk (expiration_set a id expiration t sections) accepted in
    let done = expiration_set-Ok a id expiration t sections after is in
    none-some done.was (sym (section_at-no_place id sections nowhere) ∙ done.there)

-- the section goes from its place
pub section_deleted-remove : (a : CreationAttributes) (id : List ℕ) (sections : List Section) (i : ℕ) → Rises sections → Fits a sections → place_of id sections ≡ Some i → IsOk (section_deleted a id sections) → Leaves a (section_deleted a id sections) (remove sections i)
section_deleted-remove a id sections i rises fits place accepted =
    let (after, is) = Ok_from_IsOk (section_deleted a id sections) accepted in
    let done = section_deleted-Ok a id sections after is in
    Leaves-same a _ after _ (sym done.left ∙ without_section-remove id sections i rises place) is
    (subst Rises done.left (Rises-without_section id sections rises)) (subst (Fits a) done.left (Fits-without_section a id sections fits))

-- a section that has no place can't be deleted
pub section_deleted-no_place : (a : CreationAttributes) (id : List ℕ) (sections : List Section) → place_of id sections ≡ None → IsOk (section_deleted a id sections) → ⊥
section_deleted-no_place a id sections nowhere accepted =
    let (after, is) = Ok_from_IsOk (section_deleted a id sections) accepted in
    let done = section_deleted-Ok a id sections after is in
    none-some done.gone (sym (section_at-no_place id sections nowhere) ∙ done.there)

-- a new section is put in at its place
pub section_created-insert : (a : CreationAttributes) (new : NewId) (expiration : ℤ) (bytes : List ℕ) (t : ℤ) (sections : List Section) → Rises sections → Fits a sections → IsOk (section_created a new expiration bytes t sections)
    → Leaves a (section_created a new expiration bytes t sections) (insert sections (count_below (new_id new sections) sections) (record { id = new_id new sections; bytes = bytes; expiration = expiration; state = Valid; last_update = t }))
section_created-insert a new expiration bytes t sections rises fits accepted =
    let (after, is) = Ok_from_IsOk (section_created a new expiration bytes t sections) accepted in
    let done = section_created-Ok a new expiration bytes t sections after is in
    let section : Section = record { id = new_id new sections; bytes = bytes; expiration = expiration; state = Valid; last_update = t } in
    Leaves-same a _ after _ (sym done.left ∙ with_section-insert section sections (none_of (section_at section.id sections) done.free)) is
    (subst Rises done.left (Rises-with_section section sections rises)) (Fits-section_created a new expiration bytes t sections after rises fits done)

-- ---- where the place and the moment are told in other words

pub overwritten-told : (a : CreationAttributes) (id bytes : List ℕ) (t m : ℤ) (sections : List Section) (i : ℕ) → m ≡ t → Rises sections → Fits a sections → place_of id sections ≡ Some i → IsOk (overwritten a id bytes t sections)
    → Leaves a (overwritten a id bytes t sections) (changed_at (λ s. record s { bytes = bytes; state = Valid; last_update = m }) i sections)
overwritten-told a id bytes t m sections i moment rises fits place accepted =
    subst (λ n. Leaves a (overwritten a id bytes t sections) (changed_at (λ s. record s { bytes = bytes; state = Valid; last_update = n }) i sections)) (sym moment) (overwritten-changed_at a id bytes t sections i rises fits place accepted)

pub expiration_set-told : (a : CreationAttributes) (id : List ℕ) (expiration m t : ℤ) (sections : List Section) (i : ℕ) → m ≡ expiration → Rises sections → Fits a sections → place_of id sections ≡ Some i → IsOk (expiration_set a id expiration t sections)
    → Leaves a (expiration_set a id expiration t sections) (changed_at (λ s. record s { expiration = m }) i sections)
expiration_set-told a id expiration m t sections i moment rises fits place accepted =
    subst (λ n. Leaves a (expiration_set a id expiration t sections) (changed_at (λ s. record s { expiration = n }) i sections)) (sym moment) (expiration_set-changed_at a id expiration t sections i rises fits place accepted)

pub section_created-told : (a : CreationAttributes) (new : NewId) (expiration e : ℤ) (bytes : List ℕ) (t m : ℤ) (sections : List Section) (id : List ℕ) (i : ℕ) → e ≡ expiration → m ≡ t → id ≡ new_id new sections → i ≡ count_below (new_id new sections) sections
    → Rises sections → Fits a sections → IsOk (section_created a new expiration bytes t sections) → Leaves a (section_created a new expiration bytes t sections) (insert sections i (new_section id bytes e m))
section_created-told a new expiration e bytes t m sections id i end moment named place rises fits accepted =
    let same : insert sections i (new_section id bytes e m) ≡ insert sections (count_below (new_id new sections) sections) (new_section (new_id new sections) bytes expiration t) =
    λ k. insert sections (place k) (new_section (named k) bytes (end k) (moment k)) in
    subst (Leaves a (section_created a new expiration bytes t sections)) (sym same) (section_created-insert a new expiration bytes t sections rises fits accepted)

-- an element that is not refused at one place of a vector is not refused at another
pub element_written-any_place : (a : CreationAttributes) (t : ℤ) (place other : ℕ) (e : IoElement) (sections after : List Section) → element_written a t place e sections ≡ Ok after → element_written a t other e sections ≡ Ok after
element_written-any_place a t place other e sections after is = grind arith

-- where a vector is not refused, its first element is not
pub element_written-IsOk : (a : CreationAttributes) (t : ℤ) (place : ℕ) (e : IoElement) (elements : List IoElement) (sections : List Section) → IsOk (elements_written a t place (e ∷ elements) sections) → IsOk (element_written a t 0 e sections)
element_written-IsOk a t place e elements sections accepted =
    let (after, is) = Ok_from_IsOk (elements_written a t place (e ∷ elements) sections) accepted in
    let (next, first, rest) = and_then-Ok (element_written a t place e sections) (elements_written a t (place + 1) elements) after is in
    ap is_ok (element_written-any_place a t place 0 e sections next first)

-- where a creation is not refused, there is room for one more section, and in a buffer for its bytes
pub section_created-room : (a : CreationAttributes) (new : NewId) (expiration : ℤ) (bytes : List ℕ) (t : ℤ) (sections : List Section) → IsOk (section_created a new expiration bytes t sections) → (length sections < a.max_sections) × (length bytes ≤ a.max_section_size)
section_created-room a new expiration bytes t sections accepted =
    let (after, is) = Ok_from_IsOk (section_created a new expiration bytes t sections) accepted in
    let done = section_created-Ok a new expiration bytes t sections after is in
    (done.room, done.small)

-- where a creation is not refused, its identifier is as short as any may be
pub section_created-short : (a : CreationAttributes) (new : NewId) (expiration : ℤ) (bytes : List ℕ) (t : ℤ) (sections : List Section) → is_malformed a ≡ false → IsOk (section_created a new expiration bytes t sections) → length (new_id new sections) ≤ section_id_max
section_created-short a new expiration bytes t sections checked accepted =
    let (after, is) = Ok_from_IsOk (section_created a new expiration bytes t sections) accepted in
    let done = section_created-Ok a new expiration bytes t sections after is in
    let declared = IsWellFormed-from_check a checked in
    omega (arith, length-new_id-le a new sections done.good_id, declared.few_id_bytes)

-- those present at a moment are present then
pub present-present : (t : ℤ) (sections : List Section) → present t (present t sections) ≡ present t sections
present-present t [] = refl
present-present t (s ∷ sections) =
    let rest = present-present t sections in
    elim (is_present t s) as (λ b. is_present t s ≡ b → present t (cond b (s ∷ present t sections) (present t sections)) ≡ cond b (s ∷ present t sections) (present t sections)) [
      | true ↦ λ here. rw here (ap (λ xs. s ∷ xs) rest)
      | false ↦ λ gone. rest
    ] refl

-- the section of an identifier is corrupted at its place
pub with_corrupted-changed_at : (a : CreationAttributes) (id : List ℕ) (sections : List Section) (i : ℕ) → Rises sections → Fits a sections → place_of id sections ≡ Some i
    → (with_corrupted id sections ≡ changed_at (λ s. record s { state = Corrupted }) i sections) × Rises (with_corrupted id sections) × Fits a (with_corrupted id sections)
with_corrupted-changed_at a id sections i rises fits place =
    let (was, at) = slice_get-within sections i (place_of-lt id sections i place) in
    let found : section_at id sections ≡ Some was = section_at-place_of id sections i place ∙ at in
    let named : was.id ≡ id = section_at-named id sections was found in
    let change : Section → Section = λ s. record s { state = Corrupted } in
    let found_again : section_at was.id sections ≡ Some was = ap (λ x. section_at x sections) named ∙ found in
    let same = memory_used-with_section_over (change was) was sections rises found_again in
    let small : size_of was ≤ a.max_section_size = All-section_at (λ s. size_of s ≤ a.max_section_size) id sections was fits.small found in
    let left : Fits a (with_section (change was) sections) = Fits-with_section_over a (change was) was sections rises fits found_again small (omega (arith, same, fits.within)) in
    let is : with_corrupted id sections ≡ with_section (change was) sections = ap (λ o. corrupted_where o sections) found in
    (is ∙ with_section-changed_at change id sections i was rises place found named, subst Rises (sym is) (Rises-with_section (change was) sections rises), subst (Fits a) (sym is) left)

-- nothing is corrupted where the identifier has no place
pub with_corrupted-no_place : (id : List ℕ) (sections : List Section) → place_of id sections ≡ None → with_corrupted id sections ≡ sections
with_corrupted-no_place id sections nowhere = ap (λ o. corrupted_where o sections) (section_at-no_place id sections nowhere)
