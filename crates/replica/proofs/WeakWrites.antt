-- A weak write, element by element: what its first element leaves, and how the others go on from there.
use Rattle.std.proofs.Common.{◌≡◌, ℕ, suc, ◌+◌, List, [], ◌∷◌, drop, slice_get, Some, Ok, true, ℤ, All, sym, ap, ◌∙◌, subst, refl, drop-cons, arith}
use Rattle.std.specs.Prelude.{IsOk, is_ok}
use Rattle.std.proofs.lemmas.List.Elements.{All-head, All-tail, filter_passes}
use Rattle.std.proofs.lemmas.Option.{slice_get_within, get_or_from_slice_get}
use Rattle.ckpt_types.specs.declared.attributes.CreationAttributes.{CreationAttributes}
use Rattle.ckpt_types.specs.declared.update.IoElement.{IoElement}
use Rattle.ckpt_types.specs.declared.update.Update.TheVariants as updates
use Rattle.ckpt_types.specs.Sections.{Section, is_present, present}
use Rattle.ckpt_types.specs.Updates.{and_then, element_written, elements_written, outcome}
use Rattle.ckpt_types.proofs.Accepted.{accepted_same, and_then-Ok, element_written-Ok}
use Rattle.ckpt_types.proofs.Presence.{All-section_at}
use Rattle.ckpt_types.proofs.Placing.{All-with_section}
use Rattle.section_store.proofs.Placed.{Ok_from_IsOk, element_written-IsOk, element_written-any_place}
use Rattle.weak_marks.specs.Marks.{Marked, elements_in}
use Rattle.replica.specs.Replicas.{or_same, first_written, elements_left, CanGoOn}

-- ---- what is present

-- where all are present, those present are all
pub present-all : (t : ℤ) (sections : List Section) → All (λ s. is_present t s ≡ true) sections → present t sections ≡ sections
present-all t [] all = refl
present-all t (s ∷ sections) all =
    let here : is_present t s ≡ true = All-head (λ x. is_present t x ≡ true) s sections all in
    rw here (ap (λ xs. s ∷ xs) (present-all t sections (All-tail (λ x. is_present t x ≡ true) s sections all)))

-- what an element leaves of sections that are present is present at that moment
pub present-element_written : (a : CreationAttributes) (t : ℤ) (place : ℕ) (e : IoElement) (sections after : List Section) → element_written a t place e (present t sections) ≡ Ok after → present t after ≡ after
present-element_written a t place e sections after is =
    let P : Section → Type 0 = λ s. is_present t s ≡ true in
    let done = element_written-Ok a t place e (present t sections) after is in
    let all : All P (present t sections) = filter_passes (is_present t) sections in
    let was : P done.was = All-section_at P e.id (present t sections) done.was all done.there in
    present-all t after (subst (All P) done.left (All-with_section P _ (present t sections) was all))

-- ---- the first element, and the others

-- elements that are not refused, counted from one place, leave the same counted from another
pub elements_written-any_place : (a : CreationAttributes) (t : ℤ) (place other : ℕ) (elements : List IoElement) (sections after : List Section) → elements_written a t place elements sections ≡ Ok after → elements_written a t other elements sections ≡ Ok after
elements_written-any_place a t place other [] sections after is = is
elements_written-any_place a t place other (e ∷ elements) sections after is =
    let (next, first, rest) = and_then-Ok (element_written a t place e sections) (elements_written a t (place + 1) elements) after is in
    ap (λ r. and_then r (elements_written a t (other + 1) elements)) (element_written-any_place a t place other e sections next first)
    ∙ elements_written-any_place a t (place + 1) (other + 1) elements next after rest

-- a write that has an outcome has one with its first element alone
pub outcome-first : (a : CreationAttributes) (t : ℤ) (e : IoElement) (elements : List IoElement) (sections : List Section) → IsOk (outcome a (updates.Write (e ∷ elements)) t sections) → IsOk (outcome a (updates.Write (e ∷ [])) t sections)
outcome-first a t e elements sections fits =
    let now = present t sections in
    let (after, first) = Ok_from_IsOk (element_written a t 0 e now) (element_written-IsOk a t 0 e elements now fits) in
    ap (λ r. is_ok (and_then r (λ x. Ok x))) first

-- what that leaves
pub first_written-cons : (a : CreationAttributes) (t : ℤ) (e : IoElement) (elements : List IoElement) (sections after : List Section) → outcome a (updates.Write (e ∷ [])) t sections ≡ Ok after → first_written a t (e ∷ elements) sections ≡ after
first_written-cons a t e elements sections after is = ap (λ r. or_same r sections) is

-- behind it the others leave what the whole write leaves at once
pub outcome-rest : (a : CreationAttributes) (t : ℤ) (e : IoElement) (elements : List IoElement) (sections after last : List Section) → outcome a (updates.Write (e ∷ elements)) t sections ≡ Ok last → outcome a (updates.Write (e ∷ [])) t sections ≡ Ok after → outcome a (updates.Write elements) t after ≡ Ok last
outcome-rest a t e elements sections after last whole alone =
    let now = present t sections in
    let (left, first, is) = and_then-Ok (element_written a t 0 e now) (λ x. Ok x) after alone in
    let others : elements_written a t 1 elements left ≡ Ok last = ap (λ r. and_then r (elements_written a t 1 elements)) (sym first) ∙ whole in
    let here : present t left ≡ left = present-element_written a t 0 e sections left first in
    subst (λ xs. outcome a (updates.Write elements) t xs ≡ Ok last) (accepted_same left after is) (ap (elements_written a t 0 elements) here ∙ elements_written-any_place a t 1 0 elements left last others)

-- ---- the next element of a weak write

-- the marks with one element more that is done
abbrev pub behind : Marked → Marked
behind marked = record marked { done = marked.done + 1 }

-- it stands first of those that are left
pub elements_left-next : (marked : Marked) (e : IoElement) → slice_get (elements_in marked.update) marked.done ≡ Some e → elements_left marked ≡ e ∷ elements_left (behind marked)
elements_left-next marked e at =
    let elements = elements_in marked.update in
    let more : suc marked.done ≡ marked.done + 1 = omega arith in
    drop-cons elements marked.done e (slice_get_within elements marked.done e at) ∙ (λ k. get_or_from_slice_get elements marked.done e e at k ∷ drop (more k) elements)

-- what can go on begins with it
CanGoOn-next : (a : CreationAttributes) (marked : Marked) (e : IoElement) (sections : List Section) → slice_get (elements_in marked.update) marked.done ≡ Some e → CanGoOn a marked sections → IsOk (outcome a (updates.Write (e ∷ elements_left (behind marked))) marked.moment sections)
CanGoOn-next a marked e sections at goes = subst (λ elements. IsOk (outcome a (updates.Write elements) marked.moment sections)) (elements_left-next marked e at) goes

-- it has an outcome alone
pub next-fits : (a : CreationAttributes) (marked : Marked) (e : IoElement) (sections : List Section) → slice_get (elements_in marked.update) marked.done ≡ Some e → CanGoOn a marked sections → IsOk (outcome a (updates.Write (e ∷ [])) marked.moment sections)
next-fits a marked e sections at goes = outcome-first a marked.moment e (elements_left (behind marked)) sections (CanGoOn-next a marked e sections at goes)

-- what that leaves
pub next-written : (a : CreationAttributes) (marked : Marked) (e : IoElement) (sections after : List Section) → slice_get (elements_in marked.update) marked.done ≡ Some e → outcome a (updates.Write (e ∷ [])) marked.moment sections ≡ Ok after → first_written a marked.moment (elements_left marked) sections ≡ after
next-written a marked e sections after at alone = ap (λ elements. first_written a marked.moment elements sections) (elements_left-next marked e at) ∙ first_written-cons a marked.moment e (elements_left (behind marked)) sections after alone

-- behind it the write can go on
pub next-rest : (a : CreationAttributes) (marked : Marked) (e : IoElement) (sections after : List Section) → slice_get (elements_in marked.update) marked.done ≡ Some e → CanGoOn a marked sections → outcome a (updates.Write (e ∷ [])) marked.moment sections ≡ Ok after → CanGoOn a (behind marked) after
next-rest a marked e sections after at goes alone =
    let (last, whole) = Ok_from_IsOk _ (CanGoOn-next a marked e sections at goes) in
    ap is_ok (outcome-rest a marked.moment e (elements_left (behind marked)) sections after last whole alone)

-- ---- all elements, each done alone

-- the sections after them
abbrev pub one_by_one : CreationAttributes → ℤ → List IoElement → List Section → List Section
one_by_one a t [] sections = sections
one_by_one a t (e ∷ elements) sections = one_by_one a t elements (first_written a t (e ∷ elements) sections)

-- a write of one element or more that is done element by element leaves what it leaves at once
pub one_by_one-outcome : (a : CreationAttributes) (t : ℤ) (e : IoElement) (elements : List IoElement) (sections last : List Section) → outcome a (updates.Write (e ∷ elements)) t sections ≡ Ok last → one_by_one a t (e ∷ elements) sections ≡ last
one_by_one-outcome a t e [] sections last whole = first_written-cons a t e [] sections last whole
one_by_one-outcome a t e (x ∷ elements) sections last whole =
    let (after, alone) = Ok_from_IsOk _ (outcome-first a t e (x ∷ elements) sections (ap is_ok whole)) in
    ap (one_by_one a t (x ∷ elements)) (first_written-cons a t e (x ∷ elements) sections after alone)
    ∙ one_by_one-outcome a t x elements after last (outcome-rest a t e (x ∷ elements) sections after last whole alone)
