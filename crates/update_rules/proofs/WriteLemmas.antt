-- What the first elements of a write leave: the size of each section, and the bytes together.
use Rattle.std.proofs.Common.{◌≡◌, ℕ, ◌+◌, ◌-◌, ◌<◌, ◌≤◌, max, List, [], ◌∷◌, ◌++◌, length, take, drop, get_or, suc, add-one, Option, Some, None, option_map, Result, Ok, Err, true, false, cond, nat_lt, nat_eq, if◌then◌else◌, ℤ, sym, ap, ◌∙◌, refl, arith}
use Rattle.std.specs.Cmp.Lexicographic.{pointwise, bytes_decides}
use Rattle.std.proofs.lemmas.List.{take_more, length-take-le}
use Rattle.std.proofs.Math.Seq.{drop-cons}
use Rattle.std.proofs.lemmas.Bool.{lt-ltb, le-ltb}
use Rattle.ckpt_types.specs.declared.ais_error.AisError.TheVariants.{InvalidParam, NotExist, NoSpace}
use Rattle.ckpt_types.specs.declared.attributes.CreationAttributes.{CreationAttributes}
use Rattle.ckpt_types.specs.declared.update.IoElement.{IoElement}
use Rattle.ckpt_types.specs.Sections.{Section, section_at, Rises, with_section, memory_used, size_of}
use Rattle.ckpt_types.specs.Updates.{Refusal, and_then, written, element_written, elements_written}
use Rattle.ckpt_types.proofs.Presence.{section_at-named}
use Rattle.ckpt_types.proofs.Placing.{Rises-with_section, section_at-with_section}
use Rattle.ckpt_types.proofs.Accepted.{element_written-Ok}
use Rattle.ckpt_types.proofs.Fitting.{length-written}
use Rattle.update_rules.specs.declared.refused.Refused.{Refused}
use Rattle.update_rules.specs.Present.{size_at}
use Rattle.update_rules.specs.Told.{answer_with}
use Rattle.update_rules.specs.Writes.{with_data, with_element, with_elements, element_end, end_in, last_end_in, measured}
use Rattle.update_rules.proofs.Sizes.{size_at-Some, size_at-None, two_conditions, memory_used-in_place}

-- ---- what is left rises

-- what one element leaves rises
Rises-with_data : (t : ℤ) (e : IoElement) (sections : List Section) (found : Option Section) → Rises sections → Rises (with_data t e sections found)
Rises-with_data t e sections None rises = rises
Rises-with_data t e sections (Some s) rises = Rises-with_section _ sections rises

-- what the elements leave rises
pub Rises-with_elements : (t : ℤ) (elements : List IoElement) (sections : List Section) → Rises sections → Rises (with_elements t elements sections)
Rises-with_elements t [] sections rises = rises
Rises-with_elements t (e ∷ elements) sections rises = Rises-with_elements t elements (with_element t e sections) (Rises-with_data t e sections (section_at e.id sections) rises)

-- first elements and then others
with_elements-append : (t : ℤ) (elements others : List IoElement) (sections : List Section) → with_elements t (elements ++ others) sections ≡ with_elements t others (with_elements t elements sections)
with_elements-append t [] others sections = refl
with_elements-append t (e ∷ elements) others sections = with_elements-append t elements others (with_element t e sections)

-- the last end among first elements and one more
last_end_in_push : (id : List ℕ) (elements : List IoElement) (e : IoElement) → last_end_in id (elements ++ e ∷ []) ≡ max (last_end_in id elements) (end_in id e)
last_end_in_push id [] e = omega arith
last_end_in_push id (x ∷ elements) e = omega (arith, last_end_in_push id elements e)

-- the last end among the first elements, with one more
pub last_end_in_more : (id : List ℕ) (elements : List IoElement) (i : ℕ) (e : IoElement) → i < length elements → e ≡ get_or elements i e → last_end_in id (take (i + 1) elements) ≡ max (last_end_in id (take i elements)) (end_in id e)
last_end_in_more id elements i e lt is =
    ap (last_end_in id) (take_more elements i e lt ∙ ap (λ x. take i elements ++ x ∷ []) (sym is)) ∙ last_end_in_push id (take i elements) e

-- ---- the sizes

-- a size, made as large as an end
abbrev larger : ℕ → Option ℕ → Option ℕ
larger end size = option_map (λ n. max n end) size

-- one end after another is the larger of both
larger-larger : (x y : ℕ) (size : Option ℕ) → larger y (larger x size) ≡ larger (max x y) size
larger-larger x y None = refl
larger-larger x y (Some n) = ap Some (omega arith)

-- an end at 0 makes nothing larger
larger-0 : (size : Option ℕ) → larger 0 size ≡ size
larger-0 None = refl
larger-0 (Some n) = ap Some (omega arith)

-- an element makes the section of its identifier as large as its end, and leaves the others
size_at-with_data : (t : ℤ) (e : IoElement) (sections : List Section) (id : List ℕ) (found : Option Section) → section_at e.id sections ≡ found → size_at id (with_data t e sections found) ≡ larger (end_in id e) (size_at id sections)
size_at-with_data t e sections id None there =
    elim (pointwise nat_eq e.id id) as (λ b. pointwise nat_eq e.id id ≡ b → size_at id sections ≡ larger (cond b (element_end e) 0) (size_at id sections)) [
      | true ↦ λ same. let none : section_at id sections ≡ None = ap (λ x. section_at x sections) (sym ((bytes_decides e.id id).0 same)) ∙ there in rw none refl
      | false ↦ λ other. sym (larger-0 (size_at id sections))
    ] refl
size_at-with_data t e sections id (Some s) there =
    let named : s.id ≡ e.id = section_at-named e.id sections s there in
    let new : Section = record s { bytes = written s.bytes e.offset e.bytes; last_update = t } in
    ap (option_map size_of) (section_at-with_section new id sections ∙ ap (λ x. cond (pointwise nat_eq x id) (Some new) (section_at id sections)) named)
    ∙ elim (pointwise nat_eq e.id id) as (λ b. pointwise nat_eq e.id id ≡ b → option_map size_of (cond b (Some new) (section_at id sections)) ≡ larger (cond b (element_end e) 0) (size_at id sections)) [
      | true ↦ λ same.
          let here : section_at id sections ≡ Some s = ap (λ x. section_at x sections) (sym ((bytes_decides e.id id).0 same)) ∙ there in
          rw here (ap Some (length-written s.bytes e.offset e.bytes))
      | false ↦ λ other. sym (larger-0 (size_at id sections))
    ] refl

-- the size of a section once the elements are written: that before, or the last end among them
pub size_at-with_elements : (t : ℤ) (elements : List IoElement) (sections : List Section) (id : List ℕ) → size_at id (with_elements t elements sections) ≡ option_map (λ n. max n (last_end_in id elements)) (size_at id sections)
size_at-with_elements t [] sections id = sym (larger-0 (size_at id sections))
size_at-with_elements t (e ∷ elements) sections id =
    size_at-with_elements t elements (with_element t e sections) id
    ∙ ap (larger (last_end_in id elements)) (size_at-with_data t e sections id (section_at e.id sections) refl)
    ∙ larger-larger (end_in id e) (last_end_in id elements) (size_at id sections)

-- the size of a section that was there before the elements were written
pub size_at-with_elements-Some : (t : ℤ) (elements : List IoElement) (sections : List Section) (id : List ℕ) (n : ℕ) → size_at id sections ≡ Some n → size_at id (with_elements t elements sections) ≡ Some (max n (last_end_in id elements))
size_at-with_elements-Some t elements sections id n is = size_at-with_elements t elements sections id ∙ ap (larger (last_end_in id elements)) is

-- a section that was not there is not there then
pub size_at-with_elements-None : (t : ℤ) (elements : List IoElement) (sections : List Section) (id : List ℕ) → size_at id sections ≡ None → size_at id (with_elements t elements sections) ≡ None
size_at-with_elements-None t elements sections id is = size_at-with_elements t elements sections id ∙ ap (larger (last_end_in id elements)) is

-- ---- one element

-- an element whose section is not there is refused
pub measured-element_written-absent : (a : CreationAttributes) (t : ℤ) (place : ℕ) (e : IoElement) (sections : List Section) → size_at e.id sections ≡ None → measured (element_written a t place e sections) ≡ Err (record { error = NotExist; index = place })
measured-element_written-absent a t place e sections is = rw (size_at-None e.id sections is) refl

-- an element is refused where it ends past what was declared for a section, or adds too many bytes; else it adds what is behind the section's end
measured-element_written : (a : CreationAttributes) (t : ℤ) (place : ℕ) (e : IoElement) (sections : List Section) (size : ℕ) → Rises sections → size_at e.id sections ≡ Some size → measured (element_written a t place e sections) ≡ (if nat_lt a.max_section_size (element_end e) then Err (record { error = InvalidParam; index = place }) else if nat_lt a.checkpoint_size (memory_used sections + (element_end e - size)) then Err (record { error = NoSpace; index = place }) else Ok (memory_used sections + (element_end e - size)))
measured-element_written a t place e sections size rises is =
    let (s, there, has) = size_at-Some e.id sections size is in
    let placed : Section = record s { bytes = written s.bytes e.offset e.bytes; last_update = t } in
    let sum : memory_used (with_section placed sections) + size_of s ≡ memory_used sections + size_of placed = memory_used-in_place placed s e.id sections rises there refl in
    let used : memory_used (with_section placed sections) ≡ memory_used sections + (element_end e - size) = omega (arith, sum, length-written s.bytes e.offset e.bytes, has) in
    rw there (
    two_conditions measured (nat_lt a.max_section_size (element_end e)) (nat_lt a.checkpoint_size (memory_used (with_section placed sections))) _ _ _
    ∙ ap (λ n. if nat_lt a.max_section_size (element_end e) then Err (record { error = InvalidParam; index = place }) else if nat_lt a.checkpoint_size n then Err (record { error = NoSpace; index = place }) else Ok n) used)

-- an element that ends past what was declared for a section is refused
pub measured-element_written-long : (a : CreationAttributes) (t : ℤ) (place : ℕ) (e : IoElement) (sections : List Section) (size : ℕ) → Rises sections → size_at e.id sections ≡ Some size → a.max_section_size < element_end e → measured (element_written a t place e sections) ≡ Err (record { error = InvalidParam; index = place })
measured-element_written-long a t place e sections size rises is long =
    measured-element_written a t place e sections size rises is ∙ rw (lt-ltb a.max_section_size (element_end e) long) refl

-- an element that adds too many bytes is refused
pub measured-element_written-full : (a : CreationAttributes) (t : ℤ) (place : ℕ) (e : IoElement) (sections : List Section) (size used : ℕ) → Rises sections → size_at e.id sections ≡ Some size → used ≡ memory_used sections → element_end e ≤ a.max_section_size → a.checkpoint_size < used + (element_end e - size) → measured (element_written a t place e sections) ≡ Err (record { error = NoSpace; index = place })
measured-element_written-full a t place e sections size used rises is sum short full =
    measured-element_written a t place e sections size rises is
    ∙ rw (le-ltb a.max_section_size (element_end e) short, ← sum, lt-ltb a.checkpoint_size (used + (element_end e - size)) full) refl

-- another element adds its bytes behind the section's end
pub measured-element_written-fine : (a : CreationAttributes) (t : ℤ) (place : ℕ) (e : IoElement) (sections : List Section) (size used : ℕ) → Rises sections → size_at e.id sections ≡ Some size → used ≡ memory_used sections → element_end e ≤ a.max_section_size → used + (element_end e - size) ≤ a.checkpoint_size → measured (element_written a t place e sections) ≡ Ok (used + (element_end e - size))
measured-element_written-fine a t place e sections size used rises is sum short fits =
    measured-element_written a t place e sections size rises is
    ∙ rw (le-ltb a.max_section_size (element_end e) short, ← sum, le-ltb a.checkpoint_size (used + (element_end e - size)) fits) refl

-- an element that is not refused leaves what it writes
element_written-with_element : (a : CreationAttributes) (t : ℤ) (place : ℕ) (e : IoElement) (sections after : List Section) → element_written a t place e sections ≡ Ok after → after ≡ with_element t e sections
element_written-with_element a t place e sections after is =
    let here = element_written-Ok a t place e sections after is in
    sym here.left ∙ sym (ap (with_data t e sections) here.there)

-- ---- the elements in order

-- a refused element refuses the write
pub answer_with-elements_written-Err : {B : Type 0} (first : B) (a : CreationAttributes) (t : ℤ) (place : ℕ) (e : IoElement) (elements : List IoElement) (sections : List Section) (refused : Refused) → measured (element_written a t place e sections) ≡ Err refused → answer_with first (elements_written a t place (e ∷ elements) sections) ≡ Err refused
answer_with-elements_written-Err first a t place e elements sections refused is = step (element_written a t place e sections) is
  where
    step : (made : Result (List Section) Refusal) → measured made ≡ Err refused → answer_with first (and_then made (elements_written a t (place + 1) elements)) ≡ Err refused
    step (Ok after) is = absurd (cc is)
    step (Err refusal) is = cc is

-- where an element is not refused the others tell, over what it leaves
pub answer_with-elements_written-Ok : {B : Type 0} (first : B) (a : CreationAttributes) (t : ℤ) (place : ℕ) (e : IoElement) (elements : List IoElement) (sections : List Section) (used : ℕ) → measured (element_written a t place e sections) ≡ Ok used → (answer_with first (elements_written a t place (e ∷ elements) sections) ≡ answer_with first (elements_written a t (place + 1) elements (with_element t e sections))) × (used ≡ memory_used (with_element t e sections))
answer_with-elements_written-Ok first a t place e elements sections used is = step (element_written a t place e sections) refl is
  where
    step : (made : Result (List Section) Refusal) → element_written a t place e sections ≡ made → measured made ≡ Ok used → (answer_with first (and_then made (elements_written a t (place + 1) elements)) ≡ answer_with first (elements_written a t (place + 1) elements (with_element t e sections))) × (used ≡ memory_used (with_element t e sections))
    step (Ok after) leaves is =
        let left : after ≡ with_element t e sections = element_written-with_element a t place e sections after leaves in
        let bytes : memory_used after ≡ used = cc is in
        (ap (λ sections. answer_with first (elements_written a t (place + 1) elements sections)) left, sym bytes ∙ ap memory_used left)
    step (Err refusal) refuses is = absurd (cc is)

-- ---- the loop over the elements

-- the elements from a place on
drop_element : (elements : List IoElement) (i : ℕ) (e : IoElement) → i < length elements → e ≡ get_or elements i e → drop i elements ≡ e ∷ drop (i + 1) elements
drop_element elements i e lt is = drop-cons elements i e lt ∙ ap (λ x. x ∷ drop (suc i) elements) (sym is) ∙ ap (λ n. e ∷ drop n elements) (sym (add-one i))

-- what the elements leave up to one more
with_elements_more : (t : ℤ) (elements : List IoElement) (i : ℕ) (e : IoElement) (sections : List Section) → i < length elements → e ≡ get_or elements i e → with_elements t (take (i + 1) elements) sections ≡ with_element t e (with_elements t (take i elements) sections)
with_elements_more t elements i e sections lt is =
    ap (λ es. with_elements t es sections) (take_more elements i e lt ∙ ap (λ x. take i elements ++ x ∷ []) (sym is)) ∙ with_elements-append t (take i elements) (e ∷ []) sections

-- a write is refused with the first of its elements that is refused
pub write_stops : {B : Type 0} (first : B) (a : CreationAttributes) (t : ℤ) (elements : List IoElement) (i : ℕ) (e : IoElement) (sections : List Section) (refused : Refused) → i < length elements → e ≡ get_or elements i e → answer_with first (elements_written a t 0 elements sections) ≡ answer_with first (elements_written a t i (drop i elements) (with_elements t (take i elements) sections)) → Err refused ≡ measured (element_written a t (length (take i elements)) e (with_elements t (take i elements) sections)) → answer_with first (elements_written a t 0 elements sections) ≡ Err refused
write_stops first a t elements i e sections refused lt is rest here =
    let left = with_elements t (take i elements) sections in
    let place : length (take i elements) ≡ i = length-take-le i elements (omega arith) in
    rest ∙ ap (λ es. answer_with first (elements_written a t i es left)) (drop_element elements i e lt is)
    ∙ answer_with-elements_written-Err first a t i e (drop (i + 1) elements) left refused (ap (λ n. measured (element_written a t n e left)) (sym place) ∙ sym here)

-- a write goes on where an element is not refused
pub write_goes_on : {B : Type 0} (first : B) (a : CreationAttributes) (t : ℤ) (elements : List IoElement) (i : ℕ) (e : IoElement) (sections : List Section) (used : ℕ) → i < length elements → e ≡ get_or elements i e → answer_with first (elements_written a t 0 elements sections) ≡ answer_with first (elements_written a t i (drop i elements) (with_elements t (take i elements) sections)) → Ok used ≡ measured (element_written a t (length (take i elements)) e (with_elements t (take i elements) sections)) → (answer_with first (elements_written a t 0 elements sections) ≡ answer_with first (elements_written a t (i + 1) (drop (i + 1) elements) (with_elements t (take (i + 1) elements) sections))) × (used ≡ memory_used (with_elements t (take (i + 1) elements) sections))
write_goes_on first a t elements i e sections used lt is rest here =
    let left = with_elements t (take i elements) sections in
    let place : length (take i elements) ≡ i = length-take-le i elements (omega arith) in
    let more : with_elements t (take (i + 1) elements) sections ≡ with_element t e left = with_elements_more t elements i e sections lt is in
    let (goes, sum) = answer_with-elements_written-Ok first a t i e (drop (i + 1) elements) left used (ap (λ n. measured (element_written a t n e left)) (sym place) ∙ sym here) in (
      rest ∙ ap (λ es. answer_with first (elements_written a t i es left)) (drop_element elements i e lt is) ∙ goes ∙ ap (λ s. answer_with first (elements_written a t (i + 1) (drop (i + 1) elements) s)) (sym more),
      sum ∙ ap memory_used (sym more),
    )
