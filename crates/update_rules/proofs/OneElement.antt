-- What is told of a write of one element, by where its section stands.
use Rattle.std.proofs.Common.{◌≡◌, ℕ, ◌+◌, ◌-◌, ◌<◌, ◌≤◌, List, [], ◌∷◌, length, get_or, Some, None, unwrap_or, slice_get, Ok, Err, ℤ, sym, ap, ◌∙◌, arith}
use Rattle.ckpt_types.specs.declared.ais_error.AisError.{AisError}
use Rattle.ckpt_types.specs.declared.ais_error.AisError.TheVariants.{InvalidParam, NotExist, NoSpace}
use Rattle.ckpt_types.specs.declared.attributes.CreationAttributes.{CreationAttributes}
use Rattle.ckpt_types.specs.declared.update.IoElement.{IoElement}
use Rattle.ckpt_types.specs.Sections.{Section, Rises, present, memory_used, size_of}
use Rattle.ckpt_types.specs.Updates.{element_written, elements_written, first_place}
use Rattle.ckpt_types.proofs.Presence.{Rises-present}
use Rattle.update_rules.specs.Present.{place_present}
use Rattle.update_rules.specs.Told.{answer_with}
use Rattle.update_rules.specs.Writes.{element_end, measured}
use Rattle.update_rules.proofs.PresentLemmas.{place_present-Some, size_at-absent, size_at-present}
use Rattle.update_rules.proofs.WriteLemmas.{measured-element_written-absent, measured-element_written-long, measured-element_written-full, measured-element_written-fine, answer_with-elements_written-Err, answer_with-elements_written-Ok}

-- one element is the list of it alone
pub only_one : (elements : List IoElement) (e : IoElement) → length elements ≡ 1 → e ≡ get_or elements 0 e → elements ≡ e ∷ []
only_one [] e one is = absurd (cc one)
only_one (x ∷ []) e one is = ap (λ y. y ∷ []) (sym is)
only_one (x ∷ y ∷ elements) e one is = absurd (omega (arith, one))

-- the write is refused where its element is
stops : (first : ℕ) (a : CreationAttributes) (t : ℤ) (elements : List IoElement) (e : IoElement) (sections : List Section) (error : AisError) → elements ≡ e ∷ [] → measured (element_written a t 0 e sections) ≡ Err (record { error = error; index = 0 }) → answer_with first (elements_written a t 0 elements sections) ≡ Err (record { error = error; index = 0 })
stops first a t elements e sections error one is =
    ap (λ es. answer_with first (elements_written a t 0 es sections)) one ∙ answer_with-elements_written-Err first a t 0 e [] sections _ is

-- an element whose section is not present
pub one_absent : (first : ℕ) (a : CreationAttributes) (t : ℤ) (elements : List IoElement) (e : IoElement) (sections : List Section) → elements ≡ e ∷ [] → Rises sections → place_present e.id t sections ≡ None → answer_with first (elements_written a t 0 elements (present t sections)) ≡ Err (record { error = NotExist; index = 0 })
one_absent first a t elements e sections one rises at =
    stops first a t elements e _ NotExist one (measured-element_written-absent a t 0 e _ (size_at-absent t e.id sections rises at))

-- an element that ends past what was declared for a section
pub one_long : (first : ℕ) (a : CreationAttributes) (t : ℤ) (elements : List IoElement) (e : IoElement) (sections : List Section) (i : ℕ) (s : Section) → elements ≡ e ∷ [] → Rises sections → place_present e.id t sections ≡ Some i → slice_get sections i ≡ Some s → a.max_section_size < element_end e → answer_with first (elements_written a t 0 elements (present t sections)) ≡ Err (record { error = InvalidParam; index = 0 })
one_long first a t elements e sections i s one rises at there long =
    stops first a t elements e _ InvalidParam one (measured-element_written-long a t 0 e _ (size_of s) (Rises-present t sections rises) (size_at-present t e.id sections i s rises at there) long)

-- an element that adds too many bytes
pub one_full : (first : ℕ) (a : CreationAttributes) (t : ℤ) (elements : List IoElement) (e : IoElement) (sections : List Section) (i : ℕ) (s : Section) (used : ℕ) → elements ≡ e ∷ [] → Rises sections → place_present e.id t sections ≡ Some i → slice_get sections i ≡ Some s → used ≡ memory_used (present t sections) → element_end e ≤ a.max_section_size → a.checkpoint_size < used + (element_end e - size_of s) → answer_with first (elements_written a t 0 elements (present t sections)) ≡ Err (record { error = NoSpace; index = 0 })
one_full first a t elements e sections i s used one rises at there sum short full =
    stops first a t elements e _ NoSpace one (measured-element_written-full a t 0 e _ (size_of s) used (Rises-present t sections rises) (size_at-present t e.id sections i s rises at there) sum short full)

-- for any other element its place is told
pub one_fine : (a : CreationAttributes) (t : ℤ) (elements : List IoElement) (e : IoElement) (sections : List Section) (i : ℕ) (s : Section) (used : ℕ) → elements ≡ e ∷ [] → Rises sections → place_present e.id t sections ≡ Some i → slice_get sections i ≡ Some s → used ≡ memory_used (present t sections) → element_end e ≤ a.max_section_size → used + (element_end e - size_of s) ≤ a.checkpoint_size → answer_with (first_place elements sections) (elements_written a t 0 elements (present t sections)) ≡ Ok i
one_fine a t elements e sections i s used one rises at there sum short fits =
    ap (λ es. answer_with (first_place es sections) (elements_written a t 0 es (present t sections))) one
    ∙ (answer_with-elements_written-Ok (first_place (e ∷ []) sections) a t 0 e [] _ _ (measured-element_written-fine a t 0 e _ (size_of s) used (Rises-present t sections rises) (size_at-present t e.id sections i s rises at there) sum short fits)).0
    ∙ ap (λ o. Ok (unwrap_or o 0)) (place_present-Some t e.id sections i at)
