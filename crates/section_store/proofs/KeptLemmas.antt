-- The sections that are kept: where they stand, and whether their identifiers are taken.
use Rattle.std.proofs.Common.{◌≡◌, ℕ, ◌<◌, List, length, Some, None, true, false, cond, is_some, ℤ, slice_get, get_or, ap, ◌∙◌, sym, refl}
use Rattle.std.specs.Prelude.{IfSome}
use Rattle.std.proofs.lemmas.List.{get_or_default}
use Rattle.std.proofs.lemmas.Option.{slice_get_read}
use Rattle.ckpt_types.specs.Sections.{Section, Rises, is_named, is_present, is_taken, place_of, present, section_at, where_present}
use Rattle.ckpt_types.proofs.Presence.{is_named_decides, place_of-lt, place_of-slice_get, section_at-place_of, section_at-present, section_at-no_place}
use Rattle.section_store.specs.KeptState.{KeptState, no_section, section_in}

-- the section at a place is the one that is read there
pub section_in-read : (kept : KeptState) (i : ℕ) → i < length kept.sections → section_in kept i ≡ get_or kept.sections i (section_in kept i)
section_in-read kept i there = get_or_default kept.sections i no_section (section_in kept i) there

pub section_in-slice_get : (kept : KeptState) (i : ℕ) → i < length kept.sections → slice_get kept.sections i ≡ Some (section_in kept i)
section_in-slice_get kept i there = slice_get_read kept.sections (length kept.sections) i (section_in kept i) refl there (section_in-read kept i there)

-- the section of an identifier has its place where it stands
pub place_of-kept : (id : List ℕ) (kept : KeptState) (i : ℕ) → Rises kept.sections → i < length kept.sections → is_named id (section_in kept i) ≡ true → place_of id kept.sections ≡ Some i
place_of-kept id kept i rises there named =
    ap (λ x. place_of x kept.sections) (sym ((is_named_decides id (section_in kept i)).0 named)) ∙ place_of-slice_get kept.sections i (section_in kept i) rises (section_in-slice_get kept i there)

-- a place is one of those that are there
pub place_of-within : (id : List ℕ) (sections : List Section) → IfSome (place_of id sections) (λ i. i < length sections)
place_of-within id sections =
    elim (place_of id sections) as (λ o. place_of id sections ≡ o → IfSome o (λ i. i < length sections)) [
      | None ↦ λ nowhere. tt
      | Some i ↦ λ at. place_of-lt id sections i at
    ] refl

-- a section is found where it is kept
pub section_at-kept : (id : List ℕ) (kept : KeptState) (i : ℕ) → place_of id kept.sections ≡ Some i → i < length kept.sections → section_at id kept.sections ≡ Some (section_in kept i)
section_at-kept id kept i place there = section_at-place_of id kept.sections i place ∙ section_in-slice_get kept i there

-- one section, where it is present, is found just while it is present
is_some-where_present : (t : ℤ) (s : Section) → is_some (where_present t (Some s)) ≡ is_present t s
is_some-where_present t s = elim (is_present t s) as (λ b. is_some (cond b (Some s) None) ≡ b) [ true ↦ refl | false ↦ refl ]

-- an identifier is taken just while the section that is kept under it is present
pub is_taken-kept : (t : ℤ) (id : List ℕ) (kept : KeptState) (i : ℕ) → Rises kept.sections → place_of id kept.sections ≡ Some i → i < length kept.sections → is_taken id (present t kept.sections) ≡ is_present t (section_in kept i)
is_taken-kept t id kept i rises place there =
    ap is_some (section_at-present t id kept.sections rises ∙ ap (where_present t) (section_at-kept id kept i place there)) ∙ is_some-where_present t (section_in kept i)

-- an identifier that has no place is not taken
pub is_taken-no_place : (t : ℤ) (id : List ℕ) (sections : List Section) → Rises sections → place_of id sections ≡ None → is_taken id (present t sections) ≡ false
is_taken-no_place t id sections rises nowhere = ap is_some (section_at-present t id sections rises ∙ ap (where_present t) (section_at-no_place id sections nowhere))
