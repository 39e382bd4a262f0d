-- What the place and the size of a section that is present are told by.
use Rattle.std.proofs.Common.{◌≡◌, ℕ, List, Some, None, option_map, is_some, slice_get, true, false, cond, if◌then◌else◌, ℤ, sym, ap, ◌∙◌, refl}
use Rattle.std.proofs.lemmas.Option.{none-some}
use Rattle.ckpt_types.specs.Sections.{Section, section_at, place_of, Rises, is_present, present, where_present, size_of}
use Rattle.ckpt_types.proofs.Presence.{section_at-present, section_at-place_of, section_at-no_place}
use Rattle.update_rules.specs.Present.{size_at, place_present}

-- what is found among those present is the section at its place, where that is present
found_at-place : (t : ℤ) (id : List ℕ) (sections : List Section) (i : ℕ) (s : Section) → Rises sections → place_of id sections ≡ Some i → slice_get sections i ≡ Some s → section_at id (present t sections) ≡ (if is_present t s then Some s else None)
found_at-place t id sections i s rises place there =
    section_at-present t id sections rises ∙ ap (where_present t) (section_at-place_of id sections i place ∙ there)

-- ---- the place

-- the place of a section is told where the section at it is present
pub place_present-place : (t : ℤ) (id : List ℕ) (sections : List Section) (i : ℕ) (s : Section) → Rises sections → place_of id sections ≡ Some i → slice_get sections i ≡ Some s → place_present id t sections ≡ (if is_present t s then Some i else None)
place_present-place t id sections i s rises place there =
    rw (found_at-place t id sections i s rises place there, place)
    (elim (is_present t s) as (λ b. cond (is_some (cond b (Some s) None)) (Some i) None ≡ cond b (Some i) None) [ true ↦ refl | false ↦ refl ])

-- a place that is told is that of the section
pub place_present-Some : (t : ℤ) (id : List ℕ) (sections : List Section) (i : ℕ) → place_present id t sections ≡ Some i → place_of id sections ≡ Some i
place_present-Some t id sections i is =
    elim (is_some (section_at id (present t sections))) as (λ b. cond b (place_of id sections) None ≡ Some i → place_of id sections ≡ Some i) [ true ↦ λ at. at | false ↦ λ none. absurd (none-some i none) ] is

-- ---- the size

-- what has no place among all is not present
size_at-no_place : (t : ℤ) (id : List ℕ) (sections : List Section) → Rises sections → place_of id sections ≡ None → size_at id (present t sections) ≡ None
size_at-no_place t id sections rises none =
    ap (option_map size_of) (section_at-present t id sections rises ∙ ap (where_present t) (section_at-no_place id sections none))

-- where no place is told there is no size
pub size_at-absent : (t : ℤ) (id : List ℕ) (sections : List Section) → Rises sections → place_present id t sections ≡ None → size_at id (present t sections) ≡ None
size_at-absent t id sections rises is =
    elim (section_at id (present t sections)) as (λ o. section_at id (present t sections) ≡ o → cond (is_some o) (place_of id sections) None ≡ None → option_map size_of o ≡ None) [
      | None ↦ λ found none. refl
      | Some s ↦ λ found none. sym (ap (option_map size_of) found) ∙ size_at-no_place t id sections rises none
    ] refl is

-- where a place is told the size is that of the section at it
pub size_at-present : (t : ℤ) (id : List ℕ) (sections : List Section) (i : ℕ) (s : Section) → Rises sections → place_present id t sections ≡ Some i → slice_get sections i ≡ Some s → size_at id (present t sections) ≡ Some (size_of s)
size_at-present t id sections i s rises is there =
    let place : place_of id sections ≡ Some i = place_present-Some t id sections i is in
    ap (option_map size_of) (found_at-place t id sections i s rises place there)
    ∙ elim (is_present t s) as (λ b. cond b (Some i) None ≡ Some i → option_map size_of (cond b (Some s) None) ≡ Some (size_of s)) [ true ↦ λ at. refl | false ↦ λ none. absurd (none-some i none) ] (sym (place_present-place t id sections i s rises place there) ∙ is)
