-- Which section an iteration gives: by a place of the map, and by one identifier after another.
use Rattle.std.proofs.Common.{◌≡◌, ℕ, suc, ◌+◌, ◌≤◌, List, ◌∷◌, length, drop, Option, Some, None, Ok, option_map, slice_get, true, false, if◌then◌else◌, ℤ, sym, ap, ◌∙◌, refl, add-one}
use Rattle.std.proofs.Math.Seq.{drop-cons}
use Rattle.std.proofs.lemmas.List.{drop_all}
use Rattle.std.proofs.lemmas.Option.{none-some, same_Some, slice_get_within, get_or_from_slice_get}
use Rattle.ckpt_types.specs.declared.sections.SectionDescriptor.{SectionDescriptor}
use Rattle.ckpt_types.specs.Reads.{NextGiven, given, given_first, description}
use Rattle.ckpt_types.specs.Sections.{Section, section_at, place_of, Rises, is_present, present, where_present}
use Rattle.section_iter.specs.KeptIds.{KeptIds}
use Rattle.section_iter.specs.Next.{given_answer, kept_after}
use Rattle.ckpt_types.proofs.Presence.{section_at-present, section_at-place_of, section_at-no_place}

-- what has no place is not present
pub section_at-present_no_place : (t : ℤ) (id : List ℕ) (sections : List Section) → Rises sections → place_of id sections ≡ None → section_at id (present t sections) ≡ None
section_at-present_no_place t id sections rises none = section_at-present t id sections rises ∙ ap (where_present t) (section_at-no_place id sections none)

-- what has a place is looked up there
section_at-present_place : (t : ℤ) (id : List ℕ) (sections : List Section) (i : ℕ) (s : Section) → Rises sections → place_of id sections ≡ Some i → slice_get sections i ≡ Some s → section_at id (present t sections) ≡ (if is_present t s then Some s else None)
section_at-present_place t id sections i s rises place there = section_at-present t id sections rises ∙ ap (where_present t) (section_at-place_of id sections i place ∙ there)

-- what has a place is the section there, where that is present
pub section_at-present_here : (t : ℤ) (id : List ℕ) (sections : List Section) (i : ℕ) (s : Section) → Rises sections → place_of id sections ≡ Some i → slice_get sections i ≡ Some s → is_present t s ≡ true → section_at id (present t sections) ≡ Some s
section_at-present_here t id sections i s rises place there here = section_at-present_place t id sections i s rises place there ∙ rw here refl

-- it is not there where that section is not present
pub section_at-present_gone : (t : ℤ) (id : List ℕ) (sections : List Section) (i : ℕ) (s : Section) → Rises sections → place_of id sections ≡ Some i → slice_get sections i ≡ Some s → is_present t s ≡ false → section_at id (present t sections) ≡ None
section_at-present_gone t id sections i s rises place there gone = section_at-present_place t id sections i s rises place there ∙ rw gone refl

-- the identifiers from a place on
drop_given : (ids : List (List ℕ)) (i : ℕ) (id : List ℕ) → slice_get ids i ≡ Some id → drop i ids ≡ id ∷ drop (i + 1) ids
drop_given ids i id there =
    drop-cons ids i id (slice_get_within ids i id there)
    ∙ ap (λ x. x ∷ drop (suc i) ids) (get_or_from_slice_get ids i id id there) ∙ ap (λ n. id ∷ drop n ids) (sym (add-one i))

-- what is told is told of what was found
described : (found : Option Section) (told : SectionDescriptor) → Some told ≡ option_map description found → (s : Section) × (found ≡ Some s) × (told ≡ description s)
described None told is = absurd (none-some told (sym is))
described (Some s) told is = (s, refl, same_Some told (description s) is)

-- nothing is told where nothing was found
not_described : (found : Option Section) → None ≡ option_map description found → found ≡ None
not_described None is = refl
not_described (Some s) is = absurd (none-some (description s) is)

-- of identifiers that are kept, those from a place on are left
module _ (kept ids : List (List ℕ)) (i : ℕ) (id : List ℕ) (t : ℤ) (sections : List Section) (there : slice_get ids i ≡ Some id) (before : given kept t sections ≡ given (drop i ids) t sections) where
  -- the section is given whose identifier is the first of a present one
  pub given_here : (told : SectionDescriptor) → Some told ≡ option_map description (section_at id (present t sections)) → (next : NextGiven) × (given kept t sections ≡ Some next) × (told ≡ description next.section) × (drop (i + 1) ids ≡ next.rest)
  given_here told here =
      let (s, found, same) = described (section_at id (present t sections)) told here in (
        record { section = s; rest = drop (i + 1) ids },
        before ∙ ap (λ left. given left t sections) (drop_given ids i id there) ∙ ap (λ o. given_first (drop (i + 1) ids) o (given (drop (i + 1) ids) t sections)) found,
        same,
        refl,
      )

  -- an identifier whose section is not present is passed over
  pub given_later : None ≡ option_map description (section_at id (present t sections)) → given kept t sections ≡ given (drop (i + 1) ids) t sections
  given_later here =
      before ∙ ap (λ left. given left t sections) (drop_given ids i id there)
      ∙ ap (λ o. given_first (drop (i + 1) ids) o (given (drop (i + 1) ids) t sections)) (not_described (section_at id (present t sections)) here)

-- nothing is given where all were passed over
pub none_given : (kept ids : List (List ℕ)) (i : ℕ) (t : ℤ) (sections : List Section) → length ids ≤ i → given kept t sections ≡ given (drop i ids) t sections → given kept t sections ≡ None
none_given kept ids i t sections all before = before ∙ ap (λ left. given left t sections) (drop_all i ids all)

-- ---- the answer

-- a section told is the answer
pub answer_of-told : (next : Option NextGiven) (told : SectionDescriptor) → Some told ≡ option_map (λ n. description n.section) next → Ok told ≡ given_answer next
answer_of-told None told is = absurd (none-some told (sym is))
answer_of-told (Some n) told is = ap Ok (same_Some told (description n.section) is)

-- the identifiers behind the one that is given are kept
pub kept_after-rest : (kept : KeptIds) (next : Option NextGiven) (rest : List (List ℕ)) → Some rest ≡ option_map (λ n. n.rest) next → record kept { ids = rest } ≡ kept_after kept next
kept_after-rest kept None rest is = absurd (none-some rest (sym is))
kept_after-rest kept (Some n) rest is = ap (λ ids. record kept { ids = ids }) (same_Some rest n.rest is)
