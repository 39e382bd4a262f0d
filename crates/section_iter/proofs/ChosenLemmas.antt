-- Which identifiers are chosen among the first sections, with one section more.
use Rattle.std.proofs.Common.{◌≡◌, ℕ, ◌+◌, ◌≤◌, List, [], ◌∷◌, ◌++◌, length, take, map, filter, Some, slice_get, true, false, cond, ◌&&◌, ℤ, ap, ◌∙◌, refl, arith}
use Rattle.std.proofs.lemmas.List.{append-nil, length-map, length-take, map-append, take_more}
use Rattle.std.proofs.lemmas.List.Elements.{filter-append}
use Rattle.std.proofs.lemmas.Option.{slice_get_within, get_or_from_slice_get}
use Rattle.ckpt_types.specs.declared.sections.Choice.{Choice}
use Rattle.ckpt_types.specs.Reads.{chooses, chosen}
use Rattle.ckpt_types.specs.Sections.{Section, is_present, present}
use Rattle.ckpt_types.proofs.Presence.{length-present-le}
use Rattle.ckpt_types.proofs.Lists.{length-filter_le}

-- what is chosen among sections and one more
chosen_push : (choice : Choice) (t : ℤ) (sections : List Section) (s : Section) → chosen choice t (sections ++ s ∷ []) ≡ chosen choice t sections ++ chosen choice t (s ∷ [])
chosen_push choice t sections s =
    ap (λ xs. map (λ x. x.id) (filter (chooses choice) xs)) (filter-append (is_present t) sections (s ∷ []))
    ∙ ap (map (λ x. x.id)) (filter-append (chooses choice) (present t sections) (present t (s ∷ [])))
    ∙ map-append (λ x. x.id) (filter (chooses choice) (present t sections)) (filter (chooses choice) (present t (s ∷ [])))

-- what is chosen of one section
chosen_one : (choice : Choice) (t : ℤ) (s : Section) → chosen choice t (s ∷ []) ≡ cond (is_present t s && chooses choice s) (s.id ∷ []) []
chosen_one choice t s =
    elim (is_present t s) as (λ b. map (λ x. x.id) (filter (chooses choice) (cond b (s ∷ []) [])) ≡ cond (b && chooses choice s) (s.id ∷ []) []) [
      | true ↦ elim (chooses choice s) as (λ b. map (λ x. x.id) (cond b (s ∷ []) []) ≡ cond b (s.id ∷ []) []) [ true ↦ refl | false ↦ refl ]
      | false ↦ refl
    ]

-- what is chosen among the first sections, with one more
chosen_more : (choice : Choice) (t : ℤ) (sections : List Section) (i : ℕ) (s : Section) → slice_get sections i ≡ Some s → chosen choice t (take (i + 1) sections) ≡ chosen choice t (take i sections) ++ cond (is_present t s && chooses choice s) (s.id ∷ []) []
chosen_more choice t sections i s there =
    ap (chosen choice t) (take_more sections i s (slice_get_within sections i s there) ∙ ap (λ x. take i sections ++ x ∷ []) (get_or_from_slice_get sections i s s there))
    ∙ chosen_push choice t (take i sections) s ∙ ap (λ ids. chosen choice t (take i sections) ++ ids) (chosen_one choice t s)

-- a section that is present and taken is the last of those chosen
pub chosen_taken : (choice : Choice) (t : ℤ) (sections : List Section) (i : ℕ) (s : Section) → slice_get sections i ≡ Some s → (is_present t s && chooses choice s) ≡ true → chosen choice t (take (i + 1) sections) ≡ chosen choice t (take i sections) ++ s.id ∷ []
chosen_taken choice t sections i s there taken = chosen_more choice t sections i s there ∙ rw taken refl

-- another section changes nothing
pub chosen_left : (choice : Choice) (t : ℤ) (sections : List Section) (i : ℕ) (s : Section) → slice_get sections i ≡ Some s → (is_present t s && chooses choice s) ≡ false → chosen choice t (take (i + 1) sections) ≡ chosen choice t (take i sections)
chosen_left choice t sections i s there left = chosen_more choice t sections i s there ∙ rw (left, append-nil) refl

-- no more are chosen than there are
pub length-chosen-le : (choice : Choice) (t : ℤ) (sections : List Section) → length (chosen choice t sections) ≤ length sections
length-chosen-le choice t sections =
    omega (arith, length-map (filter (chooses choice) (present t sections)) (λ x. x.id), length-filter_le (chooses choice) (present t sections), length-present-le t sections)

-- at most so many are chosen among the first sections
pub length-chosen-take-le : (choice : Choice) (t : ℤ) (sections : List Section) (i : ℕ) → length (chosen choice t (take i sections)) ≤ i
length-chosen-take-le choice t sections i = omega (arith, length-chosen-le choice t (take i sections), length-take i sections)
