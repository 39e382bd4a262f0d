-- Which sections an update may leave corrupted: none but those that were, by their identifiers; a weak write that is cut short, those that it names too.
use Rattle.std.proofs.Common.{◌≡◌, ℕ, ◌+◌, List, [], ◌∷◌, take, Option, Some, None, Result, Ok, Err, true, false, cond, not, ◌==◌, All, ℤ, inl, inr, refl, sym, subst}
use Rattle.std.proofs.lemmas.List.Elements.{All-nil, All-cons, All-filter}
use Rattle.ckpt_types.specs.declared.attributes.CreationAttributes.{CreationAttributes}
use Rattle.ckpt_types.specs.declared.sections.SectionState.{SectionState}
use Rattle.ckpt_types.specs.declared.sections.SectionState.TheVariants.{Valid, Corrupted}
use Rattle.ckpt_types.specs.declared.update.IoElement.{IoElement}
use Rattle.ckpt_types.specs.declared.update.Update.{Update}
use Rattle.ckpt_types.specs.declared.update.Update.TheVariants as updates
use Rattle.ckpt_types.specs.Sections.{Section, section_at, is_named, is_present, present, opening, default_section}
use Rattle.ckpt_types.specs.Updates.{Refusal, new_id, written, element_written, elements_written, outcome}
use Rattle.ckpt_types.proofs.Accepted.{accepted_same, and_then-Ok, section_created-Ok, section_deleted-Ok, expiration_set-Ok, overwritten-Ok, element_written-Ok}
use Rattle.ckpt_types.proofs.Placing.{All-with_section}
use Rattle.ckpt_types.proofs.Presence.{All-section_at, section_at-named}
use Rattle.section_store.specs.StoreState.{corrupted_where, with_corrupted}
use Rattle.weak_marks.specs.Marks.{Marked, elements_in}
use Rattle.replica.specs.Replicas.{or_same, first_written, all_corrupted}
use Rattle.ckpt_machine.specs.BrokenCorrupt.{IsNamedBy, IsBrokenAt, IsNamedByBroken}
use Rattle.ckpt_machine.specs.Machine.{Effect, Applied, Broken}
use Rattle.ckpt_machine.specs.Replays.{each_done, effect_done, effects_done, replay, with_marked}

-- a section that is valid is not corrupted
valid_only : ◌≡◌ {A = SectionState} Valid Corrupted → ⊥
valid_only is = cc is

module _ (P : List ℕ → Type 0) where
  -- where the section is corrupted, this holds of its identifier
  abbrev IsSo : Section → Type 0
  IsSo s = s.state ≡ Corrupted → P s.id

  -- ---- updates

  -- what is present is among all
  present_so : (t : ℤ) (sections : List Section) → All IsSo sections → All IsSo (present t sections)
  present_so t sections all = All-filter (is_present t) IsSo sections all

  -- an element of a write leaves its section as it was, valid or corrupted
  element_so : (a : CreationAttributes) (t : ℤ) (place : ℕ) (e : IoElement) (sections after : List Section) → All IsSo sections → element_written a t place e sections ≡ Ok after → All IsSo after
  element_so a t place e sections after all is =
      let it = element_written-Ok a t place e sections after is in
      let was = it.was in
      subst (All IsSo) it.left (All-with_section IsSo (record was { bytes = written was.bytes e.offset e.bytes; last_update = t }) sections (All-section_at IsSo e.id sections was all it.there) all)

  -- so do all of them
  elements_so : (a : CreationAttributes) (t : ℤ) (place : ℕ) (elements : List IoElement) (sections after : List Section) → All IsSo sections → elements_written a t place elements sections ≡ Ok after → All IsSo after
  elements_so a t place [] sections after all is = subst (All IsSo) (accepted_same sections after is) all
  elements_so a t place (e ∷ elements) sections after all is =
      let (next, first, rest) = and_then-Ok (element_written a t place e sections) (elements_written a t (place + 1) elements) after is in
      elements_so a t (place + 1) elements next after (element_so a t place e sections next all first) rest

  -- an update leaves no other section corrupted: what it makes or overwrites is valid
  outcome_so : (a : CreationAttributes) (u : Update) (t : ℤ) (sections after : List Section) → All IsSo sections → outcome a u t sections ≡ Ok after → All IsSo after
  outcome_so a (updates.Write elements) t sections after all is = elements_so a t 0 elements (present t sections) after (present_so t sections all) is
  outcome_so a (updates.Overwrite id bytes) t sections after all is =
      let it = overwritten-Ok a id bytes t (present t sections) after is in
      let was = it.was in
      subst (All IsSo) it.left (All-with_section IsSo (record was { bytes = bytes; state = Valid; last_update = t }) (present t sections) (λ valid. absurd (valid_only valid)) (present_so t sections all))
  outcome_so a (updates.Create new expiration bytes) t sections after all is =
      let it = section_created-Ok a new expiration bytes t (present t sections) after is in
      subst (All IsSo) it.left (All-with_section IsSo (record { id = new_id new (present t sections); bytes = bytes; expiration = expiration; state = Valid; last_update = t }) (present t sections) (λ valid. absurd (valid_only valid)) (present_so t sections all))
  outcome_so a (updates.Delete id) t sections after all is =
      let it = section_deleted-Ok a id (present t sections) after is in
      subst (All IsSo) it.left (All-filter (λ s. not (is_named id s)) IsSo (present t sections) (present_so t sections all))
  outcome_so a (updates.SetExpiration id expiration) t sections after all is =
      let it = expiration_set-Ok a id expiration t (present t sections) after is in
      let was = it.was in
      subst (All IsSo) it.left (All-with_section IsSo (record was { expiration = expiration }) (present t sections) (All-section_at IsSo id (present t sections) was (present_so t sections all) it.there) (present_so t sections all))
  outcome_so a updates.Nothing t sections after all is = subst (All IsSo) (accepted_same (present t sections) after is) (present_so t sections all)

  -- nor does one that has no outcome
  or_same_so : (r : Result (List Section) Refusal) (sections : List Section) → ((after : List Section) → r ≡ Ok after → All IsSo after) → All IsSo sections → All IsSo (or_same r sections)
  or_same_so (Ok after) sections so all = so after refl
  or_same_so (Err why) sections so all = all

  updated_so : (a : CreationAttributes) (u : Update) (t : ℤ) (sections : List Section) → All IsSo sections → All IsSo (or_same (outcome a u t sections) sections)
  updated_so a u t sections all = or_same_so (outcome a u t sections) sections (λ after is. outcome_so a u t sections after all is) all

  -- nor do the first elements of a write, each done alone
  first_so : (a : CreationAttributes) (t : ℤ) (elements : List IoElement) (sections : List Section) → All IsSo sections → All IsSo (first_written a t elements sections)
  first_so a t [] sections all = all
  first_so a t (e ∷ elements) sections all = updated_so a (updates.Write (e ∷ [])) t sections all

  each_so : (a : CreationAttributes) (t : ℤ) (elements : List IoElement) (sections : List Section) → All IsSo sections → All IsSo (each_done a t elements sections)
  each_so a t [] sections all = all
  each_so a t (e ∷ elements) sections all = each_so a t elements (first_written a t (e ∷ elements) sections) (first_so a t (e ∷ elements) sections all)

  -- ---- a weak write that is cut short

  -- a section that is corrupted is this one, or was so
  corrupted_so : (id : List ℕ) (sections : List Section) → P id → All IsSo sections → All IsSo (with_corrupted id sections)
  corrupted_so id sections named all = by_found (section_at id sections) refl
    where
      by_found : (o : Option Section) → section_at id sections ≡ o → All IsSo (corrupted_where o sections)
      by_found None none = all
      by_found (Some s) found = All-with_section IsSo (record s { state = Corrupted }) sections (λ corrupted. subst P (let same : id ≡ s.id = sym (section_at-named id sections s found) in same) named) all

  -- of those that these elements name
  all_corrupted_so : (elements : List IoElement) (sections : List Section) → ((id : List ℕ) → IsNamedBy id elements → P id) → All IsSo sections → All IsSo (all_corrupted elements sections)
  all_corrupted_so [] sections named all = all
  all_corrupted_so (e ∷ elements) sections named all = all_corrupted_so elements (with_corrupted e.id sections) (λ id later. named id (inr later)) (corrupted_so e.id sections (named e.id (inl refl)) all)

  -- ---- effects

  -- one effect
  effect_so : (a : CreationAttributes) (effect : Effect) (sections : List Section) → ((id : List ℕ) → IsBrokenAt id effect → P id) → All IsSo sections → All IsSo (effect_done a effect sections)
  effect_so a (Applied call update t) sections named all = updated_so a update t sections all
  effect_so a (Broken call update t done) sections named all = all_corrupted_so (elements_in update) (each_done a t (take done (elements_in update)) sections) named (each_so a t (take done (elements_in update)) sections all)

  -- one after the other
  effects_so : (a : CreationAttributes) (effects : List Effect) (sections : List Section) → ((id : List ℕ) → IsNamedByBroken id effects → P id) → All IsSo sections → All IsSo (effects_done a effects sections)
  effects_so a [] sections named all = all
  effects_so a (effect ∷ effects) sections named all = effects_so a effects (effect_done a effect sections) (λ id later. named id (inr later)) (effect_so a effect sections (λ id here. named id (inl here)) all)

  -- nothing is corrupted when a checkpoint is made
  opening_so : (a : CreationAttributes) (made : ℤ) → All IsSo (opening a made)
  opening_so a made = elim (a.max_sections == 1) as (λ b. All IsSo (cond b (default_section made ∷ []) [])) [
    | true ↦ All-cons IsSo (default_section made) [] (λ valid. absurd (valid_only valid)) (All-nil IsSo)
    | false ↦ All-nil IsSo
  ]

  -- nor by the elements that are done of a weak write that is under way
  marked_so : (a : CreationAttributes) (marks : Option Marked) (sections : List Section) → All IsSo sections → All IsSo (with_marked a marks sections)
  marked_so a None sections all = all
  marked_so a (Some marks) sections all = each_so a marks.moment (take marks.done (elements_in marks.update)) sections all

-- what is corrupted in a replay is named by an effect
pub replay_corrupted : (a : CreationAttributes) (made : ℤ) (marks : Option Marked) (effects : List Effect) → All (λ s. s.state ≡ Corrupted → IsNamedByBroken s.id effects) (with_marked a marks (replay a made effects))
replay_corrupted a made marks effects =
    let P : List ℕ → Type 0 = λ id. IsNamedByBroken id effects in
    marked_so P a marks (replay a made effects) (effects_so P a effects (opening a made) (λ id named. named) (opening_so P a made))
