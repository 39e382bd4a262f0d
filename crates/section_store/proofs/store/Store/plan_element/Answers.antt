use Rattle.std.proofs.Common.{◌≡◌, ◌++◌, ◌∷◌, [], ◌+◌, ◌<◌, ◌≤◌, ℤ, List, ℕ, max, length, to_z, of_z, w64, sym, ap, subst, ◌∙◌, slice_get, arith}
use Rattle.std.proofs.lemmas.Bool.{ltb-false}
use Rattle.std.proofs.lemmas.Int.{to_z-of_z}
use Rattle.ckpt_types.specs.declared.update.IoElement.{IoElement}
use Rattle.ckpt_types.specs.Sections.{Section, present, size_of}
use Rattle.section_store.specs.KeptState.{KeptState, section_in}
use Rattle.section_store.specs.Places.{place_among_present}
use Rattle.section_store.specs.Planned.{size_found, size_planned, next_planned, KeepSizes}
use Rattle.section_store.specs.declared.plan.Planned.{Planned}
use Rattle.section_store.proofs.KeptLemmas.{section_in-slice_get}
use Rattle.section_store.proofs.PlanLemmas.{size_planned-next, KeepSizes-next}
use Rattle.section_store.proofs.store.Store.plan_element.Goals as goal

-- the size of a section that is kept is that of the one found at its place
size_kept : (kept : KeptState) (sections : List Section) (i : ℕ) → kept.sections ≡ sections → i < length sections → size_of (section_in kept i) ≡ size_found (slice_get sections i)
size_kept kept sections i shown there =
    ap size_found (sym (section_in-slice_get kept i (subst (λ xs. i < length xs) (sym shown) there))) ∙ ap (λ xs. size_found (slice_get xs i)) shown

-- the size before is known where all keep their sizes
before_known : (t : ℤ) (sections : List Section) (i : ℕ) (plan : List Planned) (entry : Planned) → entry ≡ record { place = place_among_present t i sections; size = size_found (slice_get sections i) }
    → slice_get (present t sections) (place_among_present t i sections) ≡ slice_get sections i → KeepSizes (present t sections) plan → size_planned entry.place entry.size plan ≡ entry.size
before_known t sections i plan entry is here kept = subst (λ p. size_planned p.place p.size plan ≡ p.size) (sym is) (size_planned-next t sections i plan here kept)

-- the plan with the next entry
pushed : (t : ℤ) (e : IoElement) (sections : List Section) (i : ℕ) (plan behind : List Planned) (entry : Planned) (before end size : ℕ) → entry ≡ record { place = place_among_present t i sections; size = size_found (slice_get sections i) }
    → before ≡ size_planned entry.place entry.size plan → end ≡ e.offset + length e.bytes → size ≡ max before end → behind ≡ plan ++ record { place = entry.place; size = size } ∷ [] → behind ≡ plan ++ next_planned t e i sections plan ∷ []
pushed t e sections i plan behind entry before end size is known at longer push =
    push ∙ (λ j. plan ++ record { place = (is j).place; size = (longer ∙ (λ k. max ((known ∙ (λ l. size_planned (is l).place (is l).size plan)) k) (at k))) j } ∷ [])

-- all keep their sizes behind it, where the element ends in its section
all_kept : (t : ℤ) (e : IoElement) (sections : List Section) (i : ℕ) (plan behind : List Planned) (entry : Planned) (before end : ℕ) → entry ≡ record { place = place_among_present t i sections; size = size_found (slice_get sections i) }
    → before ≡ size_planned entry.place entry.size plan → end ≡ e.offset + length e.bytes → behind ≡ plan ++ next_planned t e i sections plan ∷ [] → slice_get (present t sections) (place_among_present t i sections) ≡ slice_get sections i
    → KeepSizes (present t sections) plan → end ≤ before → KeepSizes (present t sections) behind
all_kept t e sections i plan behind entry before end is known at push here kept within =
    let size : before ≡ size_planned (place_among_present t i sections) (size_found (slice_get sections i)) plan = known ∙ (λ l. size_planned (is l).place (is l).size plan) in
    subst (KeepSizes (present t sections)) (sym push) (KeepSizes-next t e sections i plan here kept (omega (arith, size, at, within)))

pub size_before-before-requires : goal.size_before-before-requires
size_before-before-requires c = λ keep.
    let sections = c.args.self.now.sections in
    let moment : to_z w64 (of_z w64 c.args.now) ≡ c.args.now = to_z-of_z w64 c.args.now c.ranges.now in
    let size = c.size.ensures ∙ size_kept c.self.inside.kept sections c.args.place (ap (λ s. s.sections) c.self.view_is) c.requires.there in
    before_known c.args.now sections c.args.place c.args.plan.now c.planned-entry.result (c.planned-entry.ensures ∙ (λ i. record { place = place_among_present (moment i) c.args.place sections; size = size i })) c.requires.here (c.requires.before keep)

pub returns-then-grown-clause-plan : goal.returns-then-grown-clause-plan
returns-then-grown-clause-plan c =
    let sections = c.args.self.now.sections in
    let moment : to_z w64 (of_z w64 c.args.now) ≡ c.args.now = to_z-of_z w64 c.args.now c.ranges.now in
    let size = c.size.ensures ∙ size_kept c.self.inside.kept sections c.args.place (ap (λ s. s.sections) c.self.view_is) c.requires.there in
    let entry = c.planned-entry.ensures ∙ (λ i. record { place = place_among_present (moment i) c.args.place sections; size = size i }) in
    let end = ap (λ bytes. c.args.element.now.offset + length bytes) c.as_slice.ensures in
    pushed c.args.now c.args.element.now sections c.args.place c.args.plan.now c.push.new.self c.planned-entry.result c.size_before-before.result _ c.max-size.result entry c.size_before-before.ensures end c.max-size.ensures c.push.ensures

pub returns-else-grown-clause-plan : goal.returns-else-grown-clause-plan
returns-else-grown-clause-plan c =
    let sections = c.args.self.now.sections in
    let moment : to_z w64 (of_z w64 c.args.now) ≡ c.args.now = to_z-of_z w64 c.args.now c.ranges.now in
    let size = c.size.ensures ∙ size_kept c.self.inside.kept sections c.args.place (ap (λ s. s.sections) c.self.view_is) c.requires.there in
    let entry = c.planned-entry.ensures ∙ (λ i. record { place = place_among_present (moment i) c.args.place sections; size = size i }) in
    let end = ap (λ bytes. c.args.element.now.offset + length bytes) c.as_slice.ensures in
    pushed c.args.now c.args.element.now sections c.args.place c.args.plan.now c.push.new.self c.planned-entry.result c.size_before-before.result _ c.max-size.result entry c.size_before-before.ensures end c.max-size.ensures c.push.ensures

pub returns-else-grown-clause-behind : goal.returns-else-grown-clause-behind
returns-else-grown-clause-behind c = λ none.
    let sections = c.args.self.now.sections in
    let moment : to_z w64 (of_z w64 c.args.now) ≡ c.args.now = to_z-of_z w64 c.args.now c.ranges.now in
    let size = c.size.ensures ∙ size_kept c.self.inside.kept sections c.args.place (ap (λ s. s.sections) c.self.view_is) c.requires.there in
    let entry = c.planned-entry.ensures ∙ (λ i. record { place = place_among_present (moment i) c.args.place sections; size = size i }) in
    let end = ap (λ bytes. c.args.element.now.offset + length bytes) c.as_slice.ensures in
    all_kept c.args.now c.args.element.now sections c.args.place c.args.plan.now c.push.new.self c.planned-entry.result c.size_before-before.result _ entry c.size_before-before.ensures end (returns-else-grown-clause-plan c) c.requires.here (c.requires.before c.if-grown.false) (ltb-false c.size_before-before.result (c.args.element.now.offset + length c.as_slice.result.now) none)
