use Rattle.std.proofs.Common.{◌≡◌, ◌∷◌, [], ◌++◌, ◌∙◌, sym, subst, slice_get, w64, arith}
use Rattle.std.proofs.lemmas.Int.{to_z-of_z}
use Rattle.ckpt_types.proofs.Presence.{place_of-lt}
use Rattle.ckpt_types.specs.Sections.{present}
use Rattle.section_store.specs.Places.{place_among_present}
use Rattle.section_store.specs.Planned.{next_planned, KeepSizes}
use Rattle.section_store.proofs.PlanLemmas.{KeepSizes-none, section_size-small}
use Rattle.section_store.proofs.PlannedUpdates.{PlansOne-elements}
use Rattle.section_store.proofs.store.Store.plan_write.Goals as goal

pub plan_element-requires-clause-there : goal.plan_element-requires-clause-there
plan_element-requires-clause-there c =
    let e = c.element-item.result in
    let one = PlansOne-elements c.args.self.now.attributes c.args.now e c.args.elements.now c.args.self.now.sections c.args.first c.in-len1.len_at_least c.in-len1.len_below c.element-item.is c.law.ensures.rises c.law.ensures.fits c.requires.first c.requires.accepted in
    place_of-lt e.id c.args.self.now.sections c.args.first one.place

pub plan_element-requires-clause-end : goal.plan_element-requires-clause-end
plan_element-requires-clause-end c =
    let e = c.element-item.result in
    let one = PlansOne-elements c.args.self.now.attributes c.args.now e c.args.elements.now c.args.self.now.sections c.args.first c.in-len1.len_at_least c.in-len1.len_below c.element-item.is c.law.ensures.rises c.law.ensures.fits c.requires.first c.requires.accepted in
    omega (arith, one.small, section_size-small c.args.self.now.attributes c.law.ensures.checked)

pub plan_element-requires-clause-here : goal.plan_element-requires-clause-here
plan_element-requires-clause-here c =
    let moment = to_z-of_z w64 c.args.now c.ranges.now in
    let sections = c.args.self.now.sections in
    let one = PlansOne-elements c.args.self.now.attributes c.args.now c.element-item.result c.args.elements.now sections c.args.first c.in-len1.len_at_least c.in-len1.len_below c.element-item.is c.law.ensures.rises c.law.ensures.fits c.requires.first c.requires.accepted in
    subst (λ t. slice_get (present t sections) (place_among_present t c.args.first sections) ≡ slice_get sections c.args.first) (sym moment) one.here

pub plan_element-requires-clause-before : goal.plan_element-requires-clause-before
plan_element-requires-clause-before c = λ none. subst (KeepSizes _) (sym c.clear.ensures) (KeepSizes-none _)

pub returns-in-len1 : goal.returns-in-len1
returns-in-len1 c =
    let e = c.element-item.result in
    let sections = c.args.self.now.sections in
    let moment = to_z-of_z w64 c.args.now c.ranges.now in
    let one = PlansOne-elements c.args.self.now.attributes c.args.now e c.args.elements.now sections c.args.first c.in-len1.len_at_least c.in-len1.len_below c.element-item.is c.law.ensures.rises c.law.ensures.fits c.requires.first c.requires.accepted in
    c.plan_element.ensures.plan ∙ (λ i. c.clear.ensures i ++ next_planned (moment i) e c.args.first sections (c.clear.ensures i) ∷ []) ∙ one.plan
