use Rattle.std.proofs.Common.{◌≡◌, ◌+◌, suc, [], ◌∷◌, length, drop, Some, is_some, true, ◌∙◌, ap, sym, subst, to_z, of_z, w64, drop-cons, length-append, arith}
use Rattle.std.specs.Prelude.{IsOk}
use Rattle.std.proofs.lemmas.Int.{to_z-of_z}
use Rattle.std.proofs.lemmas.List.{drop_all}
use Rattle.ckpt_types.specs.Sections.{present, place_of}
use Rattle.ckpt_types.specs.Updates.{elements_written}
use Rattle.ckpt_types.proofs.Presence.{Rises-present, place_of-lt}
use Rattle.ckpt_types.proofs.Fitting.{Fits-present}
use Rattle.section_store.specs.Planned.{planned_elements, KeepSizes}
use Rattle.section_store.proofs.PlanLemmas.{GoesOn, GoesOn-start, GoesOn-there, GoesOn-small, GoesOn-here, GoesOn-next, GoesOn-end, KeepSizes-none, sections-few, section_size-small}
use Rattle.section_store.proofs.store.Store.plan_several.Goals as goal

-- the elements that are left, of which the next is the first
pub left : (c : goal.After-as_slice) → drop c.loop-element.element-index c.args.elements.now ≡ c.element-item.result ∷ drop (suc c.loop-element.element-index) c.args.elements.now
left c =
    let elements = c.args.elements.now in
    let i = c.loop-element.element-index in
    let e = c.element-item.result in
    drop-cons elements i e c.loop-element-test.true ∙ ap (λ x. x ∷ drop (suc i) elements) (sym c.element-item.is)

-- what is planned goes on with it
pub goes : (c : goal.After-as_slice) → GoesOn c.args.self.now.attributes (to_z w64 (of_z w64 c.args.now)) (c.element-item.result ∷ drop (suc c.loop-element.element-index) c.args.elements.now) (present (to_z w64 (of_z w64 c.args.now)) c.args.self.now.sections) c.loop-element.plan
    (planned_elements c.args.self.now.attributes (to_z w64 (of_z w64 c.args.now)) c.args.elements.now (present (to_z w64 (of_z w64 c.args.now)) c.args.self.now.sections))
goes c =
    let a = c.args.self.now.attributes in
    let t = to_z w64 (of_z w64 c.args.now) in
    let start = present t c.args.self.now.sections in
    subst (λ xs. GoesOn a t xs start c.loop-element.plan (planned_elements a t c.args.elements.now start)) (left c) c.loop-element.invariant.goes

pub loop-element-init : goal.loop-element-init
loop-element-init c =
    let a = c.args.self.now.attributes in
    let t = to_z w64 (of_z w64 c.args.now) in
    let start = present t c.args.self.now.sections in
    let elements = c.args.elements.now in
    let accepted : IsOk (elements_written a t 0 elements start) = rw (to_z-of_z w64 c.args.now c.ranges.now) c.requires.accepted in
    let begins = GoesOn-start a t elements start (Rises-present t c.args.self.now.sections c.law.ensures.rises) (Fits-present a t c.args.self.now.sections c.law.ensures.fits) accepted in
    record {
      goes = subst (λ plan. GoesOn a t elements start plan (planned_elements a t elements start)) (sym c.requires.empty) begins;
      as_many = ap length c.requires.empty;
      sizes = λ none. subst (KeepSizes start) (sym c.requires.empty) (KeepSizes-none start);
    }

pub place_near-place-requires : goal.place_near-place-requires
place_near-place-requires c =
    let there = GoesOn-there _ _ c.element-item.result _ c.args.self.now.sections _ _ c.law.ensures.rises (goes c) in
    subst (λ id. is_some (place_of id c.args.self.now.sections) ≡ true) (sym c.as_slice.ensures) there

pub plan_element-grown-requires-clause-there : goal.plan_element-grown-requires-clause-there
plan_element-grown-requires-clause-there c = place_of-lt c.as_slice.result.now c.args.self.now.sections c.place_near-place.result c.place_near-place.ensures

pub plan_element-grown-requires-clause-here : goal.plan_element-grown-requires-clause-here
plan_element-grown-requires-clause-here c =
    let sections = c.args.self.now.sections in
    let place : place_of c.element-item.result.id sections ≡ Some c.place_near-place.result = subst (λ id. place_of id sections ≡ Some c.place_near-place.result) c.as_slice.ensures c.place_near-place.ensures in
    GoesOn-here _ _ c.element-item.result _ sections _ _ c.place_near-place.result c.law.ensures.rises place (goes c.before.before)

pub plan_element-grown-requires-clause-before : goal.plan_element-grown-requires-clause-before
plan_element-grown-requires-clause-before c = c.loop-element.invariant.sizes

pub overflow_add-near : goal.overflow_add-near
overflow_add-near c =
    let sections = c.args.self.now.sections in
    omega (arith, place_of-lt c.as_slice.result.now sections c.place_near-place.result c.place_near-place.ensures, sections-few c.args.self.now.attributes sections c.law.ensures.checked c.law.ensures.fits)

pub plan_element-grown-requires-clause-end : goal.plan_element-grown-requires-clause-end
plan_element-grown-requires-clause-end c =
    let small = GoesOn-small _ _ c.element-item.result _ _ _ _ (goes c.before.before) in
    omega (arith, small, section_size-small c.args.self.now.attributes c.law.ensures.checked)

pub plan_element-grown-requires-clause-room : goal.plan_element-grown-requires-clause-room
plan_element-grown-requires-clause-room c = omega (arith, c.loop-element.invariant.as_many, c.loop-element-test.true, c.requires.short)

pub loop-element-preserved : goal.loop-element-preserved
loop-element-preserved c =
    let a = c.args.self.now.attributes in
    let t = to_z w64 (of_z w64 c.args.now) in
    let sections = c.args.self.now.sections in
    let elements = c.args.elements.now in
    let e = c.element-item.result in
    let i = c.loop-element.element-index in
    let place : place_of e.id sections ≡ Some c.place_near-place.result = subst (λ id. place_of id sections ≡ Some c.place_near-place.result) c.as_slice.ensures c.place_near-place.ensures in
    let next = GoesOn-next a t e (drop (suc i) elements) sections c.loop-element.plan (planned_elements a t elements (present t sections)) c.place_near-place.result c.law.ensures.rises place (goes c.before.before.before) in
    let behind : suc i ≡ i + 1 = omega arith in
    record {
      goes = subst (λ n. GoesOn a t (drop n elements) (present t sections) c.plan_element-grown.new.plan (planned_elements a t elements (present t sections))) behind
          (subst (λ plan. GoesOn a t (drop (suc i) elements) (present t sections) plan (planned_elements a t elements (present t sections))) (sym c.plan_element-grown.ensures.plan) next);
      as_many = ap length c.plan_element-grown.ensures.plan ∙ omega (arith, c.loop-element.invariant.as_many, length-append c.loop-element.plan);
      sizes = c.plan_element-grown.ensures.behind;
    }

pub returns : goal.returns
returns c =
    let a = c.args.self.now.attributes in
    let t = to_z w64 (of_z w64 c.args.now) in
    let elements = c.args.elements.now in
    let start = present t c.args.self.now.sections in
    let none : drop c.loop-element.element-index elements ≡ [] = drop_all c.loop-element.element-index elements c.loop-element-test.false in
    let is = GoesOn-end a t start c.loop-element.plan (planned_elements a t elements start) (subst (λ xs. GoesOn a t xs start c.loop-element.plan (planned_elements a t elements start)) none c.loop-element.invariant.goes) in
    is ∙ ap (λ m. planned_elements a m elements (present m c.args.self.now.sections)) (to_z-of_z w64 c.args.now c.ranges.now)
