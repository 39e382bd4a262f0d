use Rattle.std.proofs.Common.{◌≡◌, suc, ◌+◌, drop, ap, ◌∙◌, sym, subst, refl, to_z, of_z, w64, arith}
use Rattle.std.specs.Prelude.{IsOk, Ok}
use Rattle.std.proofs.lemmas.Int.{to_z-of_z}
use Rattle.ckpt_types.specs.Updates.{element_written, elements_written}
use Rattle.section_store.specs.Planned.{planned_elements}
use Rattle.section_store.proofs.PlannedUpdates.{WritesOn, WritesOn-first, WritesOn-next, WritesOn-item, WritesOn-end}
use Rattle.section_store.proofs.store.Store.write_several.Goals as goal

pub loop-index-init : goal.loop-index-init
loop-index-init c =
    let moment = to_z-of_z w64 c.args.now c.ranges.now in
    record {
      attributes = refl;
      goes = record {
        rises = c.law.ensures.rises;
        fits = c.law.ensures.fits;
        going = refl;
        planned = c.requires.planned ∙ ap (λ m. planned_elements c.args.self.now.attributes m c.args.elements.now c.args.self.now.sections) (sym moment);
      };
    }

pub at-requires : goal.at-requires
at-requires c =
    let a = c.args.self.now.attributes in
    let accepted = subst (λ m. IsOk (elements_written a m 0 c.args.elements.now c.args.self.now.sections)) (sym (to_z-of_z w64 c.args.now c.ranges.now)) c.requires.accepted in
    let goes = WritesOn-item a _ c.loop-index.index c.args.elements.now c.index-elements-index.result c.loop-index.self.sections c.args.plan.now _ c.loop-index-test.true c.index-elements-index.is c.loop-index.invariant.goes in
    (WritesOn-first a _ c.loop-index.index c.index-elements-index.result _ c.loop-index.self.sections c.args.plan.now _ accepted goes).there

pub write_at-requires-clause-place : goal.write_at-requires-clause-place
write_at-requires-clause-place c =
    let a = c.args.self.now.attributes in
    let accepted = subst (λ m. IsOk (elements_written a m 0 c.args.elements.now c.args.self.now.sections)) (sym (to_z-of_z w64 c.args.now c.ranges.now)) c.requires.accepted in
    let goes = WritesOn-item a _ c.loop-index.index c.args.elements.now c.index-elements-index.result c.loop-index.self.sections c.args.plan.now _ c.loop-index-test.true c.index-elements-index.is c.loop-index.invariant.goes in
    (WritesOn-first a _ c.loop-index.index c.index-elements-index.result _ c.loop-index.self.sections c.args.plan.now _ accepted goes).place c.at.result c.at.ensures

pub write_at-requires-clause-accepted : goal.write_at-requires-clause-accepted
write_at-requires-clause-accepted c =
    let a = c.args.self.now.attributes in
    let t = to_z w64 (of_z w64 c.args.now) in
    let e = c.index-elements-index.result in
    let accepted = subst (λ m. IsOk (elements_written a m 0 c.args.elements.now c.args.self.now.sections)) (sym (to_z-of_z w64 c.args.now c.ranges.now)) c.requires.accepted in
    let goes = WritesOn-item a t c.loop-index.index c.args.elements.now e c.loop-index.self.sections c.args.plan.now _ c.loop-index-test.true c.index-elements-index.is c.loop-index.invariant.goes in
    subst (λ b. IsOk (element_written b t 0 e c.loop-index.self.sections)) (sym c.loop-index.invariant.attributes) (WritesOn-first a t c.loop-index.index e _ c.loop-index.self.sections c.args.plan.now _ accepted goes).accepted

pub loop-index-preserved : goal.loop-index-preserved
loop-index-preserved c =
    let a = c.args.self.now.attributes in
    let t = to_z w64 (of_z w64 c.args.now) in
    let i = c.loop-index.index in
    let e = c.index-elements-index.result in
    let elements = c.args.elements.now in
    let plan = c.args.plan.now in
    let all = elements_written a t 0 elements c.args.self.now.sections in
    let after = c.write_at.new.self.sections in
    let accepted : IsOk all = subst (λ m. IsOk (elements_written a m 0 elements c.args.self.now.sections)) (sym (to_z-of_z w64 c.args.now c.ranges.now)) c.requires.accepted in
    let goes = WritesOn-item a t i elements e c.loop-index.self.sections plan all c.loop-index-test.true c.index-elements-index.is c.loop-index.invariant.goes in
    let done : element_written a t 0 e c.loop-index.self.sections ≡ Ok after = ap (λ b. element_written b t 0 e c.loop-index.self.sections) (sym c.loop-index.invariant.attributes) ∙ c.write_at.ensures.sections in
    let next = WritesOn-next a t i e (drop (suc i) elements) c.loop-index.self.sections after plan all accepted goes done in
    let behind : suc i ≡ i + 1 = omega arith in
    record {
      attributes = c.write_at.ensures.attributes ∙ c.loop-index.invariant.attributes;
      goes = subst (λ n. WritesOn a t n (drop n elements) after plan all) behind next;
    }

pub returns-clause-sections : goal.returns-clause-sections
returns-clause-sections c =
    let a = c.args.self.now.attributes in
    let elements = c.args.elements.now in
    ap (λ m. elements_written a m 0 elements c.args.self.now.sections) (sym (to_z-of_z w64 c.args.now c.ranges.now))
    ∙ WritesOn-end a _ c.loop-index.index elements c.loop-index.self.sections c.args.plan.now _ c.loop-index-test.false c.loop-index.invariant.goes
