use Rattle.std.proofs.Common.{[], ap, ◌∙◌, sym, refl, w64}
use Rattle.std.proofs.lemmas.Int.{to_z-of_z}
use Rattle.ckpt_types.specs.Updates.{and_then, element_written, elements_written}
use Rattle.section_store.proofs.PlannedUpdates.{WritesOn, WritesOn-first, WritesOn-item, one_of}
use Rattle.section_store.proofs.store.Store.write_planned.Goals as goal

pub write_at-requires-clause-place : goal.write_at-requires-clause-place
write_at-requires-clause-place c =
    let a = c.args.self.now.attributes in
    let sections = c.args.self.now.sections in
    let elements = c.args.elements.now in
    let plan = c.args.plan.now in
    let e = c.element-item.result in
    let all = elements_written a c.args.now 0 elements sections in
    let begins : WritesOn a c.args.now 0 elements sections plan all = record { rises = c.law.ensures.rises; fits = c.law.ensures.fits; going = refl; planned = c.requires.planned } in
    let goes = WritesOn-item a c.args.now 0 elements e sections plan all c.in-len1.len_at_least c.element-item.is begins in
    (WritesOn-first a c.args.now 0 e _ sections plan all c.requires.accepted goes).place c.at.result c.at.ensures

pub returns-in-len1-clause-sections : goal.returns-in-len1-clause-sections
returns-in-len1-clause-sections c =
    let a = c.args.self.now.attributes in
    let sections = c.args.self.now.sections in
    let e = c.element-item.result in
    let one = one_of c.args.elements.now e c.in-len1.len_at_least c.in-len1.len_below c.element-item.is in
    let done = ap (λ m. element_written a m 0 e sections) (sym (to_z-of_z w64 c.args.now c.ranges.now)) ∙ c.write_at.ensures.sections in
    ap (λ xs. elements_written a c.args.now 0 xs sections) one ∙ ap (λ r. and_then r (elements_written a c.args.now 1 [])) done
