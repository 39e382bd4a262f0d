use Rattle.std.proofs.Common.{◌≡◌, suc, ◌∷◌, drop, ap, ◌∙◌, sym, subst, to_z, of_z, w64, drop-cons}
use Rattle.std.specs.Prelude.{IsOk}
use Rattle.std.proofs.lemmas.Int.{to_z-of_z}
use Rattle.ckpt_types.specs.Updates.{element_written, elements_written}
use Rattle.section_store.proofs.Placed.{element_written-IsOk}
use Rattle.section_store.proofs.store.Store.write.Goals as goal

pub write_element-requires : goal.write_element-requires
write_element-requires c =
    let a = c.args.self.now.attributes in
    let t = to_z w64 (of_z w64 c.args.now) in
    let elements = c.args.elements.now in
    let i = c.loop-element.element-index in
    let e = c.element-item.result in
    let sections = c.loop-element.self.sections in
    let whole : IsOk (elements_written a t 0 elements c.args.self.now.sections) = subst (λ m. IsOk (elements_written a m 0 elements c.args.self.now.sections)) (sym (to_z-of_z w64 c.args.now c.ranges.now)) c.requires in
    let rest : IsOk (elements_written a t i (drop i elements) sections) = subst IsOk (sym c.loop-element.invariant.going) whole in
    let first : drop i elements ≡ e ∷ drop (suc i) elements = drop-cons elements i e c.loop-element-test.true ∙ ap (λ x. x ∷ drop (suc i) elements) (sym c.element-item.is) in
    subst (λ b. IsOk (element_written b t 0 e sections)) (sym c.loop-element.invariant.attributes)
    (element_written-IsOk a t i e (drop (suc i) elements) sections (subst (λ xs. IsOk (elements_written a t i xs sections)) first rest))
