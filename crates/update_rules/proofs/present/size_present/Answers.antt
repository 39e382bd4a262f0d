use Rattle.std.proofs.Common.{◌≡◌, Some, None, sym, ◌∙◌, FitsSigned, w64}
use Rattle.std.proofs.lemmas.Int.{to_z-of_z}
use Rattle.ckpt_types.specs.Sections.{section_of}
use Rattle.update_rules.specs.Present.{place_present}
use Rattle.update_rules.proofs.PresentLemmas.{size_at-absent, size_at-present}
use Rattle.update_rules.proofs.present.size_present.Goals as goal

pub returns-in_err-place : goal.returns-in_err-place
returns-in_err-place g c =
    let fits : FitsSigned w64 c.args.now = c.ranges.now in
    let none : None ≡ place_present c.args.id.now c.args.now (g.S.Sections.sections c.args.sections.now) = simp to_z-of_z at c.in_err-place.ensures.found in
    c.from_residual.ensures ∙ sym (size_at-absent c.args.now c.args.id.now _ c.requires.in_order (sym none))

pub returns : goal.returns
returns g c =
    let fits : FitsSigned w64 c.args.now = c.ranges.now in
    let found : Some c.in_ok-place.place ≡ place_present c.args.id.now c.args.now (g.S.Sections.sections c.args.sections.now) = simp to_z-of_z at c.in_ok-place.ensures.found in
    sym (size_at-present c.args.now c.args.id.now _ c.in_ok-place.place (section_of c.at.result) c.requires.in_order (sym found) c.at.ensures)
