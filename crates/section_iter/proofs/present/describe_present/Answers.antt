use Rattle.std.proofs.Common.{◌≡◌, Some, true, false, sym, ap, ◌∙◌, FitsSigned, w64}
use Rattle.std.specs.Option.{option_map}
use Rattle.std.proofs.lemmas.Int.{to_z-of_z}
use Rattle.ckpt_types.specs.Reads.{description}
use Rattle.ckpt_types.specs.Sections.{section_of, is_present}
use Rattle.ckpt_types.proofs.Presence.{place_of-lt}
use Rattle.section_iter.proofs.GivenLemmas.{section_at-present_no_place, section_at-present_here, section_at-present_gone}
use Rattle.section_iter.proofs.present.describe_present.Goals as goal

pub returns-in_err-place : goal.returns-in_err-place
returns-in_err-place g c =
    c.from_residual.ensures
    ∙ sym (ap (option_map description) (section_at-present_no_place c.args.now c.args.id.now _ c.len-count.ensures.in_order (sym c.in_err-place.ensures.place)))

pub at-section-requires : goal.at-section-requires
at-section-requires g c = place_of-lt c.args.id.now _ c.in_ok-place.place (sym c.in_ok-place.ensures.place)

pub returns-then-is_present : goal.returns-then-is_present
returns-then-is_present g c =
    let fits : FitsSigned w64 c.args.now = c.ranges.now in
    let section = section_of c.at-section.result in
    let here : true ≡ is_present c.args.now section = simp to_z-of_z at c.if-is_present.ensures in
    ap Some c.describe.ensures
    ∙ sym (ap (option_map description) (section_at-present_here c.args.now c.args.id.now _ c.in_ok-place.place section c.len-count.ensures.in_order (sym c.in_ok-place.ensures.place) c.at-section.ensures (sym here)))

pub returns-else-is_present : goal.returns-else-is_present
returns-else-is_present g c =
    let fits : FitsSigned w64 c.args.now = c.ranges.now in
    let section = section_of c.at-section.result in
    let gone : false ≡ is_present c.args.now section = simp to_z-of_z at c.if-is_present.ensures in
    sym (ap (option_map description) (section_at-present_gone c.args.now c.args.id.now _ c.in_ok-place.place section c.len-count.ensures.in_order (sym c.in_ok-place.ensures.place) c.at-section.ensures (sym gone)))
