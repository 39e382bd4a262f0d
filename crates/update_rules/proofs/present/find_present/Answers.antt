use Rattle.std.proofs.Common.{◌≡◌, sym, ◌∙◌, FitsSigned, w64, true, false, refl}
use Rattle.std.proofs.lemmas.Int.{to_z-of_z}
use Rattle.ckpt_types.specs.Sections.{section_of, is_present}
use Rattle.ckpt_types.proofs.Presence.{place_of-lt}
use Rattle.update_rules.proofs.PresentLemmas.{place_present-place}
use Rattle.update_rules.proofs.present.find_present.Goals as goal

pub at-requires : goal.at-requires
at-requires g c = place_of-lt c.args.id.now _ c.in_ok-place.place (sym c.in_ok-place.ensures.place)

pub returns-then-is_present-clause-found : goal.returns-then-is_present-clause-found
returns-then-is_present-clause-found g c =
    let fits : FitsSigned w64 c.args.now = c.ranges.now in
    let here : true ≡ is_present c.args.now (section_of c.at.result) = simp to_z-of_z at c.if-is_present.ensures in
    sym (place_present-place c.args.now c.args.id.now _ c.in_ok-place.place (section_of c.at.result) c.requires.in_order (sym c.in_ok-place.ensures.place) c.at.ensures ∙ rw (← here) refl)

pub returns-then-is_present-clause-within : goal.returns-then-is_present-clause-within
returns-then-is_present-clause-within g c = place_of-lt c.args.id.now _ c.in_ok-place.place (sym c.in_ok-place.ensures.place)

pub returns-else-is_present-clause-found : goal.returns-else-is_present-clause-found
returns-else-is_present-clause-found g c =
    let fits : FitsSigned w64 c.args.now = c.ranges.now in
    let gone : false ≡ is_present c.args.now (section_of c.at.result) = simp to_z-of_z at c.if-is_present.ensures in
    sym (place_present-place c.args.now c.args.id.now _ c.in_ok-place.place (section_of c.at.result) c.requires.in_order (sym c.in_ok-place.ensures.place) c.at.ensures ∙ rw (← gone) refl)
