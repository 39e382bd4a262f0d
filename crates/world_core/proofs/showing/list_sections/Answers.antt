use Rattle.std.proofs.Common.{◌≡◌, ◌++◌, ap, sym, ◌∙◌, length, take, map, ◌∷◌, [], FitsSigned, to_z, of_z, w64, arith}
use Rattle.std.proofs.lemmas.Int.{to_z-of_z}
use Rattle.std.proofs.lemmas.List.{take_all}
use Rattle.ckpt_types.specs.Sections.{section_of, present}
use Rattle.ckpt_machine.specs.Listing.{section_listed}
use Rattle.ckpt_machine.proofs.NodeListings.{listed_more, length-listed-le}
use Rattle.world_core.proofs.showing.list_sections.Goals as goal

pub loop-place-preserved : goal.loop-place-preserved
loop-place-preserved c =
    let t = to_z w64 (of_z w64 c.args.now) in
    c.in_ok-add_section.ensures ∙ ap (λ listed. listed ++ map section_listed (present t (section_of c.at.result ∷ []))) c.loop-place.invariant
    ∙ sym (listed_more t c.args.store.now.sections c.loop-place.place (section_of c.at.result) c.at.ensures)

pub from_vec-requires : goal.from_vec-requires
from_vec-requires c =
    let few = length-listed-le (to_z w64 (of_z w64 c.args.now)) c.args.store.now.sections c.loop-place.place in
    let kept = ap length c.loop-place.invariant in
    omega (arith, few, kept, c.declared-declared.ensures)

pub returns : goal.returns
returns c =
    let fits : FitsSigned w64 c.args.now = c.ranges.now in
    let sections = c.args.store.now.sections in
    let listed : c.loop-place.sections.items ≡ map section_listed (present c.args.now (take c.loop-place.place sections)) = simp to_z-of_z at c.loop-place.invariant in
    c.from_vec.ensures ∙ listed ∙ ap (λ xs. map section_listed (present c.args.now xs)) (take_all c.loop-place.place sections (omega arith))
