use Rattle.std.proofs.Common.{◌≡◌, ap, to_z, of_z, w64, ◌∙◌, sym}
use Rattle.std.proofs.lemmas.Int.{to_z-of_z}
use Rattle.ckpt_types.specs.Sections.{is_present}
use Rattle.ckpt_types.specs.Updates.{numbered_id}
use Rattle.section_store.specs.KeptState.{section_in}
use Rattle.section_store.proofs.KeptLemmas.{is_taken-kept, is_taken-no_place}
use Rattle.section_store.proofs.identifiers.place_taken.Goals as goal

pub returns-in-Some-clause-taken : goal.returns-in-Some-clause-taken
returns-in-Some-clause-taken c =
    let kept = section_in c.args.kept.now c.in-Some.place in
    let moment : to_z w64 (of_z w64 c.args.now) ≡ c.args.now = to_z-of_z w64 c.args.now c.ranges.now in
    let shown : c.is_present.result ≡ is_present c.args.now kept = c.is_present.ensures ∙ ap (λ t. is_present t kept) moment in
    sym c.if-is_present.true ∙ shown ∙ sym (is_taken-kept c.args.now (numbered_id c.args.number) c.args.kept.now c.in-Some.place c.requires (sym c.find_number.ensures.place ∙ c.in-Some.is) c.in-Some.ensures.within)

pub returns-in_default-clause-taken : goal.returns-in_default-clause-taken
returns-in_default-clause-taken c =
    let kept = section_in c.args.kept.now c.in-Some.place in
    let moment : to_z w64 (of_z w64 c.args.now) ≡ c.args.now = to_z-of_z w64 c.args.now c.ranges.now in
    let shown : c.is_present.result ≡ is_present c.args.now kept = c.is_present.ensures ∙ ap (λ t. is_present t kept) moment in
    sym c.if-is_present.false ∙ shown ∙ sym (is_taken-kept c.args.now (numbered_id c.args.number) c.args.kept.now c.in-Some.place c.requires (sym c.find_number.ensures.place ∙ c.in-Some.is) c.in-Some.ensures.within)

pub returns-in_default-2-clause-taken : goal.returns-in_default-2-clause-taken
returns-in_default-2-clause-taken c = sym (is_taken-no_place c.args.now (numbered_id c.args.number) c.args.kept.now.sections c.requires (sym c.find_number.ensures.place ∙ c.in_default.is))
