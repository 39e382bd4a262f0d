use Rattle.std.proofs.Common.{◌≡◌, ◌≤◌, Some, None, length, drop, sym, ap, ◌∙◌, FitsSigned, w64, to_z, of_z, arith}
use Rattle.std.specs.Option.{option_map}
use Rattle.std.proofs.lemmas.Int.{to_z-of_z}
use Rattle.ckpt_types.proofs.EndsLemmas.{length-pieces_between}
use Rattle.ckpt_types.specs.Reads.{given, description, NextGiven}
use Rattle.ckpt_types.specs.Sections.{section_at, present}
use Rattle.section_iter.specs.Ids.{ids_in}
use Rattle.section_iter.proofs.GivenLemmas.{given_here, given_later, none_given}
use Rattle.section_iter.proofs.present.find_first.Goals as goal

pub returns-in-Some-clause-section : goal.returns-in-Some-clause-section
returns-in-Some-clause-section g c =
    let fits : FitsSigned w64 c.args.now = c.ranges.now in
    let sections = g.S.Sections.sections c.args.sections.now in
    let ids = ids_in c.args.ends.now c.args.bytes.now in
    let place = c.loop-place.place in
    let before : given (drop c.args.from ids) c.args.now sections ≡ given (drop place ids) c.args.now sections = simp to_z-of_z at c.loop-place.invariant in
    let here : Some c.in-Some.section ≡ option_map description (section_at c.id_at-id.result.now (present c.args.now sections)) = simp to_z-of_z at c.in-Some.ensures in
    let next = given_here (drop c.args.from ids) ids place c.id_at-id.result.now c.args.now sections c.id_at-id.ensures before c.in-Some.section here in
    ap Some next.2 ∙ sym (ap (option_map (λ n. description n.section)) next.1)

pub returns-in-Some-clause-rest : goal.returns-in-Some-clause-rest
returns-in-Some-clause-rest g c =
    let fits : FitsSigned w64 c.args.now = c.ranges.now in
    let sections = g.S.Sections.sections c.args.sections.now in
    let ids = ids_in c.args.ends.now c.args.bytes.now in
    let place = c.loop-place.place in
    let before : given (drop c.args.from ids) c.args.now sections ≡ given (drop place ids) c.args.now sections = simp to_z-of_z at c.loop-place.invariant in
    let here : Some c.in-Some.section ≡ option_map description (section_at c.id_at-id.result.now (present c.args.now sections)) = simp to_z-of_z at c.in-Some.ensures in
    let next = given_here (drop c.args.from ids) ids place c.id_at-id.result.now c.args.now sections c.id_at-id.ensures before c.in-Some.section here in
    ap Some next.3 ∙ sym (ap (option_map (λ n. n.rest)) next.1)

pub loop-place-preserved : goal.loop-place-preserved
loop-place-preserved g c =
    let sections = g.S.Sections.sections c.args.sections.now in
    let ids = ids_in c.args.ends.now c.args.bytes.now in
    let later : None ≡ option_map description (section_at c.id_at-id.result.now (present (to_z w64 (of_z w64 c.args.now)) sections)) = sym c.in_default.is ∙ c.describe_present.ensures in
    given_later (drop c.args.from ids) ids c.loop-place.place c.id_at-id.result.now (to_z w64 (of_z w64 c.args.now)) sections c.id_at-id.ensures c.loop-place.invariant later

pub returns-clause-section : goal.returns-clause-section
returns-clause-section g c =
    let fits : FitsSigned w64 c.args.now = c.ranges.now in
    let sections = g.S.Sections.sections c.args.sections.now in
    let ids = ids_in c.args.ends.now c.args.bytes.now in
    let before : given (drop c.args.from ids) c.args.now sections ≡ given (drop c.loop-place.place ids) c.args.now sections = simp to_z-of_z at c.loop-place.invariant in
    let all : length ids ≤ c.loop-place.place = omega (arith, length-pieces_between 0 c.args.ends.now c.args.bytes.now) in
    sym (ap (option_map (λ (n : NextGiven). description n.section)) (none_given (drop c.args.from ids) ids c.loop-place.place c.args.now sections all before))

pub returns-clause-rest : goal.returns-clause-rest
returns-clause-rest g c =
    let fits : FitsSigned w64 c.args.now = c.ranges.now in
    let sections = g.S.Sections.sections c.args.sections.now in
    let ids = ids_in c.args.ends.now c.args.bytes.now in
    let before : given (drop c.args.from ids) c.args.now sections ≡ given (drop c.loop-place.place ids) c.args.now sections = simp to_z-of_z at c.loop-place.invariant in
    let all : length ids ≤ c.loop-place.place = omega (arith, length-pieces_between 0 c.args.ends.now c.args.bytes.now) in
    sym (ap (option_map (λ (n : NextGiven). n.rest)) (none_given (drop c.args.from ids) ids c.loop-place.place c.args.now sections all before))
