use Rattle.std.proofs.Common.{◌≡◌, ◌+◌, ◌^◌, ◌<◌, length, ap, ◌∙◌, sym, subst, to_z, of_z, w64, arith, rules}
use Rattle.std.proofs.lemmas.Int.{to_z-of_z}
use Rattle.ckpt_types.specs.Sections.{present}
use Rattle.ckpt_types.specs.Updates.{free_number}
use Rattle.ckpt_types.proofs.Numbering.{free_number-le}
use Rattle.ckpt_types.proofs.Presence.{length-present-le}
use Rattle.section_store.specs.Summary.{AreTaken}
use Rattle.section_store.proofs.SummaryLemmas.{AreTaken-insert, AreTaken-free_number, AreTaken-numbered}
use Rattle.section_store.proofs.identifiers.new_id.Goals as goal

pub overflow_add-result : goal.overflow_add-result
overflow_add-result c =
    let few : length c.args.kept.now.sections + 2 < 2 ^ 64 = omega (arith, c.requires.few) in
    let t = to_z w64 (of_z w64 c.args.now) in
    let sections = present t c.args.kept.now.sections in
    let counted : c.free_number-number.result + 1 < 2 ^ 64 =
    omega (arith, c.free_number-number.ensures, free_number-le sections, length-present-le t c.args.kept.now.sections) in
    search (rules, counted)

pub returns-in-Some-clause-first : goal.returns-in-Some-clause-first
returns-in-Some-clause-first c = λ place s same. AreTaken-insert c.args.first place s (present c.args.now c.args.kept.now.sections) c.requires.taken

pub returns-in-Generated-clause-first : goal.returns-in-Generated-clause-first
returns-in-Generated-clause-first c = λ place s same.
    let sections = present c.args.now c.args.kept.now.sections in
    let few : length c.args.kept.now.sections + 2 < 2 ^ 64 = omega (arith, c.requires.few) in
    let number : c.free_number-number.result ≡ free_number sections = c.free_number-number.ensures ∙ ap (λ t. free_number (present t c.args.kept.now.sections)) (to_z-of_z w64 c.args.now c.ranges.now) in
    let all = AreTaken-free_number sections (omega (arith, length-present-le c.args.now c.args.kept.now.sections)) in
    AreTaken-numbered c.free_number-number.result place s sections (same ∙ c.numbered.ensures) (subst (λ n. AreTaken n sections) (sym number) all)
