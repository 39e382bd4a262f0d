use Rattle.std.proofs.Common.{◌≡◌, ◌+◌, List, ℕ, Some, drop, ◌∙◌, ap, sym, FitsSigned, w64, rules}
use Rattle.std.specs.Option.{option_map}
use Rattle.std.proofs.lemmas.Int.{to_z-of_z}
use Rattle.ckpt_types.specs.Reads.{given, description}
use Rattle.section_iter.specs.Ids.{ids_in}
use Rattle.section_iter.specs.Iteration.{kept_ids}
use Rattle.section_iter.specs.KeptIds.{KeptIds}
use Rattle.section_iter.specs.Next.{given_answer, kept_after}
use Rattle.section_iter.proofs.GivenLemmas.{answer_of-told, kept_after-rest}
use Rattle.section_iter.proofs.iteration.Iteration.next.Goals as goal

pub returns-clause-answer : goal.returns-clause-answer
returns-clause-answer g c =
    let fits : FitsSigned w64 c.args.now = c.ranges.now in
    let sections = g.S.Sections.sections c.args.sections.now in
    let all : List (List ℕ) = ids_in c.as_slice-ends.result.now c.as_slice-bytes.result.now in
    let lent = c.deref_mut-kept.result.now in
    let same : all ≡ ids_in lent.ends.items lent.bytes.items = λ i. ids_in (c.as_slice-ends.ensures.value i) (c.as_slice-bytes.ensures.value i) in
    let kept : List (List ℕ) = drop lent.first all in
    let ids : kept ≡ c.args.self.now.ids = ap (drop lent.first) same ∙ ap (λ k. (kept_ids k).ids) c.deref_mut-kept.ensures.value ∙ ap (λ (k : KeptIds). k.ids) c.self.view_is in
    let here : Some c.in-Some.found.section ≡ option_map (λ n. description n.section) (given kept c.args.now sections) = simp to_z-of_z at c.in-Some.ensures.section in
    answer_of-told (given kept c.args.now sections) c.in-Some.found.section here ∙ ap (λ xs. given_answer (given xs c.args.now sections)) ids

pub returns-clause-kept : goal.returns-clause-kept
returns-clause-kept g c =
    let fits : FitsSigned w64 c.args.now = c.ranges.now in
    let sections = g.S.Sections.sections c.args.sections.now in
    let all : List (List ℕ) = ids_in c.as_slice-ends.result.now c.as_slice-bytes.result.now in
    let lent = c.deref_mut-kept.result.now in
    let same : ids_in lent.ends.items lent.bytes.items ≡ all = λ i. ids_in (sym c.as_slice-ends.ensures.value i) (sym c.as_slice-bytes.ensures.value i) in
    let kept : List (List ℕ) = drop lent.first all in
    let ids : kept ≡ c.args.self.now.ids = ap (drop lent.first) (sym same) ∙ ap (λ k. (kept_ids k).ids) c.deref_mut-kept.ensures.value ∙ ap (λ (k : KeptIds). k.ids) c.self.view_is in
    let n = c.in-Some.found.place + 1 in
    let here : Some (drop n all) ≡ option_map (λ x. x.rest) (given kept c.args.now sections) = simp to_z-of_z at c.in-Some.ensures.rest in
    let later : List (List ℕ) → KeptIds → KeptIds = λ xs k. record k { ids = drop n xs } in
    (λ i. later (same i) ((ap kept_ids c.deref_mut-kept.ensures.value ∙ c.self.view_is) i))
    ∙ kept_after-rest c.args.self.now (given kept c.args.now sections) (drop n all) here
    ∙ ap (λ xs. kept_after c.args.self.now (given xs c.args.now sections)) ids

pub returns-in_default-clause-kept : goal.returns-in_default-clause-kept
returns-in_default-clause-kept g c = search rules
