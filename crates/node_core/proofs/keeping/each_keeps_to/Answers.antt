use Rattle.std.proofs.Common.{◌≡◌, true, false, All, subst, refl, arith}
use Rattle.std.proofs.lemmas.Option.{get_or_from_slice_get, slice_get_within}
use Rattle.ckpt_types.specs.Sections.{section_of}
use Rattle.node_core.specs.Keeping.{KeepsTo}
use Rattle.node_core.proofs.FirstSections.{All-next, all_first}
use Rattle.node_core.proofs.keeping.each_keeps_to.Goals as goal

pub loop-place-preserved : goal.loop-place-preserved
loop-place-preserved g c =
    let sections = g.S.Sections.sections c.args.sections.now in
    All-next (KeepsTo c.args.declared.now) sections c.loop-place.place (section_of c.at-section.result) c.at-section.ensures c.loop-place.invariant (c.one_keeps_to.ensures.0 c.if-not-one_keeps_to.false)

pub returns : goal.returns
returns g c =
    let sections = g.S.Sections.sections c.args.sections.now in
    (λ is. subst (All (KeepsTo c.args.declared.now)) (all_first sections c.loop-place.place (omega (arith, c.len-count.ensures.count, c.loop-place-test.false))) c.loop-place.invariant, λ all. refl)

pub returns-then-not-one_keeps_to : goal.returns-then-not-one_keeps_to
returns-then-not-one_keeps_to g c =
    let sections = g.S.Sections.sections c.args.sections.now in
    let section = section_of c.at-section.result in
    let within = slice_get_within sections c.loop-place.place section c.at-section.ensures in
    let here = get_or_from_slice_get sections c.loop-place.place section section c.at-section.ensures in
    (λ is. absurd (let w : false ≡ true = is in cc w), λ all. absurd (let kept = c.one_keeps_to.ensures.1 (subst (KeepsTo c.args.declared.now) here (all c.loop-place.place section within)) in cc))
