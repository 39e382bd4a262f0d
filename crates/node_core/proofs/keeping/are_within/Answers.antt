use Rattle.std.proofs.Common.{◌≡◌, false, true, arith}
use Rattle.ckpt_types.specs.Sections.{section_of}
use Rattle.ckpt_types.proofs.FirstSections.{memory_used-next, memory_used-room}
use Rattle.node_core.proofs.keeping.are_within.Goals as goal

pub returns-then-size-left : goal.returns-then-size-left
returns-then-size-left g c =
    let sections = g.S.Sections.sections c.args.sections.now in
    let room = memory_used-room sections c.loop-place.place (section_of c.at-section.result) c.at-section.ensures in
    (λ is. absurd (let w : false ≡ true = is in cc w), λ within. absurd (omega (arith, room, within, c.loop-place.invariant, c.if-size-left.true)))

pub loop-place-preserved : goal.loop-place-preserved
loop-place-preserved g c =
    let sections = g.S.Sections.sections c.args.sections.now in
    omega (arith, memory_used-next sections c.loop-place.place (section_of c.at-section.result) c.at-section.ensures, c.loop-place.invariant, c.if-size-left.false)
