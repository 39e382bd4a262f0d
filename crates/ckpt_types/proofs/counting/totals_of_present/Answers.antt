use Rattle.std.proofs.Common.{◌+◌, ◌≤◌, ◌<◌, ◌^◌, length, take, to_z, of_z, w64, sym, ap, ◌∙◌, arith, rules}
use Rattle.std.proofs.lemmas.List.{length-take}
use Rattle.ckpt_types.specs.Sections.{section_of, memory_used}
use Rattle.ckpt_types.proofs.FirstSections.{totals-present, totals-absent, memory_used-take-le}
use Rattle.ckpt_types.proofs.Presence.{length-present-le, memory_used-present-le}
use Rattle.ckpt_types.proofs.counting.totals_of_present.Goals as goal
use Rattle.ckpt_types.proofs.counting.totals_of_present.Goals.{then-is_present, else-is_present}

pub overflow_add-count : goal.overflow_add-count
overflow_add-count g c =
    let t = to_z w64 (of_z w64 c.args.now) in
    let sections = g.S.Sections.sections c.args.sections.now in
    let i = c.loop-place.place in
    let counted : c.loop-place.count ≤ i = omega (arith, c.loop-place.invariant.count, length-present-le t (take i sections), length-take i sections) in
    let below : c.loop-place.count + 1 ≤ c.len-place-end.result = omega (arith, c.loop-place-test.true) in
    search (rules, below)

pub overflow_add-bytes : goal.overflow_add-bytes
overflow_add-bytes g c =
    let t = to_z w64 (of_z w64 c.args.now) in
    let sections = g.S.Sections.sections c.args.sections.now in
    let i = c.loop-place.place in
    let s = section_of c.at-section.result in
    let more = totals-present t sections i s c.at-section.ensures (sym c.is_present.ensures ∙ c.if-is_present.true) in
    let summed : c.loop-place.bytes + length c.at-section.result.bytes.now < 2 ^ 64 =
    omega (arith, more.1, c.loop-place.invariant.bytes, memory_used-present-le t (take (i + 1) sections), memory_used-take-le sections (i + 1), c.requires) in
    search (rules, summed)

pub loop-place-preserved : goal.loop-place-preserved
loop-place-preserved g c =
    let t = to_z w64 (of_z w64 c.args.now) in
    let sections = g.S.Sections.sections c.args.sections.now in
    let i = c.loop-place.place in
    let s = section_of c.at-section.result in
    let was = c.loop-place.invariant in
    elim c.if-is_present.branch [
      | then-is_present w ↦
          let more = totals-present t sections i s c.at-section.ensures (sym c.is_present.ensures ∙ w.if-is_present.true) in
          record { count = omega (arith, more.0, was.count, w.count-is); bytes = omega (arith, more.1, was.bytes, w.bytes-is) }
      | else-is_present w ↦
          let same = totals-absent t sections i s c.at-section.ensures (sym c.is_present.ensures ∙ w.if-is_present.false) in
          record { count = w.count-is ∙ was.count ∙ ap length (sym same); bytes = w.bytes-is ∙ was.bytes ∙ ap memory_used (sym same) }
    ]
