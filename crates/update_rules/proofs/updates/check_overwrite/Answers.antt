use Rattle.std.proofs.Common.{◌≡◌, Some, sym, ◌∙◌, FitsSigned, w64, arith}
use Rattle.std.proofs.lemmas.Int.{to_z-of_z}
use Rattle.ckpt_types.specs.Sections.{present, memory_used}
use Rattle.ckpt_types.proofs.Presence.{Rises-present}
use Rattle.update_rules.specs.Present.{size_at}
use Rattle.update_rules.proofs.Singles.{check_answer-overwritten-full, check_answer-overwritten-fine}
use Rattle.update_rules.proofs.updates.check_overwrite.Goals as goal

pub returns-then-bytes_before-from : goal.returns-then-bytes_before-from
returns-then-bytes_before-from g c =
    let fits : FitsSigned w64 c.args.now = c.ranges.now in
    let sections = present c.args.now (g.S.Sections.sections c.args.sections.now) in
    let is : Some c.in-Some.size ≡ size_at c.args.id.now sections = simp to_z-of_z at c.in-Some.ensures in
    let sum : c.totals.result.bytes ≡ memory_used sections = simp to_z-of_z at c.totals.ensures.bytes in
    c.refuse-then-bytes_before-from.ensures
    ∙ sym (check_answer-overwritten-full c.args.attrs.now c.args.id.now c.args.bytes.now c.args.now sections c.in-Some.size c.totals.result.bytes (Rises-present c.args.now _ c.requires.in_order) (sym is) sum (omega arith) (omega arith))

pub returns : goal.returns
returns g c =
    let fits : FitsSigned w64 c.args.now = c.ranges.now in
    let sections = present c.args.now (g.S.Sections.sections c.args.sections.now) in
    let is : Some c.in-Some.size ≡ size_at c.args.id.now sections = simp to_z-of_z at c.in-Some.ensures in
    let sum : c.totals.result.bytes ≡ memory_used sections = simp to_z-of_z at c.totals.ensures.bytes in
    sym (check_answer-overwritten-fine c.args.attrs.now c.args.id.now c.args.bytes.now c.args.now sections c.in-Some.size c.totals.result.bytes (Rises-present c.args.now _ c.requires.in_order) (sym is) sum (omega arith) (omega arith))
