use Rattle.std.proofs.Common.{◌≡◌, Some, None, length, max, ◌+◌, ◌-◌, Ok, sym, ap, ◌∙◌, FitsSigned, w64, arith}
use Rattle.std.proofs.lemmas.Int.{to_z-of_z}
use Rattle.ckpt_types.specs.Sections.{present}
use Rattle.ckpt_types.proofs.Presence.{Rises-present}
use Rattle.update_rules.specs.Present.{size_at}
use Rattle.update_rules.specs.Writes.{with_elements, element_end, last_end_in}
use Rattle.update_rules.proofs.WriteLemmas.{Rises-with_elements, size_at-with_elements-Some, size_at-with_elements-None, measured-element_written-absent, measured-element_written-long, measured-element_written-full, measured-element_written-fine}
use Rattle.update_rules.proofs.writes.bytes_after.Goals as goal

pub returns-in_default-clause-bytes : goal.returns-in_default-clause-bytes
returns-in_default-clause-bytes g c =
    let fits : FitsSigned w64 c.args.now = c.ranges.now in
    let first = present c.args.now (g.S.Sections.sections c.args.sections.now) in
    let found : None ≡ size_at c.as_slice-id.result.now first = simp to_z-of_z at c.in_default.ensures in
    let is : None ≡ size_at c.args.element.now.id first = found ∙ ap (λ id. size_at id first) c.as_slice-id.ensures in
    sym (measured-element_written-absent c.args.attrs.now c.args.now _ c.args.element.now _ (size_at-with_elements-None c.args.now c.args.earlier.now first c.args.element.now.id (sym is)))

pub returns-then-end-from-clause-bytes : goal.returns-then-end-from-clause-bytes
returns-then-end-from-clause-bytes g c =
    let fits : FitsSigned w64 c.args.now = c.ranges.now in
    let first = present c.args.now (g.S.Sections.sections c.args.sections.now) in
    let found : Some c.in-Some.size_before ≡ size_at c.as_slice-id.result.now first = simp to_z-of_z at c.in-Some.ensures in
    let is : Some c.in-Some.size_before ≡ size_at c.args.element.now.id first = found ∙ ap (λ id. size_at id first) c.as_slice-id.ensures in
    let rises = Rises-with_elements c.args.now c.args.earlier.now first (Rises-present c.args.now _ c.requires.in_order) in
    sym (measured-element_written-long c.args.attrs.now c.args.now (length c.args.earlier.now) c.args.element.now (with_elements c.args.now c.args.earlier.now first) _ rises (size_at-with_elements-Some c.args.now c.args.earlier.now first c.args.element.now.id c.in-Some.size_before (sym is)) (omega arith))

pub returns-then-used-from-clause-bytes : goal.returns-then-used-from-clause-bytes
returns-then-used-from-clause-bytes g c =
    let fits : FitsSigned w64 c.args.now = c.ranges.now in
    let first = present c.args.now (g.S.Sections.sections c.args.sections.now) in
    let found : Some c.in-Some.size_before ≡ size_at c.as_slice-id.result.now first = simp to_z-of_z at c.in-Some.ensures in
    let is : Some c.in-Some.size_before ≡ size_at c.args.element.now.id first = found ∙ ap (λ id. size_at id first) c.as_slice-id.ensures in
    let size : c.size_after-size.result ≡ max c.in-Some.size_before (last_end_in c.args.element.now.id c.args.earlier.now) = omega (arith, c.size_after-size.ensures, ap (λ id. last_end_in id c.args.earlier.now) c.as_slice-id.ensures) in
    let rises = Rises-with_elements c.args.now c.args.earlier.now first (Rises-present c.args.now _ c.requires.in_order) in
    sym (measured-element_written-full c.args.attrs.now c.args.now (length c.args.earlier.now) c.args.element.now (with_elements c.args.now c.args.earlier.now first) _ c.args.used rises (size_at-with_elements-Some c.args.now c.args.earlier.now first c.args.element.now.id c.in-Some.size_before (sym is)) c.requires.used (omega arith) (omega arith))

pub returns-clause-bytes : goal.returns-clause-bytes
returns-clause-bytes g c =
    let fits : FitsSigned w64 c.args.now = c.ranges.now in
    let first = present c.args.now (g.S.Sections.sections c.args.sections.now) in
    let found : Some c.in-Some.size_before ≡ size_at c.as_slice-id.result.now first = simp to_z-of_z at c.in-Some.ensures in
    let is : Some c.in-Some.size_before ≡ size_at c.args.element.now.id first = found ∙ ap (λ id. size_at id first) c.as_slice-id.ensures in
    let size : c.size_after-size.result ≡ max c.in-Some.size_before (last_end_in c.args.element.now.id c.args.earlier.now) = omega (arith, c.size_after-size.ensures, ap (λ id. last_end_in id c.args.earlier.now) c.as_slice-id.ensures) in
    let rises = Rises-with_elements c.args.now c.args.earlier.now first (Rises-present c.args.now _ c.requires.in_order) in
    ap (λ n. Ok (c.args.used + n)) (c.saturating_sub.ensures ∙ ap (λ n. n - c.size_after-size.result) c.end_of-end.ensures ∙ ap (λ n. element_end c.args.element.now - n) size)
    ∙ sym (measured-element_written-fine c.args.attrs.now c.args.now (length c.args.earlier.now) c.args.element.now (with_elements c.args.now c.args.earlier.now first) (max c.in-Some.size_before (last_end_in c.args.element.now.id c.args.earlier.now)) c.args.used rises (size_at-with_elements-Some c.args.now c.args.earlier.now first c.args.element.now.id c.in-Some.size_before (sym is)) c.requires.used (omega arith) (omega arith))
