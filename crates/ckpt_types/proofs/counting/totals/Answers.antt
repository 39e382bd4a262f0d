use Rattle.std.proofs.Common.{length, ◌<ℤ◌, sym, ap, ◌∙◌, arith}
use Rattle.std.proofs.lemmas.Int.{ints}
use Rattle.ckpt_types.specs.Sections.{memory_used, earliest_expiration}
use Rattle.ckpt_types.proofs.Expirations.{present-before_earliest}
use Rattle.ckpt_types.proofs.counting.totals.Goals as goal

pub returns-then-now-earliest-clause-count : goal.returns-then-now-earliest-clause-count
returns-then-now-earliest-clause-count g c =
    let sections = g.S.Sections.sections c.args.sections.now in
    let before : c.args.now <ℤ earliest_expiration sections = omega (arith, ints, c.earliest.ensures, c.if-now-earliest.true) in
    c.len-count.ensures.count ∙ ap length (sym (present-before_earliest c.args.now sections before))

pub returns-then-now-earliest-clause-bytes : goal.returns-then-now-earliest-clause-bytes
returns-then-now-earliest-clause-bytes g c =
    let sections = g.S.Sections.sections c.args.sections.now in
    let before : c.args.now <ℤ earliest_expiration sections = omega (arith, ints, c.earliest.ensures, c.if-now-earliest.true) in
    c.sum-bytes.ensures ∙ ap memory_used (sym (present-before_earliest c.args.now sections before))
