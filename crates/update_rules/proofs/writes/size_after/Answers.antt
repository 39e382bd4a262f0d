use Rattle.std.proofs.Common.{arith}
use Rattle.update_rules.proofs.WriteLemmas.{last_end_in_more}
use Rattle.update_rules.proofs.writes.size_after.Goals as goal

pub loop-element-preserved : goal.loop-element-preserved
loop-element-preserved c =
    omega (arith, c.size_with-size.ensures, c.loop-element.invariant, last_end_in_more c.args.id.now c.args.elements.now c.loop-element.element-index c.element-item.result c.loop-element-test.true c.element-item.is)
