use Rattle.call_dispatch.proofs.CallbackLaws.{told-more}
use Rattle.call_dispatch.proofs.kept.call_each.Goals as goal

pub loop-call-preserved : goal.loop-call-preserved
loop-call-preserved g c = told-more _ _ _ _ _ _ _ c.loop-call-test.true c.loop-call.invariant c.callback.ensures
