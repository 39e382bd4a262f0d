use Rattle.std.proofs.Common.{◌++◌, ◌∷◌, [], arith, map, sym, ap, ◌∙◌}
use Rattle.std.proofs.lemmas.List.{map-append, take_all, take_more}
use Rattle.call_dispatch.specs.PendingCalls.{callback_of}
use Rattle.client_calls.proofs.kept_calls.each_callback.Goals as goal

pub loop-call-preserved : goal.loop-call-preserved
loop-call-preserved c = record {
  items = c.push_reserved.ensures.items ∙ (λ i. c.loop-call.invariant.items i ++ c.callback.ensures i ∷ []) ∙ sym (map-append callback_of _ _) ∙ ap (map callback_of) (sym (take_more c.args.ended.now c.loop-call.call-index _ c.loop-call-test.true));
  room = omega arith;
}

pub returns : goal.returns
returns c = c.loop-call.invariant.items ∙ ap (map callback_of) (take_all c.loop-call.call-index c.args.ended.now c.loop-call-test.false)
