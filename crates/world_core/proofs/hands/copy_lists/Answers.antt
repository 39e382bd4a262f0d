use Rattle.std.proofs.Common.{◌++◌, ◌∷◌, [], rules, sym, ◌∙◌}
use Rattle.std.proofs.lemmas.List.{take_all, take_more}
use Rattle.world_core.proofs.hands.copy_lists.Goals as goal

pub push_reserved-requires : goal.push_reserved-requires
push_reserved-requires c = search rules

pub loop-calls-preserved : goal.loop-calls-preserved
loop-calls-preserved c = record {
  copied = c.push_reserved.ensures.items ∙ (λ i. c.loop-calls.invariant.copied i ++ (c.in_ok-copy.ensures ∙ c.calls-item.is) i ∷ []) ∙ sym (take_more c.args.lists.now c.loop-calls.calls-index _ c.loop-calls-test.true);
  room = c.push_reserved.ensures.capacity ∙ c.loop-calls.invariant.room;
}

pub returns : goal.returns
returns c =
    let copied = c.loop-calls.invariant.copied in
    let all = take_all c.loop-calls.calls-index c.args.lists.now c.loop-calls-test.false in
    cc
