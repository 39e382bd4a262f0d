use Rattle.std.proofs.Common.{◌++◌, ◌∷◌, [], rules, sym, ◌∙◌}
use Rattle.std.proofs.lemmas.List.{take_all, take_more}
use Rattle.node_core.proofs.copying.copy_replicas.Goals as goal

pub push_reserved-requires : goal.push_reserved-requires
push_reserved-requires c = search rules

pub loop-replica-preserved : goal.loop-replica-preserved
loop-replica-preserved c = record {
  copied = c.push_reserved.ensures.items ∙ (λ i. c.loop-replica.invariant.copied i ++ (c.in_ok-copy.ensures ∙ c.replica-item.is) i ∷ []) ∙ sym (take_more c.args.replicas.now c.loop-replica.replica-index _ c.loop-replica-test.true);
  room = c.push_reserved.ensures.capacity ∙ c.loop-replica.invariant.room;
}

pub returns : goal.returns
returns c =
    let copied = c.loop-replica.invariant.copied in
    let all = take_all c.loop-replica.replica-index c.args.replicas.now c.loop-replica-test.false in
    cc
