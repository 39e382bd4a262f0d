use Rattle.std.proofs.Common.{◌++◌, ◌∷◌, [], rules, sym, ◌∙◌}
use Rattle.std.proofs.lemmas.List.{take_all, take_more}
use Rattle.cluster_nodes.proofs.nodes.copy_nodes.Goals as goal

pub push_reserved-requires : goal.push_reserved-requires
push_reserved-requires c = search rules

pub loop-node-preserved : goal.loop-node-preserved
loop-node-preserved c = record {
  copied = c.push_reserved.ensures.items ∙ (λ i. c.loop-node.invariant.copied i ++ (c.in_ok-copy.ensures ∙ c.node-item.is) i ∷ []) ∙ sym (take_more c.args.nodes.now c.loop-node.node-index _ c.loop-node-test.true);
  room = c.push_reserved.ensures.capacity ∙ c.loop-node.invariant.room;
}

pub returns : goal.returns
returns c =
    let copied = c.loop-node.invariant.copied in
    let all = take_all c.loop-node.node-index c.args.nodes.now c.loop-node-test.false in
    cc
