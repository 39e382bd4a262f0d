use Rattle.std.proofs.Common.{◌++◌, ◌∷◌, [], rules, sym, ◌∙◌}
use Rattle.std.proofs.lemmas.List.{take_all, take_more}
use Rattle.world_core.proofs.snapshots.copy_backgrounds.Goals as goal

pub push_reserved-requires : goal.push_reserved-requires
push_reserved-requires c = search rules

pub loop-background-preserved : goal.loop-background-preserved
loop-background-preserved c = record {
  copied = c.push_reserved.ensures.items ∙ (λ i. c.loop-background.invariant.copied i ++ (c.in_ok-copy.ensures ∙ c.background-item.is) i ∷ []) ∙ sym (take_more c.args.snapshots.now c.loop-background.background-index _ c.loop-background-test.true);
  room = c.push_reserved.ensures.capacity ∙ c.loop-background.invariant.room;
}

pub returns : goal.returns
returns c =
    let copied = c.loop-background.invariant.copied in
    let all = take_all c.loop-background.background-index c.args.snapshots.now c.loop-background-test.false in
    cc
