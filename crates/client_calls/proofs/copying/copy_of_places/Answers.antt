use Rattle.std.proofs.Common.{◌++◌, ◌∷◌, [], rules, sym, ◌∙◌}
use Rattle.std.proofs.lemmas.List.{take_all, take_more}
use Rattle.client_calls.proofs.copying.copy_of_places.Goals as goal

pub push_reserved-requires : goal.push_reserved-requires
push_reserved-requires c = search rules

pub loop-place-preserved : goal.loop-place-preserved
loop-place-preserved c = record {
  copied = c.push_reserved.ensures.items ∙ (λ i. c.loop-place.invariant.copied i ++ (c.in_ok-copy_of_place.ensures ∙ c.place-item.is) i ∷ []) ∙ sym (take_more c.args.places.now c.loop-place.place-index _ c.loop-place-test.true);
  room = c.push_reserved.ensures.capacity ∙ c.loop-place.invariant.room;
}

pub returns : goal.returns
returns c =
    let copied = c.loop-place.invariant.copied in
    let all = take_all c.loop-place.place-index c.args.places.now c.loop-place-test.false in
    cc
