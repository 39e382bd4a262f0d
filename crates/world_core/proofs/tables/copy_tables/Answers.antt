use Rattle.std.proofs.Common.{◌++◌, ◌∷◌, [], rules, sym, ◌∙◌}
use Rattle.std.proofs.lemmas.List.{take_all, take_more}
use Rattle.world_core.proofs.tables.copy_tables.Goals as goal

pub push_reserved-requires : goal.push_reserved-requires
push_reserved-requires c = search rules

pub loop-table-preserved : goal.loop-table-preserved
loop-table-preserved c = record {
  copied = c.push_reserved.ensures.items ∙ (λ i. c.loop-table.invariant.copied i ++ (c.in_ok-copy.ensures ∙ c.table-item.is) i ∷ []) ∙ sym (take_more c.args.tables.now c.loop-table.table-index _ c.loop-table-test.true);
  room = c.push_reserved.ensures.capacity ∙ c.loop-table.invariant.room;
}

pub returns : goal.returns
returns c =
    let copied = c.loop-table.invariant.copied in
    let all = take_all c.loop-table.table-index c.args.tables.now c.loop-table-test.false in
    cc
