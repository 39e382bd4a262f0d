use Rattle.std.proofs.Common.{◌+◌, ◌++◌, ◌∷◌, [], length, rules, sym, ap, map, take, ◌∙◌}
use Rattle.std.proofs.lemmas.List.{length_push, map-append, take_all, take_more}
use Rattle.world_core.specs.TakenApart.{next_part}
use Rattle.world_core.proofs.tables.numbers_of.Goals as goal

pub push_reserved-requires : goal.push_reserved-requires
push_reserved-requires c = search rules

pub loop-table-preserved : goal.loop-table-preserved
loop-table-preserved c =
    let tables = c.args.tables.now in
    let i = c.loop-table.table-index in
    record {
      told = c.push_reserved.ensures.items
          ∙ (λ j. c.loop-table.invariant.told j ++ (c.number.ensures ∙ ap next_part c.table-item.is) j ∷ [])
          ∙ sym (ap (map next_part) (take_more tables i _ c.loop-table-test.true) ∙ map-append next_part (take i tables) (_ ∷ []));
      count = ap length c.push_reserved.ensures.items ∙ length_push c.loop-table.numbers.items c.number.result ∙ ap (λ n. n + 1) c.loop-table.invariant.count;
      room = c.push_reserved.ensures.capacity ∙ c.loop-table.invariant.room;
    }

pub returns : goal.returns
returns c = c.loop-table.invariant.told ∙ ap (map next_part) (take_all c.loop-table.table-index c.args.tables.now c.loop-table-test.false)
