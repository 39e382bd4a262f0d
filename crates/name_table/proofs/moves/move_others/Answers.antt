use Rattle.std.proofs.Common.{◌<◌, ◌++◌, ◌∷◌, [], length, length-append, ap, sym, subst, ◌∙◌, arith}
use Rattle.indexmap.specs.Drain.{drain_rest}
use Rattle.name_table.specs.Kept.{table_of}
use Rattle.name_table.specs.Table.{name_taken_away, EachOnce}
use Rattle.name_table.proofs.MoveLemmas.{whole, fewer, not_yet, then_done}
use Rattle.name_table.proofs.moves.move_others.Goals as goal

pub put_last-requires-clause-spare_place : goal.put_last-requires-clause-spare_place
put_last-requires-clause-spare_place c =
    let same = ap drain_rest c.into_iter-other-iterator.ensures.into_iter_gives in
    let all = c.drain-other-items.ensures.rest ∙ whole c.args.from.now.entries in
    let few : length c.loop-other.to.entries < length (drain_rest c.into_iter-other-iterator.result) =
    fewer c.args.name.now _ c.loop-other.to.entries _ _ _ c.loop-other.invariant.moved c.in-Some.ensures.steps.0 (sym c.if-is_another.ensures) in
    omega (arith, few, c.requires.room, c.loop-other.invariant.room, ap length all, ap length same)

pub put_last-requires-clause-absent : goal.put_last-requires-clause-absent
put_last-requires-clause-absent c =
    let all = ap drain_rest c.into_iter-other-iterator.ensures.into_iter_gives ∙ c.drain-other-items.ensures.rest ∙ whole c.args.from.now.entries in
    let once : EachOnce (table_of (drain_rest c.into_iter-other-iterator.result)) = subst (λ es. EachOnce (table_of es)) (sym all) c.requires.each_once in
    not_yet c.args.name.now _ c.loop-other.to.entries _ _ _ c.loop-other.invariant.moved c.in-Some.ensures.steps.0 (sym c.if-is_another.ensures) once

pub loop-other-preserved-then-is_another : goal.loop-other-preserved-then-is_another
loop-other-preserved-then-is_another c =
    let before = c.loop-other.invariant in
    let step = c.in-Some.ensures.steps in
    let added = c.put_last.ensures.last in
    record {
      next = tt;
      ends = tt;
      keeps = (step.1.0 ∙ before.keeps.0, step.1.1 ∙ before.keeps.1, (omega (arith, step.1.2.0, before.keeps.2.0), step.1.2.1 ∙ before.keeps.2.1), omega (arith, step.1.3, before.keeps.3));
      moved =
          ap (λ es. table_of es ++ name_taken_away c.args.name.now (table_of (drain_rest c.next.new.self))) added
          ∙ then_done c.args.name.now _ c.loop-other.to.entries _ _ _ before.moved step.0 (sym c.if-is_another.ensures);
      room = omega (arith, ap length added, length-append c.loop-other.to.entries ((c.in-Some.other, c.in-Some.id) ∷ []), c.put_last.ensures.one_place, before.room);
    }
