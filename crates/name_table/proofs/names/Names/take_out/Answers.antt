use Rattle.std.proofs.Common.{◌≡◌, length, ap, sym, subst, ◌∙◌, arith}
use Rattle.std.proofs.lemmas.List.{length-map}
use Rattle.indexmap.specs.IndexMap.{IsEmpty, spare, index_map_len}
use Rattle.name_table.specs.Kept.{named_ckpt, table_of}
use Rattle.name_table.specs.Table.{found, name_taken_away, EachOnce, OthersStay}
use Rattle.name_table.proofs.MoveLemmas.{length-unlinked}
use Rattle.name_table.proofs.TableLemmas.{found-unlinked, found-unlinked-other, EachOnce-filter}
use Rattle.name_table.proofs.names.Names.take_out.Goals as goal

-- the name is gone
becomes : (c : goal.After-swap) → table_of c.swap.new.x.entries ≡ name_taken_away c.args.name.now c.args.self.now
becomes c = ap (λ m. table_of m.entries) c.swap.ensures.x_after ∙ c.move_others.ensures.others ∙ ap (name_taken_away c.args.name.now) c.self.view_is

pub invariant_of-self : goal.invariant_of-self
invariant_of-self c =
    let kept = c.self.invariant in
    let once : EachOnce c.args.self.now = subst EachOnce c.self.view_is kept.each_once in
    let moved = c.move_others.ensures in
    record {
      each_once = subst EachOnce (sym (becomes c)) (EachOnce-filter _ c.args.self.now once);
      few = omega (arith, ap length (becomes c), length-map c.swap.new.x.entries named_ckpt, length-unlinked c.args.name.now c.args.self.now, ap length c.self.view_is, length-map c.self.inside.linked.entries named_ckpt, kept.few);
      room = omega (arith, ap index_map_len c.swap.ensures.x_after, ap spare c.swap.ensures.x_after, moved.room, kept.unused_room);
      empty = subst IsEmpty (sym c.swap.ensures.y_after) moved.emptied;
      unused_room = omega (arith, ap spare c.swap.ensures.y_after, moved.given_back, kept.room);
    }

pub returns-clause-gone : goal.returns-clause-gone
returns-clause-gone c = ap (found c.args.name.now) (becomes c) ∙ found-unlinked c.args.name.now c.args.self.now

pub returns-clause-others : goal.returns-clause-others
returns-clause-others c = subst (OthersStay c.args.name.now c.args.self.now) (sym (becomes c)) (found-unlinked-other c.args.name.now c.args.self.now)
