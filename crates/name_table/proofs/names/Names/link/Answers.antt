use Rattle.std.proofs.Common.{◌≡◌, ◌∷◌, [], length, ap, sym, subst, ◌∙◌, arith, length-append}
use Rattle.std.proofs.lemmas.List.{length-map}
use Rattle.name_table.specs.Kept.{named_ckpt, table_of}
use Rattle.name_table.specs.Table.{found, linked, EachOnce, OthersStay}
use Rattle.name_table.proofs.MoveLemmas.{table_of-push}
use Rattle.name_table.proofs.TableLemmas.{found_in_entries, found-linked, found-linked-other, EachOnce-linked}
use Rattle.name_table.proofs.names.Names.link.Goals as goal

pub put_last-requires-clause-absent : goal.put_last-requires-clause-absent
put_last-requires-clause-absent c = sym (found_in_entries c.args.name c.self.inside.linked.entries) ∙ ap (found c.args.name) c.self.view_is ∙ c.requires.absent

pub put_last-requires-clause-spare_place : goal.put_last-requires-clause-spare_place
put_last-requires-clause-spare_place c = omega (arith, c.self.invariant.room, c.requires.spare_place, ap length c.self.view_is, length-map c.self.inside.linked.entries named_ckpt)

-- the name is linked
becomes : (c : goal.After-put_last) → table_of c.put_last.new.map.entries ≡ linked c.args.name c.args.id c.args.self.now
becomes c = ap table_of c.put_last.ensures.last ∙ table_of-push c.self.inside.linked.entries (c.args.name, c.args.id) ∙ ap (linked c.args.name c.args.id) c.self.view_is

pub invariant_of-self : goal.invariant_of-self
invariant_of-self c =
    let kept = c.self.invariant in
    let once : EachOnce c.args.self.now = subst EachOnce c.self.view_is kept.each_once in
    record {
      each_once = subst EachOnce (sym (becomes c)) (EachOnce-linked c.args.name c.args.id c.args.self.now once c.requires.absent);
      few = omega (arith, ap length c.put_last.ensures.last, length-append c.self.inside.linked.entries ((c.args.name, c.args.id) ∷ []), c.requires.spare_place, ap length c.self.view_is, length-map c.self.inside.linked.entries named_ckpt);
      room = omega (arith, ap length c.put_last.ensures.last, length-append c.self.inside.linked.entries ((c.args.name, c.args.id) ∷ []), c.put_last.ensures.one_place, kept.room);
      empty = kept.empty;
      unused_room = kept.unused_room;
    }

pub returns-clause-linked : goal.returns-clause-linked
returns-clause-linked c = becomes c

pub returns-clause-found : goal.returns-clause-found
returns-clause-found c = ap (found c.args.name) (becomes c) ∙ found-linked c.args.name c.args.id c.args.self.now c.requires.absent

pub returns-clause-others : goal.returns-clause-others
returns-clause-others c = subst (OthersStay c.args.name c.args.self.now) (sym (becomes c)) (found-linked-other c.args.name c.args.id c.args.self.now)
