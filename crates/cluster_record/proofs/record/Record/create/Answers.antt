use Rattle.std.proofs.Common.{◌≡◌, ℕ, ◌+◌, ◌≤◌, length, Some, None, sym, ap, subst, ◌∙◌, arith, rules}
use Rattle.ckpt_types.specs.Limits.{checkpoints_max}
use Rattle.name_table.specs.Table.{found, linked}
use Rattle.cluster_record.specs.declared.entries.Entry.{Entry}
use Rattle.cluster_record.specs.Kept.{IsKeptEntry}
use Rattle.cluster_record.specs.RecordState.{RecordState, named, new_entry}
use Rattle.cluster_record.specs.RecordView.{AreKeptEntries, record_of}
use Rattle.cluster_record.proofs.EntryLaws.{new_entry-kept}
use Rattle.cluster_record.proofs.KeptLaws.{entries-pushed}
use Rattle.cluster_record.proofs.NameLaws.{absent-name, length-names_of, pushed-is}
use Rattle.cluster_record.proofs.record.Record.create.Goals as goal

-- no entry has the name that is linked
absent_in : (c : goal.After-link-arg-1) → named c.args.ask.name c.self.inside.entries.items ≡ None
absent_in c = ap (λ (R : RecordState). named c.args.ask.name R.entries) c.self.view_is ∙ c.requires.absent

pub invariant_of-self : goal.invariant_of-self
invariant_of-self c =
    let kept = c.self.invariant in
    let entry = c.new_entry-entry.result in
    let last = c.self.inside.last_identity in
    let old = c.self.inside.entries.items in
    let name = c.args.ask.name in
    let is : entry ≡ new_entry c.args.call name c.in-Some.attributes (record_of c.self.inside) = search rules in
    let next : entry.identity ≡ last + 1 = ap (λ (e : Entry). e.identity) is in
    let called : entry.name ≡ Some name = ap (λ (e : Entry). e.name) is in
    let absent : named name old ≡ None = ap (λ (R : RecordState). named c.args.ask.name R.entries) c.self.view_is ∙ c.requires.absent in
    let one : IsKeptEntry c.self.inside.moment entry = subst (IsKeptEntry c.self.inside.moment) (sym is) (new_entry-kept c.args.call name c.in-Some.attributes (record_of c.self.inside) c.requires.caller c.requires.can.name (search rules) kept.moment.0) in
    let all : AreKeptEntries c.self.inside.moment (last + 1) _ = entries-pushed c.self.inside.moment last old kept.entries entry name one called next absent (omega (arith, ap (λ (R : RecordState). length R.entries) c.self.view_is, c.requires.room.room)) in
    record {
      clients_room = kept.clients_room;
      entries_room = subst (λ (n : ℕ). checkpoints_max ≤ n) (sym c.push_reserved.ensures.capacity) kept.entries_room;
      moment = kept.moment;
      clients = kept.clients;
      few_clients = kept.few_clients;
      entries = subst (AreKeptEntries c.self.inside.moment (last + 1)) (sym c.push_reserved.ensures.items) all;
      names = c.link.ensures.linked ∙ ap (linked name (last + 1)) kept.names ∙ pushed-is old _ entry name (last + 1) c.push_reserved.ensures.items called next;
    }

pub link-requires-clause-spare_place : goal.link-requires-clause-spare_place
link-requires-clause-spare_place c =
    let few : length c.self.inside.names ≤ length c.self.inside.entries.items = subst (λ table. length table ≤ length c.self.inside.entries.items) (sym c.self.invariant.names) (length-names_of c.self.inside.entries.items) in
    omega (arith, few, ap (λ (R : RecordState). length R.entries) c.self.view_is, c.requires.room.room)

pub link-requires-clause-absent : goal.link-requires-clause-absent
link-requires-clause-absent c =
    subst (λ table. found c.args.ask.name table ≡ None) (sym c.self.invariant.names) (absent-name c.args.ask.name c.self.inside.entries.items (absent_in c))
