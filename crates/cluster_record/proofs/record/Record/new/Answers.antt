use Rattle.std.proofs.Common.{length, rules, sym, subst, ap, ◌∙◌, arith}
use Rattle.std.specs.Prelude.{pos}
use Rattle.std.proofs.lemmas.List.Elements.{All-nil}
use Rattle.cluster_record.specs.Kept.{IsKeptClient, IsKeptEntry, AreKeptClients}
use Rattle.cluster_record.specs.NamesOf.{names_of}
use Rattle.cluster_record.specs.RecordView.{AreKeptEntries}
use Rattle.cluster_record.proofs.record.Record.new.Goals as goal

pub invariant_of-result : goal.invariant_of-result
invariant_of-result c = record {
  clients_room = c.in_ok-with_capacity.ensures.capacity;
  entries_room = c.in_ok-with_capacity-2.ensures.capacity;
  moment = search rules;
  clients = subst AreKeptClients (sym c.in_ok-with_capacity.ensures.items) (record { each = All-nil IsKeptClient; each_once = search rules });
  few_clients = omega (arith, ap length c.in_ok-with_capacity.ensures.items);
  entries = subst (AreKeptEntries (pos 0) 0) (sym c.in_ok-with_capacity-2.ensures.items) (record { each = All-nil (IsKeptEntry (pos 0)); few = omega arith; order = tt; given = tt; each_once = tt });
  names = c.in_ok-new.ensures ∙ sym (ap names_of c.in_ok-with_capacity-2.ensures.items);
}
