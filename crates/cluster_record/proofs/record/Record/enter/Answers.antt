use Rattle.std.proofs.Common.{◌≡◌, ◌≤◌, ◌<◌, ℕ, false, sym, ap, subst, ◌∙◌, arith, rules}
use Rattle.std.specs.Prelude.{is_some}
use Rattle.ckpt_types.specs.Limits.{clients_max, client_numbers}
use Rattle.cluster_record.specs.Calls.{client_of}
use Rattle.cluster_record.specs.Kept.{AreKeptClients}
use Rattle.cluster_record.specs.Places.{find_key}
use Rattle.cluster_record.specs.RecordState.{RecordState, client_key}
use Rattle.cluster_record.proofs.ClientLaws.{clients-entered, IsClient-number, up_within}
use Rattle.cluster_record.proofs.record.Record.enter.Goals as goal

pub invariant_of-self : goal.invariant_of-self
invariant_of-self c =
    let kept = c.self.invariant in
    let clients = c.self.inside.clients.items in
    let absent : is_some (find_key client_key c.number_of.result clients) ≡ false =
    ap (λ k. is_some (find_key client_key k clients)) c.number_of.ensures ∙ ap (λ (R : RecordState). is_some (find_key client_key (client_of c.args.call) R.clients)) c.self.view_is ∙ c.requires.not_live
    in
    let within : c.number_of.result < client_numbers = subst (λ n. n < client_numbers) (sym c.number_of.ensures) (IsClient-number c.args.call.actor c.requires.client) in
    let entered = clients-entered clients _ kept.clients (record { client = within; node = up_within c.args.node c.args.self.now c.requires.node }) absent in
    record {
      clients_room = subst (λ (n : ℕ). clients_max ≤ n) (sym c.push_reserved.ensures.capacity) kept.clients_room;
      entries_room = kept.entries_room;
      moment = kept.moment;
      clients = subst AreKeptClients (sym c.push_reserved.ensures.items) entered;
      few_clients = grind (arith, c.push_reserved.ensures.len, c.len.ensures, c.if-len-ge-CLIENTS_MAX.false);
      entries = kept.entries;
      names = kept.names;
    }

pub returns-clause-ok : goal.returns-clause-ok
returns-clause-ok c = search rules
