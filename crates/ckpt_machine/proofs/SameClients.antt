-- A step changes the clients where one enters or leaves, and no other does. So it leaves each client as it was that waits for a call in hand, which neither enters nor leaves: it does so by no other call meanwhile.
use Rattle.std.proofs.Common.{◌≡◌, ℕ, List, Option, Some, None, Bool, true, false, cond, ◌==◌, refl, sym, ap, subst, ◌∙◌}
use Rattle.std.proofs.lemmas.Bool.{eqb-true}
use Rattle.ckpt_types.specs.declared.answers.Outcome.{Outcome}
use Rattle.ckpt_types.specs.declared.identities.ActorName.TheVariants.{Client}
use Rattle.ckpt_types.specs.declared.identities.Who.TheVariants.{Actor}
use Rattle.ckpt_types.specs.declared.calls.CallbackSet.{CallbackSet}
use Rattle.ckpt_types.specs.declared.calls.Version.{Version}
use Rattle.ckpt_types.specs.declared.update.Update.{Update}
use Rattle.ckpt_types.specs.Asks.{Ask, MayAsk, asked, is_async_ask}
use Rattle.ckpt_types.specs.Asks as asks
use Rattle.node_msgs.specs.declared.details.Details.{Details}
use Rattle.node_msgs.specs.declared.steps.StepReply.{StepReply}
use Rattle.node_msgs.specs.declared.steps.StepReply.TheVariants as words
use Rattle.node_msgs.specs.declared.steps.Verb.{Verb}
use Rattle.node_msgs.specs.declared.steps.Verb.TheVariants as verbs
use Rattle.cluster_record.specs.declared.clients.LiveClient.{LiveClient}
use Rattle.cluster_record.specs.Calls.{IsClient, client_of}
use Rattle.cluster_record.specs.Makings.{making_of}
use Rattle.cluster_record.specs.Places.{find_key}
use Rattle.cluster_record.specs.RecordState.{client_key}
use Rattle.ckpt_machine.specs.Guards.{AtNone, Row}
use Rattle.ckpt_machine.specs.Invariant.{Invariant}
use Rattle.ckpt_machine.specs.Machine.{Machine, ReplicaState, CallState, who}
use Rattle.ckpt_machine.specs.After.{created_for, retained_for, without_making, change_replica, changed, on_ok, on_look, at_some}
use Rattle.ckpt_machine.specs.Due.{Told}
use Rattle.ckpt_machine.proofs.Askers.{IsCopyAsk, asker_client}
use Rattle.ckpt_machine.proofs.AsyncNames.{own_name}
use Rattle.ckpt_machine.proofs.EndedTables.{client_by_number}
use Rattle.ckpt_machine.proofs.EntryLists.{find_key-push, find_key-without}
use Rattle.ckpt_machine.proofs.Whose.{one_state}
use Rattle.ckpt_types.proofs.Options.{none_of}

-- what a row says that names neither a checkpoint nor a node
said_alone : (j q : Option ℕ) (P : Type 0) → AtNone j q P → P
said_alone None None P p = p
said_alone (Some j) q P p = absurd p
said_alone None (Some q) P p = absurd p

-- ---- what holds of the clients

module _ (m : Machine) (s : CallState) (P : List LiveClient → Type 0) (before : P m.cluster.clients) where
  -- it holds of those of this machine
  abbrev Holds : Machine → Type 0
  Holds n = P n.cluster.clients

  ok_holds : (reply : StepReply) (n : Machine) → Holds n → Holds (on_ok reply m n)
  ok_holds words.Ok n holds = holds
  ok_holds reply n holds = before

  one_holds : (j : Option ℕ) (change : ℕ → Machine) → ((j : ℕ) → Holds (change j)) → Holds (at_some j m change)
  one_holds None change holds = before
  one_holds (Some j) change holds = holds j

  both_hold : (j q : Option ℕ) (change : ℕ → ℕ → Machine) → ((j q : ℕ) → Holds (change j q)) → Holds (at_some j m (λ j. at_some q m (change j)))
  both_hold j q change holds = one_holds j _ (λ j. one_holds q (change j) (holds j))

  look_holds : (reply : StepReply) (done refused : Machine) → Holds done → Holds refused → Holds (on_look reply m done refused)
  look_holds words.Done done refused after_done after_refused = after_done
  look_holds words.Refused done refused after_done after_refused = after_refused
  look_holds reply done refused after_done after_refused = before

  replica_holds : (n : Machine) → Holds n → (k r : ℕ) (o : Option ReplicaState) (change : ReplicaState → ReplicaState) → Holds (change_replica n k r o change)
  replica_holds n holds k r None change = holds
  replica_holds n holds k r (Some x) change = holds

  replicas_hold : (j q : Option ℕ) (reply : StepReply) (change : ℕ → ReplicaState → ReplicaState) → Holds (on_ok reply m (at_some j m (λ k. at_some q m (λ r. change_replica m k r (m.replicas k r) (change k)))))
  replicas_hold j q reply change = ok_holds reply _ (both_hold j q _ (λ k r. replica_holds m before k r (m.replicas k r) (change k)))

  created_holds : (ask : Ask) → P (created_for s.call ask m.cluster).clients
  created_holds (asks.Open place name flags timeout None) = before
  created_holds (asks.Open place name flags timeout (Some a)) = before
  created_holds ask = before

  retained_holds : (ask : Ask) (j : ℕ) → P (retained_for ask j m.cluster).clients
  retained_holds (asks.Retain place duration) j = before
  retained_holds ask j = before

  making_holds : (j : Option ℕ) → Holds (without_making j m)
  making_holds None = before
  making_holds (Some j) = before

  module _ (end : Option Outcome) (details : Details)
      (entered : (r : ℕ) → Row m s verbs.Enter (record { verb = verbs.Enter; ckpt = None; node = Some r; reply = words.Ok; end = end; details = details }) → Holds (changed m s verbs.Enter None (Some r) words.Ok))
      (gone : (j q : Option ℕ) → Row m s verbs.Leave (record { verb = verbs.Leave; ckpt = j; node = q; reply = words.Ok; end = end; details = details }) → Holds (changed m s verbs.Leave j q words.Ok)) where
    -- behind any step that is allowed, if it does where a client enters or leaves
    pub clients_hold : (verb : Verb) (j q : Option ℕ) (reply : StepReply) → Row m s verb (record { verb = verb; ckpt = j; node = q; reply = reply; end = end; details = details }) → Holds (changed m s verb j q reply)
    clients_hold verbs.Enter None (Some r) words.Ok row = entered r row
    clients_hold verbs.Enter None None words.Ok row = absurd row.0
    clients_hold verbs.Enter (Some j) q words.Ok row = absurd row.0
    clients_hold verbs.Enter j q reply row = before
    clients_hold verbs.Leave j q words.Ok row = gone j q row
    clients_hold verbs.Leave j q reply row = before
    clients_hold verbs.Create j q reply row = ok_holds reply _ (created_holds (asked s.op))
    clients_hold verbs.Reserve j q reply row = ok_holds reply _ (both_hold j q _ (λ k r. before))
    clients_hold verbs.Finish j q reply row = ok_holds reply _ (one_holds j _ (λ k. before))
    clients_hold verbs.Undo j q reply row = ok_holds reply _ (one_holds j _ (λ k. before))
    clients_hold verbs.Open j q reply row = ok_holds reply _ (one_holds j _ (λ k. before))
    clients_hold verbs.Close j q reply row = ok_holds reply _ (one_holds j _ (λ k. before))
    clients_hold verbs.Unlink j q reply row = ok_holds reply _ (one_holds j _ (λ k. before))
    clients_hold verbs.Retain j q reply row = ok_holds reply _ (one_holds j _ (λ k. retained_holds (asked s.op) k))
    clients_hold verbs.Stage j q reply row = replicas_hold j q reply _
    clients_hold verbs.Commit j q reply row = replicas_hold j q reply _
    clients_hold verbs.Claim j q reply row = replicas_hold j q reply _
    clients_hold verbs.Withdraw j q reply row = replicas_hold j q reply _
    clients_hold verbs.Apply j q reply row = replicas_hold j q reply _
    clients_hold verbs.Mark j q reply row = replicas_hold j q reply _
    clients_hold verbs.Element j q reply row = replicas_hold j q reply _
    clients_hold verbs.Unmark j q reply row = replicas_hold j q reply _
    clients_hold verbs.Install j q reply row = replicas_hold j q reply _
    clients_hold verbs.Iter j q reply row = ok_holds reply _ (both_hold j q _ (λ k r. before))
    clients_hold verbs.Next j q reply row = ok_holds reply _ (both_hold j q _ (λ k r. before))
    clients_hold verbs.Hold j q reply row = ok_holds reply _ (one_holds j _ (λ k. before))
    clients_hold verbs.Activate j q reply row = ok_holds reply _ (both_hold j q _ (λ k r. replica_holds _ before k r _ _))
    clients_hold verbs.Complete j q reply row = ok_holds reply _ (both_hold j q _ (λ k r. before))
    clients_hold verbs.Look j q reply row = look_holds reply _ _ before (making_holds (making_of s.call m.cluster))
    clients_hold verb j q reply row = before

-- ---- a client that waits

-- its client waits for it, and it neither enters nor leaves
pub record IsAwaited (ask : Ask) : Type 0 where
  pub plain : is_async_ask ask ≡ false
  pub stays : (version : Version) (callbacks : CallbackSet) (r : ℕ) → ask ≡ asks.Enter r version callbacks → ⊥
  pub remains : ask ≡ asks.Leave → ⊥
  pub of_client : IsCopyAsk ask → ⊥

pub awaits_setting : (place : ℕ) → IsAwaited (asks.SetActive place)
awaits_setting place = record { plain = refl; stays = λ version callbacks r same. cc same; remains = λ same. cc same; of_client = λ copies. copies }

pub awaits_change : (place : ℕ) (update : Update) → IsAwaited (asks.Change place update)
awaits_change place update = record { plain = refl; stays = λ version callbacks r same. cc same; remains = λ same. cc same; of_client = λ copies. copies }

module _ (m : Machine) (inv : Invariant m) (s : CallState) (held : m.in_hand (who s) ≡ Some s) (z : CallState) (at : m.in_hand (who z) ≡ Some z) (ask : Ask) (asks_is : asked z.op ≡ ask) (awaited : IsAwaited ask) where
  -- its client
  abbrev c : ℕ
  c = client_of z.call

  -- a call of the same client for which this waits is the same one
  apart : (other : Ask) → asked s.op ≡ other → is_async_ask other ≡ false → (IsCopyAsk other → ⊥) → (ask ≡ other → ⊥) → (c == client_of s.call) ≡ false
  apart its is plain client other = by_test (c == client_of s.call) refl
    where
      by_test : (b : Bool) → (c == client_of s.call) ≡ b → (c == client_of s.call) ≡ false
      by_test false no_other = no_other
      by_test true same =
          let own : IsClient z.call.actor = asker_client z.call.actor ask (subst (MayAsk z.call.actor) asks_is (inv.holds.hands (who z) z at).asker) awaited.of_client in
          let others : IsClient s.call.actor = asker_client s.call.actor its (subst (MayAsk s.call.actor) is (inv.holds.hands (who s) s held).asker) client in
          let actor = client_by_number z.call.actor own ∙ ap Client (eqb-true c (client_of s.call) same) ∙ sym (client_by_number s.call.actor others) in
          let name : who z ≡ who s = own_name z (ap is_async_ask asks_is ∙ awaited.plain) ∙ ap Actor actor ∙ sym (own_name s (ap is_async_ask is ∙ plain)) in
          let state : z ≡ s = one_state m.in_hand (who z) (who s) z s at held name in
          absurd (other (sym asks_is ∙ ap (λ (z : CallState). asked z.op) state ∙ is))

  -- its client is as it was
  abbrev Stays : Machine → Type 0
  Stays n = find_key client_key c n.cluster.clients ≡ find_key client_key c m.cluster.clients

  module _ (end : Option Outcome) (details : Details) where
    -- the parts of the step
    abbrev t_of : Verb → Option ℕ → Option ℕ → StepReply → Told
    t_of verb j q reply = record { verb = verb; ckpt = j; node = q; reply = reply; end = end; details = details }

    -- another client enters
    entered_stays : (r : ℕ) → Row m s verbs.Enter (t_of verbs.Enter None (Some r) words.Ok) → Stays (changed m s verbs.Enter None (Some r) words.Ok)
    entered_stays r row =
        let (version, callbacks, is, enters) = row.0 in
        let new : LiveClient = record { client = client_of s.call; node = r; incarnation = _; initialize = s.call.number } in
        find_key-push client_key c m.cluster.clients new (none_of (find_key client_key (client_of s.call) m.cluster.clients) enters.0.not_live)
        ∙ ap (λ b. cond b (Some new) (find_key client_key c m.cluster.clients)) (apart (asks.Enter r version callbacks) is refl (λ copies. copies) (λ same. awaited.stays version callbacks r same))

    -- or leaves
    left_stays : (j q : Option ℕ) → Row m s verbs.Leave (t_of verbs.Leave j q words.Ok) → Stays (changed m s verbs.Leave j q words.Ok)
    left_stays j q row =
        find_key-without client_key (client_of s.call) c m.cluster.clients
        ∙ ap (λ b. cond b None (find_key client_key c m.cluster.clients)) (apart asks.Leave (said_alone j q _ row.0).0 refl (λ copies. copies) awaited.remains)

    -- behind any step that is allowed
    pub client_stays : (verb : Verb) (j q : Option ℕ) (reply : StepReply) → Row m s verb (t_of verb j q reply) → Stays (changed m s verb j q reply)
    client_stays verb j q reply row = clients_hold m s (λ clients. find_key client_key c clients ≡ find_key client_key c m.cluster.clients) refl end details entered_stays left_stays verb j q reply row
