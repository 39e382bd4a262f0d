-- A client's call that is dead stays so behind each label: it is not live, also where its client enters again.
use Rattle.std.proofs.Common.{◌≡◌, ◌<◌, ◌≤◌, ℕ, inl, inr, List, Option, Some, None, true, false, cond, not, ◌==◌, refl, sym, ap, subst, ◌∙◌, arith}
use Rattle.std.proofs.lemmas.Bool.{eqb-true, lt-ltb}
use Rattle.std.proofs.lemmas.Option.{same_Some}
use Rattle.ckpt_types.specs.declared.answers.Outcome.{Outcome}
use Rattle.ckpt_types.specs.declared.identities.ActorName.{ActorName}
use Rattle.ckpt_types.specs.declared.identities.ActorName.TheVariants.{Client, Node}
use Rattle.ckpt_types.specs.declared.identities.CallId.{CallId}
use Rattle.ckpt_types.specs.declared.identities.Who.{Who}
use Rattle.ckpt_types.specs.Asks.{MayAsk, asked}
use Rattle.ckpt_types.specs.Asks as asks
use Rattle.ckpt_types.specs.OpWord.{stepped_as, word_of_op}
use Rattle.node_msgs.specs.declared.details.Details.{Details}
use Rattle.node_msgs.specs.declared.steps.StepReply.TheVariants as words
use Rattle.node_msgs.specs.declared.steps.Verb.TheVariants as verbs
use Rattle.run_labels.specs.declared.labels.Label.{Label}
use Rattle.run_labels.specs.declared.labels.Label.TheVariants as labels
use Rattle.cluster_record.specs.declared.clients.LiveClient.{LiveClient}
use Rattle.cluster_record.specs.Calls.{IsClient, client_of, left, number_of}
use Rattle.cluster_record.specs.Places.{find_key}
use Rattle.cluster_record.specs.RecordState.{RecordState, client_key, is_live, is_live_from}
use Rattle.ckpt_machine.specs.After.{after, call_begun, changed, kept_behind, step_of}
use Rattle.ckpt_machine.specs.Dead.{IsDead, is_enter}
use Rattle.ckpt_machine.specs.Due.{IsDue, Told, driver_of}
use Rattle.ckpt_machine.specs.Guards.{Allowed, Row}
use Rattle.ckpt_machine.specs.Invariant.{Invariant}
use Rattle.ckpt_machine.specs.Machine.{Machine, CallState, who}
use Rattle.ckpt_machine.proofs.Askers.{asker_client}
use Rattle.ckpt_machine.proofs.BegunOnce.{next_after}
use Rattle.ckpt_machine.proofs.Copying.{after_pull, after_put}
use Rattle.ckpt_machine.proofs.Dropped.{held_as}
use Rattle.ckpt_machine.proofs.EndedTables.{client_by_number}
use Rattle.ckpt_machine.proofs.EntryLists.{find_key-push, find_key-without}
use Rattle.ckpt_machine.proofs.FailedCalls.{IsDead-then}
use Rattle.ckpt_machine.proofs.Histories.{HasHistory, follows}
use Rattle.ckpt_machine.proofs.Lives.{asks_enter, state_enters, steps_enter}
use Rattle.ckpt_machine.proofs.Quiet.{IsQuiet, quiet}
use Rattle.ckpt_machine.proofs.SameClients.{clients_hold}
use Rattle.ckpt_machine.proofs.Starting.{begun_as, first_kept}
use Rattle.ckpt_machine.proofs.Sync.{left_is}
use Rattle.ckpt_machine.proofs.Whose.{put_who-cases}
use Rattle.ckpt_types.proofs.Options.{none_of}

-- among these clients there is none by which the call is live
abbrev IsGoneFrom : CallId → List LiveClient → Type 0
IsGoneFrom c clients = is_live_from (find_key client_key (client_of c) clients) c.number ≡ false

-- a client's call is live by its client alone
live_by_client : (R : RecordState) (c : CallId) → IsClient c.actor → is_live R c ≡ is_live_from (find_key client_key (client_of c) R.clients) c.number
live_by_client R c client = by_actor c.actor c.number client
  where
    by_actor : (a : ActorName) (n : ℕ) → IsClient a → is_live R (record { actor = a; number = n }) ≡ is_live_from (find_key client_key (number_of a) R.clients) n
    by_actor (Client d) n client = refl
    by_actor (Node r) n client = absurd client

module _ (m : Machine) (inv : Invariant m) (history : HasHistory m) (c : CallId) (client : IsClient c.actor) (dead : IsDead m c) where
  gone : IsGoneFrom c m.cluster.clients
  gone = sym (live_by_client m.cluster c client) ∙ dead.gone

  -- it is dead where it is in these, and where no Initialize has come into hand but with a higher number
  dead_in : (n : Machine) → m.next c.actor ≤ n.next c.actor → IsGoneFrom c n.cluster.clients → ((w : Who) (z : CallState) → n.in_hand w ≡ Some z → z.call.actor ≡ c.actor → is_enter (driver_of z) ≡ true → c.number < z.call.number) → IsDead n c
  dead_in n next gone_then higher = record {
    begun = (let begun = dead.begun in omega (arith, begun, next));
    gone = live_by_client n.cluster c client ∙ gone_then;
    before = higher;
  }

  -- ---- a step

  module _ (s : CallState) (held : m.in_hand (who s) ≡ Some s) (end : Option Outcome) (details : Details) where
    -- its client enters by a call of a higher number
    entered_gone : (r : ℕ) → Row m s verbs.Enter (record { verb = verbs.Enter; ckpt = None; node = Some r; reply = words.Ok; end = end; details = details }) → IsGoneFrom c (changed m s verbs.Enter None (Some r) words.Ok).cluster.clients
    entered_gone r row =
        let (version, callbacks, is, enters) = row.0 in
        let hand = inv.holds.hands (who s) s held in
        let new : LiveClient = record { client = client_of s.call; node = r; incarnation = _; initialize = s.call.number } in
        let own : IsClient s.call.actor = asker_client s.call.actor (asks.Enter r version callbacks) (subst (MayAsk s.call.actor) is hand.asker) (λ copies. copies) in
        let entering : is_enter (driver_of s) ≡ true = state_enters s hand.driven ∙ ap asks_enter is in
        ap (λ o. is_live_from o c.number) (find_key-push client_key (client_of c) m.cluster.clients new (none_of (find_key client_key (client_of s.call) m.cluster.clients) enters.0.not_live))
        ∙ elim (client_of c == client_of s.call) as (λ b. (client_of c == client_of s.call) ≡ b → is_live_from (cond b (Some new) (find_key client_key (client_of c) m.cluster.clients)) c.number ≡ false) [
          | true ↦ λ same. (
              let actor : s.call.actor ≡ c.actor = client_by_number s.call.actor own ∙ ap Client (sym (eqb-true (client_of c) (client_of s.call) same)) ∙ sym (client_by_number c.actor client) in
              ap not (lt-ltb c.number s.call.number (dead.before (who s) s held actor entering)))
          | false ↦ λ other. gone
        ] refl

    -- or leaves
    left_gone : (j q : Option ℕ) → Row m s verbs.Leave (record { verb = verbs.Leave; ckpt = j; node = q; reply = words.Ok; end = end; details = details }) → IsGoneFrom c (changed m s verbs.Leave j q words.Ok).cluster.clients
    left_gone j q row =
        ap (λ o. is_live_from o c.number) (find_key-without client_key (client_of s.call) (client_of c) m.cluster.clients)
        ∙ elim (client_of c == client_of s.call) as (λ b. is_live_from (cond b None (find_key client_key (client_of c) m.cluster.clients)) c.number ≡ false) [ true ↦ refl | false ↦ gone ]

  -- ---- any label

  -- behind one by which no call begins or takes a step
  left_dead : (l : Label) → IsQuiet l → IsDue m l → IsGoneFrom c (after m l).cluster.clients → IsDead (after m l) c
  left_dead l still due gone_then =
      let leaves = quiet m inv l still due in
      let next : (after m l).next c.actor ≡ m.next c.actor = ap (λ (f : ActorName → ℕ). f c.actor) leaves.next in
      dead_in (after m l) (omega (arith, next)) gone_then (λ w z at actor enters. dead.before w z (leaves.held w z at) actor enters)

  -- THE LAW
  pub dead_after : (l : Label) → Allowed m l → IsDue m l → IsDead (after m l) c
  dead_after (labels.Began call op end details) allowed due =
      let begun : Option CallState = call_begun end call op (first_kept m call op) in
      dead_in (after m (labels.Began call op end details)) (next_after m (labels.Began call op end details) inv history allowed due c.actor) gone (λ w z at actor enters. elim (put_who-cases m.in_hand (stepped_as call (word_of_op op)) begun w z at) [
        | inl own ↦ (
            let (d, driven, same) = begun_as end call op (first_kept m call op) z own.1 in
            let is : call ≡ z.call = ap (λ (z : CallState). z.call) same in
            let number : z.call.number ≡ m.next c.actor = subst (λ (c : CallId). c.number ≡ m.next c.actor) is due.number ∙ ap m.next actor in
            let below = dead.begun in
            omega (arith, number, below))
        | inr other ↦ dead.before w z other.1 actor enters
      ])
  dead_after (labels.Stepped call op verb k r reply end details) allowed due =
      let l : Label = labels.Stepped call op verb k r reply end details in
      let s = due.state in
      let held : m.in_hand (who s) ≡ Some s = held_as m call op s due.in_hand due.call_is due.word in
      let state : allowed.state ≡ s = same_Some allowed.state s (sym allowed.in_hand ∙ due.in_hand) in
      let t : Told = record { verb = verb; ckpt = k; node = r; reply = reply; end = end; details = details } in
      let row : Row m s verb t = subst (λ z. Row m z verb t) state allowed.row in
      let then = follows m inv history s held t row in
      let n : Machine = changed m s verb k r reply in
      let behind : CallState = kept_behind m s n.cluster verb k r reply in
      let step_is : after m l ≡ step_of m (Some s) verb k r reply end = ap (λ o. step_of m o verb k r reply end) due.in_hand in
      dead_in (after m l) (next_after m l inv history allowed due c.actor)
      (subst (λ (n : Machine). IsGoneFrom c n.cluster.clients) (sym step_is) (clients_hold m s (IsGoneFrom c) gone end details (entered_gone s held end details) (left_gone s held end details) verb k r reply row))
      (λ w z at actor enters. elim (put_who-cases n.in_hand (who s) (left end behind) w z (ap (λ (n : Machine). n.in_hand w) (sym step_is) ∙ at)) [
        | inl own ↦ (
            let same : behind ≡ z = left_is end behind z own.1 in
            let entering : is_enter (driver_of s) ≡ true = steps_enter s.begun s.steps ∙ sym (steps_enter s.begun behind.steps) ∙ ap (λ (z : CallState). is_enter (driver_of z)) same ∙ enters in
            subst (λ (z : CallState). c.number < z.call.number) same (dead.before (who s) s held (ap (λ (z : CallState). z.call.actor) same ∙ actor) entering))
        | inr other ↦ dead.before w z (then.in_hand w z other.1) actor enters
      ])
  dead_after (labels.Word by word said) allowed due = left_dead (labels.Word by word said) tt due gone
  dead_after (labels.Nodes n) allowed due = left_dead (labels.Nodes n) tt due gone
  dead_after (labels.Moved t) allowed due = left_dead (labels.Moved t) tt due gone
  dead_after (labels.Failed r true) allowed due = IsDead-then m inv.shapes inv.holds r c dead
  dead_after (labels.Failed r false) allowed due = left_dead (labels.Failed r false) tt due gone
  dead_after (labels.Joined r (Some incarnation)) allowed due = left_dead (labels.Joined r (Some incarnation)) tt due gone
  dead_after (labels.Joined r None) allowed due = left_dead (labels.Joined r None) tt due gone
  dead_after (labels.Shown k replicas) allowed due = left_dead (labels.Shown k replicas) tt due gone
  dead_after (labels.Pulled k reply) allowed due = left_dead (labels.Pulled k reply) tt due (after_pull (λ (n : Machine). IsGoneFrom c n.cluster.clients) m k reply due gone (λ x from none. gone))
  dead_after (labels.Put k r reply) allowed due = left_dead (labels.Put k r reply) tt due (after_put (λ (n : Machine). IsGoneFrom c n.cluster.clients) m k r reply gone (λ z x copied on. gone))
