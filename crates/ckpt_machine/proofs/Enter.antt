-- A client becomes live, with any calls of others in hand.
use Rattle.std.proofs.Common.{◌≡◌, ℕ, ◌<◌, ◌≤◌, inl, inr, length, Some, Bool, true, false, cond, not, nat_le, ◌==◌, refl, sym, ap, subst, ◌∙◌}
use Rattle.std.specs.Prelude.{is_some, IfSome, slice_index}
use Rattle.std.proofs.lemmas.Bool.{eqb-true, leb-true, leb-false, lt-ltb}
use Rattle.ckpt_types.specs.declared.ais_error.AisError.TheVariants.{NoResources}
use Rattle.ckpt_types.specs.declared.answers.Cause.TheVariants.{Count}
use Rattle.ckpt_types.specs.declared.answers.Outcome.TheVariants.{Refused}
use Rattle.ckpt_types.specs.declared.identities.ActorName.{ActorName}
use Rattle.ckpt_types.specs.declared.identities.ActorName.TheVariants.{Client, Node}
use Rattle.node_msgs.specs.declared.next.RecordStep.TheVariants as events
use Rattle.node_msgs.specs.declared.next.Next.TheVariants.{Event, End}
use Rattle.cluster_record.specs.declared.clients.LiveClient.{LiveClient}
use Rattle.cluster_record.specs.Calls.{IsClient, same_actor, number_of, client_of}
use Rattle.cluster_record.specs.DueOnce.{Enter, enter_next}
use Rattle.cluster_record.specs.Places.{find_key}
use Rattle.cluster_record.specs.RecordState.{RecordState, client_key, is_live, is_live_from, is_live_client, entered}
use Rattle.ckpt_types.specs.Asks.{asked, is_async_ask}
use Rattle.ckpt_types.specs.OpWord.{is_async, word_of_op}
use Rattle.ckpt_types.specs.declared.identities.Who.{Who}
use Rattle.ckpt_types.specs.declared.identities.Who.TheVariants.{Actor}
use Rattle.ckpt_machine.specs.Drivers as drivers
use Rattle.ckpt_machine.specs.Tables.{registering}
use Rattle.ckpt_machine.specs.Whose.{same_who}
use Rattle.ckpt_machine.proofs.Actors.{same_actor-true}
use Rattle.ckpt_machine.proofs.AsyncCalls.{ended_idle, async_no_enter}
use Rattle.ckpt_machine.proofs.AsyncNames.{own_name}
use Rattle.ckpt_machine.proofs.OpenReady.{client_live}
use Rattle.ckpt_machine.proofs.Whose.{stepped_as-plain, same_who-refl}
use Rattle.ckpt_machine.specs.InHand.{is_enter, IsEnterAt, IsInPlace, IsInHand}
use Rattle.ckpt_machine.specs.Invariant.{IsGoodClient, InvariantIn, Invariant}
use Rattle.ckpt_machine.specs.Machine.{Machine, CallState, who}
use Rattle.ckpt_machine.specs.After.{with_tables, record_step}
use Rattle.ckpt_machine.specs.Due.{Told, IsDone, IsEvent, driver_of}
use Rattle.ckpt_machine.specs.LookGuards.{LookRefused}
use Rattle.ckpt_machine.specs.OpenGuards.{MayEnter}
use Rattle.ckpt_machine.specs.Shape.{Shape}
use Rattle.ckpt_machine.proofs.EndedTables.{live_as, client_by_number, other_number, registering_keeps}
use Rattle.ckpt_machine.proofs.Moment.{IsLaterEntry-refl}
use Rattle.ckpt_machine.proofs.PlainCalls.{is_plain, ending, plain_ends, look_goes, swept_keeps}
use Rattle.ckpt_machine.proofs.DueStep.{Goes}
use Rattle.ckpt_machine.proofs.StepLabels.{IsEvent-told}
use Rattle.ckpt_machine.proofs.EntryLists.{find_key-push}
use Rattle.ckpt_machine.proofs.NodeLists.{is_up-none}
use Rattle.ckpt_types.proofs.Options.{none_of}

module _ (m : Machine) (shapes : ℕ → Shape) (inv : InvariantIn shapes m) (s : CallState) (r : ℕ) (held : m.in_hand (who s) ≡ Some s) (is : driver_of s ≡ drivers.Once (Enter r)) where
  abbrev c : ℕ
  c = client_of s.call

  at_enter : IsEnterAt m s r
  at_enter = subst (λ d. IsInPlace m shapes s d) is (inv.hands (who s) s held).here

  abbrev new : LiveClient
  new = record { client = c; node = r; incarnation = slice_index m.cluster.up r; initialize = s.call.number }

  abbrev R : RecordState
  R = entered c r s.call.number m.cluster

  found_then : (d : ℕ) → find_key client_key d R.clients ≡ cond (d == c) (Some new) (find_key client_key d m.cluster.clients)
  found_then d = find_key-push client_key d m.cluster.clients new (none_of (find_key client_key c m.cluster.clients) at_enter.not_live)

  found_other : (d : ℕ) → (d == c) ≡ false → find_key client_key d R.clients ≡ find_key client_key d m.cluster.clients
  found_other d other = found_then d ∙ ap (λ b. cond b (Some new) (find_key client_key d m.cluster.clients)) other

  -- a dead call is dead still: it becomes live by a call of a higher number
  dead_then : (b : ActorName) (number : ℕ) → is_live m.cluster (record { actor = b; number = number }) ≡ false → (b ≡ Client c → number < s.call.number) → is_live R (record { actor = b; number = number }) ≡ false
  dead_then (Node q) number gone higher = gone
  dead_then (Client d) number gone higher = ap (λ o. is_live_from o number) (found_then d)
      ∙ elim (d == c) as (λ b. (d == c) ≡ b → is_live_from (cond b (Some new) (find_key client_key d m.cluster.clients)) number ≡ false) [
        | true ↦ λ same. let below : number < s.call.number = higher (ap Client (eqb-true d c same)) in ap not (lt-ltb number s.call.number below)
        | false ↦ λ other. gone
      ] refl

  -- a client that is live is another
  not_entering : (a : ActorName) → is_live_client (number_of a) m.cluster ≡ true → (number_of a == c) ≡ false
  not_entering a live = by_test (number_of a == c) refl
    where
      by_test : (b : Bool) → (number_of a == c) ≡ b → (number_of a == c) ≡ false
      by_test false other = other
      by_test true same = absurd (let w : true ≡ false = sym live ∙ ap (λ n. is_live_client n m.cluster) (eqb-true (number_of a) c same) ∙ at_enter.not_live in cc w)

  -- its number was given
  given : s.call.number < m.next (Client c)
  given = subst (λ a. s.call.number < m.next a) (client_by_number s.call.actor at_enter.client) (inv.hands (who s) s held).number

  -- it is no asynchronous call
  plain : is_async_ask (asked s.op) ≡ false
  plain = ap is_async_ask at_enter.asks

  -- a call in hand is another client's: a client that is not live has no asynchronous one
  others_actor : (w : Who) (z : CallState) → same_who w (who s) ≡ false → m.in_hand w ≡ Some z → same_actor z.call.actor s.call.actor ≡ false
  others_actor w z other at = by_actor (same_actor z.call.actor s.call.actor) refl
    where
      was : IsInHand m shapes w z
      was = inv.hands w z at

      by_word : z.call.actor ≡ s.call.actor → (b : Bool) → is_async (word_of_op z.op) ≡ b → ⊥
      by_word same false is_plain_call =
          let name : w ≡ who s = sym was.whose ∙ stepped_as-plain z.call (word_of_op z.op) is_plain_call ∙ ap Actor same ∙ sym (own_name s plain) in
          let it : true ≡ false = sym (same_who-refl (who s)) ∙ ap (λ v. same_who v (who s)) (sym name) ∙ other in
          cc it
      by_word same true async =
          let live = client_live m.cluster z.call (subst IsClient (sym same) at_enter.client) (was.live (async_no_enter m shapes z async (driver_of z) was.here)) in
          let it : true ≡ false = sym live ∙ ap (λ a. is_live_client (number_of a) m.cluster) same ∙ at_enter.not_live in
          cc it

      by_actor : (b : Bool) → same_actor z.call.actor s.call.actor ≡ b → same_actor z.call.actor s.call.actor ≡ false
      by_actor false apart = apart
      by_actor true same = absurd (by_word (same_actor-true z.call.actor s.call.actor same) (is_async (word_of_op z.op)) refl)

  others_client : (w : Who) (z : CallState) → same_who w (who s) ≡ false → m.in_hand w ≡ Some z → IsClient z.call.actor → (client_of z.call == c) ≡ false
  others_client w z other at client = other_number z.call.actor s.call.actor client at_enter.client (others_actor w z other at)

  -- the client is in the record
  entered_keeps : InvariantIn shapes (ending s (record_step (entered c r s.call.number) m))
  entered_keeps = swept_keeps m shapes inv s held (ap (λ d. is_plain d s.snapshot) is) R inv.rises inv.up_to refl refl refl refl (λ k f found. (f, found, IsLaterEntry-refl m.cluster.up f))
      (λ none. absurd (let w : false ≡ true = sym (is_up-none r m.cluster none) ∙ at_enter.up in cc w))
      (λ d. subst (λ o. IfSome o (IsGoodClient m.next R d)) (sym (found_then d)) (elim (d == c) as (λ b. (d == c) ≡ b → IfSome (cond b (Some new) (find_key client_key d m.cluster.clients)) (IsGoodClient m.next R d)) [
        | true ↦ λ same. (subst (λ (n : ℕ). s.call.number < m.next (Client n)) (sym (eqb-true d c same)) given, at_enter.up)
        | false ↦ λ other. inv.clients d
      ] refl))
      (λ d dead. dead_then d.actor d.number dead.gone (λ same. dead.before (who s) s held (client_by_number s.call.actor at_enter.client ∙ sym same) (ap is_enter is)))
      (λ w z other at live. live_as m.cluster R z.call (asked z.op) (inv.hands w z at).asker (λ client. found_other (client_of z.call) (others_client w z other at client)) refl refl ∙ live)
      (λ w z other at client. found_other (client_of z.call) (others_client w z other at client))
      (λ a z k e other at was by. ap is_some was)
      (λ a h among. found_other (number_of a) (not_entering a (inv.handles a h among).live))

  -- the client is live, with its callbacks
  enter_keeps : Invariant (ending s (with_tables s.call.actor (registering (asked s.op)) (record_step (entered c r s.call.number) m)))
  enter_keeps = record { shapes = shapes; holds = registering_keeps (ending s (record_step (entered c r s.call.number) m)) shapes entered_keeps s.call.actor (ended_idle m s plain) (asked s.op) }

  may_enter : length m.cluster.clients < 64 → MayEnter m c r
  may_enter room = record { up = at_enter.up; not_live = at_enter.not_live; few = room }

  -- it becomes live, or is refused memory
  event_goes : (t : Told) → length m.cluster.clients < 64 → IsEvent m s events.Enter t → Goes m s (driver_of s) t
  event_goes t room event = elim (IsEvent-told m s events.Enter t (drivers.Once (Enter r)) event is refl tt) [
    | inl ok ↦ subst (Goes m s (driver_of s)) (sym ok) (record {
      row = ((at_enter.version, at_enter.callbacks, at_enter.asks, (may_enter room, refl)), refl);
      holds = enter_keeps;
      nearer = λ none. absurd (cc none);
    })
    | inr memory ↦ subst (Goes m s (driver_of s)) (sym memory.1) (record {
      row = ((at_enter.version, at_enter.callbacks, at_enter.asks, (may_enter room, refl)), refl);
      holds = record { shapes = shapes; holds = plain_ends m shapes inv s held (ap (λ d. is_plain d s.snapshot) is) };
      nearer = λ none. absurd (cc none);
    })
  ]

  -- with no room for a client it is refused
  full_goes : (t : Told) → 64 ≤ length m.cluster.clients → IsDone m s (End (Refused NoResources (Count 64))) t → Goes m s (driver_of s) t
  full_goes t full done = look_goes m shapes inv s held (ap (λ d. is_plain d s.snapshot) is) NoResources (Count 64) t (subst (λ ask. LookRefused m s ask NoResources (Count 64)) (sym at_enter.asks) (full, refl)) done

  -- the next step of an Initialize
  pub enter_goes : (t : Told) → IsDone m s (enter_next m.cluster) t → Goes m s (driver_of s) t
  enter_goes t done =
      elim (nat_le 64 (length m.cluster.clients)) as (λ b. nat_le 64 (length m.cluster.clients) ≡ b → IsDone m s (cond b (End (Refused NoResources (Count 64))) (Event events.Enter)) t → Goes m s (driver_of s) t) [
        | true ↦ λ full done. full_goes t (leb-true 64 (length m.cluster.clients) full) done
        | false ↦ λ room done. event_goes t (leb-false 64 (length m.cluster.clients) room) done
      ] refl done
