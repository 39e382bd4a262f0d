-- A step that changes nothing but the call that is told of it.
use Rattle.std.proofs.Common.{List, ◌≡◌, ℕ, ◌∷◌, Bool, true, false, cond, refl, ap, ◌∙◌}
use Rattle.std.specs.Prelude.{Option, Some, None}
use Rattle.ckpt_types.specs.declared.answers.Outcome.{Outcome}
use Rattle.ckpt_types.specs.declared.identities.ActorName.{ActorName}
use Rattle.ckpt_types.specs.declared.identities.ActorName.TheVariants.{Client}
use Rattle.ckpt_types.specs.declared.identities.CallId.{CallId}
use Rattle.ckpt_types.specs.declared.identities.Who.TheVariants.{Actor, Call}
use Rattle.ckpt_types.specs.Asks.{MayAsk, asked}
use Rattle.ckpt_types.specs.OpWord.{is_async, word_of_op}
use Rattle.call_dispatch.specs.PendingCalls.{PendingCalls, ended_in}
use Rattle.client_handles.specs.ClientState.{ClientState}
use Rattle.client_calls.specs.declared.in_hand.InHand.{InHand}
use Rattle.world_core.specs.declared.world.World.{World}
use Rattle.cluster_record.specs.Calls.{client_of, put_actor, left}
use Rattle.cluster_record.specs.StepDone.{StepDone}
use Rattle.snap_copy.specs.Snapshots as copies
use Rattle.ckpt_machine.specs.Machine.{Machine, CallState, Effect, Snapshot, who}
use Rattle.ckpt_machine.specs.After.{ended_calls, handle_opened, left_in_hand, stepped, with_pending}
use Rattle.ckpt_machine.specs.Whose.{put_who}
use Rattle.ckpt_machine.proofs.AsyncNames.{async_named}
use Rattle.ckpt_machine.proofs.ByActor.{put_actor-same}
use Rattle.world_core.specs.Alone.{ended_at, ended_hands, ended_tables}
use Rattle.client_calls.specs.TableEnds.{table_ended}
use Rattle.world_core.specs.TablesState.{kept_by, pending_by}
use Rattle.client_calls.specs.TableState.{kept_in, pending_in}
use Rattle.world_core.proofs.TableFields.{calls_are}
use Rattle.client_calls.specs.HandSteps.{hand_taken}
use Rattle.ckpt_machine.specs.Driving.{Kept, driver_taken}
use Rattle.world_core.specs.Shows.{HistoryFits, History, machine_of, KeepsMade}
use Rattle.world_core.proofs.Held.{async_client, beginning_of, client_number, state_in, with_made, IsCopyBehind, left_shown, left_fits, hand_fits}
use Rattle.world_core.specs.HandsState.{HandsState, hand_at, set_at}
use Rattle.client_calls.specs.Names.{name_of}
use Rattle.ckpt_types.specs.declared.identities.Who.{Who}
use Rattle.world_core.proofs.Maps.{HasUnder, hand_left, told_as, put_hand, fits_hand}

-- the history with one step more of the call of a name, with what it keeps then of its checkpoint, what its commits have created, and the effects that it has pulled
abbrev pub with_step : History → Who → Kept → StepDone → Option (List ℕ) → Option (List Effect) → History
with_step h v keeps done made pulled = told_as h v (beginning_of h v keeps) (done ∷ h.steps v) made pulled

-- the world in which the call of a name is told of a step, which left this copy in its hand, and this of what a creation has made; where it has ended an asynchronous call, its client is to be told
abbrev pub told_world : World → Who → InHand → Option copies.Snapshot → Option (List (List ℕ)) → StepDone → Option Outcome → World
told_world w v hand copy kept done end = ended_at v end (record w { hands = set_at w.hands v (left end (hand_taken done (with_made hand copy kept))) })

-- ---- what is told of an end

-- a call that is in hand under its actor's name is no asynchronous one
plain_named : (s : CallState) (a : ActorName) → who s ≡ Actor a → is_async (word_of_op s.op) ≡ false
plain_named s a name = by_word (is_async (word_of_op s.op)) name where
  by_word : (b : Bool) → cond b (Call s.call) (Actor s.call.actor) ≡ Actor a → b ≡ false
  by_word false name = refl
  by_word true name = absurd (cc name)

-- a call that goes on, or is no asynchronous one, leaves those of its client as they are
plain_calls : (s : CallState) (end : Option Outcome) (t : ClientState) (p : PendingCalls) → is_async (word_of_op s.op) ≡ false → ended_calls s end t p ≡ p
plain_calls s None t p plain = refl
plain_calls s (Some end) t p plain = ap (λ b. cond b (ended_in s.call (handle_opened end t) end p) p) plain

same_calls : (m : Machine) (a : ActorName) (x : PendingCalls) → x ≡ m.pending a → record m { pending = put_actor m.pending a x } ≡ m
same_calls m a x same = λ i. record m { pending = λ b. put_actor-same m.pending a x same b i }

-- what the machine makes of an end is what the world does
module _ (w : World) (h : History) (s : CallState) where
  abbrev its : Machine
  its = machine_of w h

  pub ended_is : (v : Who) (end : Option Outcome) → who s ≡ v → MayAsk s.call.actor (asked s.op) → with_pending s.call.actor (ended_calls s end (its.tables s.call.actor)) its ≡ machine_of (record w { tables = ended_tables v end w.tables }) h
  ended_is (Actor a) end name asker = same_calls its s.call.actor (ended_calls s end (its.tables s.call.actor) (its.pending s.call.actor)) (plain_calls s end (its.tables s.call.actor) (its.pending s.call.actor) (plain_named s a name))
  ended_is (Call call) None name asker = same_calls its s.call.actor (its.pending s.call.actor) refl
  ended_is (Call call) (Some end) name asker =
      let (async, same) = async_named s call name in
      let c = client_of call in
      let actor : s.call.actor ≡ Client c = client_number s.call.actor (async_client s call asker name) ∙ ap (λ (z : CallId). Client (client_of z)) same in
      let gone : ended_calls s (Some end) (its.tables s.call.actor) (its.pending s.call.actor) ≡ ended_in call (handle_opened end (kept_by w.tables c)) end (pending_by w.tables c)
      = ap (λ b. cond b (ended_in s.call (handle_opened end (its.tables s.call.actor)) end (its.pending s.call.actor)) (its.pending s.call.actor)) async
      ∙ (λ i. ended_in (same i) (handle_opened end (its.tables (actor i))) end (its.pending (actor i))) in
      (λ i. record its { pending = put_actor its.pending (actor i) (gone i) })
      ∙ calls_are w h c (ended_in call (handle_opened end (kept_by w.tables c)) end (pending_by w.tables c)) (table_ended call end) (λ t. record { next = refl; client = refl })
      (λ table. ap (λ o. ended_in call (handle_opened end (kept_in o)) end (pending_in o)) table) (λ t table. ap (λ o. ended_in call (handle_opened end (kept_in o)) end (pending_in o)) table)

module _ (w : World) (h : History) (v : Who) (hand : InHand) (keeps : Kept) (done : StepDone) (made : Option (List ℕ)) (shown : Option Snapshot) (pulled : Option (List Effect)) (copy : Option copies.Snapshot) (kept : Option (List (List ℕ))) (end : Option Outcome) (name : name_of hand ≡ v) (asker : MayAsk hand.call.actor (asked hand.op)) (fits : HistoryFits w h) (held : hand_at w.hands v ≡ Some hand) (is : IsCopyBehind keeps hand shown pulled copy) where
  abbrev m : Machine
  m = machine_of w h

  -- the call as the machine has it then
  abbrev told : CallState
  told = record (state_in h v hand) { kept = keeps; steps = done ∷ h.steps v; created = made; snapshot = shown }

  abbrev hands_told : HandsState
  hands_told = ended_hands v end (set_at w.hands v (left end (hand_taken done (with_made hand copy kept))))

  under : HasUnder w.hands v (left end (hand_taken done (with_made hand copy kept))) hands_told
  under = hand_left w.hands v hand (hand_taken done (with_made hand copy kept)) end held refl

  in_hand_told : left_in_hand m told end ≡ machine_of (record w { hands = hands_told }) (with_step h v keeps done made pulled)
  in_hand_told =
      let hands = put_hand h w.hands hands_told v (left end (hand_taken done (with_made hand copy kept))) under (beginning_of h v keeps) (done ∷ h.steps v) made pulled in
      (λ i. record m { in_hand = put_who m.in_hand (name i) (left_shown h v hand keeps done made shown pulled copy kept end is.same i) })
      ∙ (λ i. record (machine_of (record w { hands = hands_told }) (with_step h v keeps done made pulled)) { in_hand = λ u. hands u i })

  pub told_is : stepped m told end ≡ machine_of (told_world w v hand copy kept done end) (with_step h v keeps done made pulled)
  told_is = ap (with_pending hand.call.actor (ended_calls told end (m.tables hand.call.actor))) in_hand_told ∙ ended_is (record w { hands = hands_told }) (with_step h v keeps done made pulled) told v end name asker

  pub told_fits : keeps.room ≡ (h.beginnings v).kept.room → KeepsMade hand.op (driver_taken done hand.driver) made kept → HistoryFits (told_world w v hand copy kept done end) (with_step h v keeps done made pulled)
  told_fits room keeps_made = record {
    replicas = fits.replicas;
    copies = fits.copies;
    hands = fits_hand h w.hands hands_told v (left end (hand_taken done (with_made hand copy kept))) under (beginning_of h v keeps) (done ∷ h.steps v) made pulled (left_fits h v hand keeps done made shown pulled copy kept end is room keeps_made (hand_fits w h v hand held fits)) fits.hands;
  }
