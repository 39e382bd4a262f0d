-- A call that begins: what is kept of asynchronous calls behind that is what the labels tell.
use Rattle.std.proofs.Common.{◌≢◌, ◌≤◌, ◌<◌, ◌+◌, drop, map, cond, refl, sym, ap, subst, ◌∙◌, inl, inr, arith, ◌≡◌, ◌⊎◌, ℕ, Option, Some, None, Bool, true, false}
use Rattle.std.specs.Option.{option_map}
use Rattle.std.specs.Prelude.{Contains}
use Rattle.std.proofs.lemmas.List.Elements.{Contains-push_cases}
use Rattle.ckpt_types.specs.declared.answers.Outcome.{Outcome}
use Rattle.ckpt_types.specs.declared.answers.Outcome.TheVariants.{Done}
use Rattle.ckpt_types.specs.declared.identities.ActorName.{ActorName}
use Rattle.ckpt_types.specs.declared.identities.CallId.{CallId}
use Rattle.ckpt_types.specs.declared.identities.Who.{Who}
use Rattle.ckpt_types.specs.declared.identities.Who.TheVariants.{Actor}
use Rattle.ckpt_types.specs.declared.operation.Op.{Op}
use Rattle.ckpt_types.specs.declared.operation.Op.TheVariants as ops
use Rattle.ckpt_types.specs.Asks as asks
use Rattle.ckpt_types.specs.Asks.{asked, is_async_ask}
use Rattle.ckpt_types.specs.OpWord.{word_of_op, is_async, stepped_as}
use Rattle.node_msgs.specs.declared.details.Details.{Details}
use Rattle.node_msgs.specs.declared.details.Details.TheVariants as beside
use Rattle.run_labels.specs.declared.labels.Label.TheVariants as labels
use Rattle.call_dispatch.specs.PendingCalls.{PendingCalls}
use Rattle.call_dispatch.specs.declared.async_call.AsyncCall.{AsyncCall}
use Rattle.client_handles.specs.ClientState.{ClientState, handle_at, handle_number}
use Rattle.client_handles.specs.declared.handle_view.HandleView.{HandleView}
use Rattle.cluster_record.specs.Calls.{same_call, same_actor}
use Rattle.ckpt_machine.specs.After.{after_beginning, number_of_handle, async_call, call_begun, goes_on, pending_begun}
use Rattle.ckpt_machine.specs.Beginning.{callbacks_told}
use Rattle.ckpt_machine.specs.Callbacks.{Owing, BegunCall, goes_on_as, told_beside, owing_behind}
use Rattle.ckpt_machine.specs.Due.{IsBegun, asked_handle, standing_of}
use Rattle.ckpt_machine.specs.Invariant.{Invariant}
use Rattle.ckpt_machine.specs.Machine.{Machine, CallState}
use Rattle.ckpt_machine.specs.Tables.{ended_at_once}
use Rattle.ckpt_machine.proofs.Actors.{same_actor-true, same_call-false, same_call-true, same_call-refl}
use Rattle.ckpt_machine.proofs.ByActor.{put_actor-here, put_actor-other}
use Rattle.ckpt_machine.proofs.CallsPending.{begun_state}
use Rattle.ckpt_machine.proofs.OwedCalls.{owed_put, IsAskedAs, HasBegunAs, HasBegunIn, Tells, begun_as_still, begun_in_still}
use Rattle.ckpt_machine.proofs.OwedLists.{owed_of, given_left}
use Rattle.ckpt_machine.proofs.Starting.{HasPassed, begun_passed, first_kept, handle_there, live_client}
use Rattle.ckpt_machine.proofs.Whose.{put_who-cases, stepped_as-plain}

-- ---- what a beginning leaves of those that are not dispatched

-- it gives no callback
abbrev pub IsNoDispatch : Op → Type 0
IsNoDispatch (ops.Dispatch flags) = ⊥
IsNoDispatch op = Unit {0}

begun_finished : (end : Option Outcome) (call : CallId) (op : Op) (h : Option HandleView) (p : PendingCalls) → IsNoDispatch op → (pending_begun end call op h p).finished ≡ p.finished
begun_finished None call op h p plain = refl
begun_finished (Some (Done answer)) call (ops.OpenAsync place invocation name flags a) h p plain = refl
begun_finished (Some (Done answer)) call (ops.SyncAsync place invocation) h p plain = refl
begun_finished (Some (Done answer)) call (ops.Dispatch flags) h p plain = absurd plain
begun_finished (Some (Done answer)) call op h p plain = refl
begun_finished (Some end) call op h p plain = refl

-- one that is under way then was so, or is the asynchronous call that begins and goes on
begun_unfinished : (end : Option Outcome) (call : CallId) (op : Op) (h : Option HandleView) (p : PendingCalls) (c : AsyncCall) → Contains (pending_begun end call op h p).unfinished c
    → Contains p.unfinished c ⊎ ((async_call call op h ≡ c) × (is_async (word_of_op op) ≡ true) × (goes_on (word_of_op op) end ≡ true))
begun_unfinished None call op h p c there = inl there
begun_unfinished (Some (Done answer)) call (ops.OpenAsync place invocation name flags a) h p c there = elim (Contains-push_cases p.unfinished (async_call call (ops.OpenAsync place invocation name flags a) h) c there) [
  | inl before ↦ inl before
  | inr new ↦ inr (new, refl, refl)
]
begun_unfinished (Some (Done answer)) call (ops.SyncAsync place invocation) h p c there = elim (Contains-push_cases p.unfinished (async_call call (ops.SyncAsync place invocation) h) c there) [
  | inl before ↦ inl before
  | inr new ↦ inr (new, refl, refl)
]
begun_unfinished (Some (Done answer)) call (ops.Dispatch flags) h p c there = inl there
begun_unfinished (Some (Done answer)) call op h p c there = inl there
begun_unfinished (Some end) call op h p c there = inl there

-- a close ends nothing at its beginning
closed_at_once : (end : Option Outcome) (place : ℕ) (p : PendingCalls) (t : ClientState) → ended_at_once end (asks.Close place) p t ≡ t
closed_at_once None place p t = refl
closed_at_once (Some (Done answer)) place p t = refl
closed_at_once (Some end) place p t = refl

-- the number of a handle that is there
number_there : (o : Option HandleView) (h : HandleView) → o ≡ Some h → option_map handle_number o ≡ Some (number_of_handle o)
number_there None h is = absurd (cc is)
number_there (Some x) h is = refl

-- no callback is told beside it
pub none_told : (end : Option Outcome) (op : Op) (p : PendingCalls) → IsNoDispatch op → callbacks_told end (asked op) p ≡ beside.Nothing
none_told None op p plain = refl
none_told (Some (Done answer)) (ops.Dispatch flags) p plain = absurd plain
none_told (Some (Done answer)) op p plain = refl
none_told (Some end) op p plain = refl

-- what is owed to its client behind a beginning
owed_begun : (call : CallId) (op : Op) (end : Option Outcome) (details : Details) (h : Option HandleView) (p : PendingCalls) → details ≡ callbacks_told end (asked op) p
    → map owed_of (pending_begun end call op h p).finished ≡ drop (told_beside details) (map owed_of p.finished)
owed_begun call (ops.Dispatch flags) None details h p told = ap (λ (d : Details). drop (told_beside d) (map owed_of p.finished)) (sym told)
owed_begun call (ops.Dispatch flags) (Some (Done answer)) details h p told = given_left flags p ∙ ap (λ (d : Details). drop (told_beside d) (map owed_of p.finished)) (sym told)
owed_begun call (ops.Dispatch flags) (Some end) details h p told = ap (λ (d : Details). drop (told_beside d) (map owed_of p.finished)) (sym told)
owed_begun call op end details h p told =
    ap (map owed_of) (begun_finished end call op h p tt) ∙ ap (λ (d : Details). drop (told_beside d) (map owed_of p.finished)) (sym (told ∙ none_told end op p tt))

-- ---- a call begins

module _ (m : Machine) (inv : Invariant m) (t : Owing) (has : Tells t m) (call : CallId) (op : Op) (end : Option Outcome) (details : Details) (due : IsBegun m call op end details) where
  abbrev h : Option HandleView
  h = asked_handle m call.actor op

  abbrev p : PendingCalls
  p = m.pending call.actor

  abbrev then_machine : Machine
  then_machine = after_beginning m call op end

  abbrev then_owing : Owing
  then_owing = owing_behind m t (labels.Began call op end details)

  -- as it has begun
  abbrev b : BegunCall
  b = record { op = op; handle = option_map handle_number h }

  begun_there : goes_on (word_of_op op) end ≡ true → then_owing.going call ≡ Some b
  begun_there goes = (λ i. cond (same_call-refl call i) (goes_on_as m call op end) (t.going call)) ∙ (λ i. cond (goes i) (Some b) None)

  -- one that goes on since before is another call, and goes on
  still_there : (other : CallId) (was : BegunCall) → t.going other ≡ Some was → then_owing.going other ≡ Some was
  still_there other was there = (λ i. cond (same_call-false other call apart i) (goes_on_as m call op end) (t.going other)) ∙ there
    where
      apart : other ≢ call
      apart same =
          let lower : other.number < m.next other.actor = has.below other was there in
          let number : other.number ≡ m.next other.actor = subst (λ (c : CallId). c.number ≡ m.next c.actor) (sym same) due.number in
          omega (arith, lower, number)

  -- where it goes on, and is a close, its place stands for a handle
  handle_of : (place : ℕ) → goes_on (word_of_op op) end ≡ true → op ≡ ops.Close place → (x : HandleView) × (handle_at place (m.tables call.actor) ≡ Some x)
  handle_of place goes is =
      let passed = subst (λ (o : Op). HasPassed (standing_of m call.actor o) (asked o)) is (begun_passed m call op end details due goes) in
      handle_there (handle_at place (m.tables call.actor)) (live_client _ _ passed.unrefused.handle).1

  -- and where it is asynchronous, it is kept so
  asked_as : is_async (word_of_op op) ≡ true → goes_on (word_of_op op) end ≡ true → IsAskedAs op (option_map handle_number h) (async_call call op h)
  asked_as async goes = by_op op async (begun_passed m call op end details due goes)
    where
      by_op : (o : Op) → is_async (word_of_op o) ≡ true → HasPassed (standing_of m call.actor o) (asked o) → IsAskedAs o (option_map handle_number (asked_handle m call.actor o)) (async_call call o (asked_handle m call.actor o))
      by_op (ops.OpenAsync place invocation name flags a) async passed = (refl, refl)
      by_op (ops.SyncAsync place invocation) async passed =
          let (x, is) = handle_there (handle_at place (m.tables call.actor)) (live_client _ _ passed.unrefused.handle).1 in
          (refl, refl, number_there (handle_at place (m.tables call.actor)) x is)
      by_op o async passed = absurd (cc async)

  -- the places of its client stay, where it is a close
  own_tables : (place : ℕ) → op ≡ ops.Close place → then_machine.tables call.actor ≡ m.tables call.actor
  own_tables place is =
      put_actor-here m.tables call.actor (ended_at_once end (asked op) p (m.tables call.actor))
      ∙ ap (λ (o : Op). ended_at_once end (asked o) p (m.tables call.actor)) is ∙ closed_at_once end place p (m.tables call.actor)

  hands_begun : (w : Who) (z : CallState) → then_machine.in_hand w ≡ Some z → HasBegunIn then_owing then_machine.tables z
  hands_begun w z at = elim (put_who-cases m.in_hand (stepped_as call (word_of_op op)) (call_begun end call op (first_kept m call op)) w z at) [
    | inl own ↦ (
        let (call_is, op_is, goes) = begun_state end call op (first_kept m call op) z own.1 in
        record {
          begun = b;
          found = ap then_owing.going call_is ∙ begun_there goes;
          op = sym op_is;
          stands = λ place is. (
              let asks : op ≡ ops.Close place = sym op_is ∙ is in
              let (x, there) = handle_of place goes asks in
              let stands : handle_at place (then_machine.tables z.call.actor) ≡ Some x = ap (λ (c : CallId). handle_at place (then_machine.tables c.actor)) call_is ∙ ap (handle_at place) (own_tables place asks) ∙ there in
              (x, stands, ap (λ (o : Op). option_map handle_number (asked_handle m call.actor o)) asks ∙ ap (option_map handle_number) there));
        })
    | inr other ↦ (
        let was = has.hands w z other.1 in
        begun_in_still t then_owing m.tables then_machine.tables z was (still_there z.call was.begun was.found) (λ place is x there. by_actor w z other.1 place is x there (same_actor z.call.actor call.actor) refl))
  ]
    where
      by_actor : (w : Who) (z : CallState) → m.in_hand w ≡ Some z → (place : ℕ) → z.op ≡ ops.Close place → (x : HandleView) → handle_at place (m.tables z.call.actor) ≡ Some x → (same : Bool) → same_actor z.call.actor call.actor ≡ same → handle_at place (then_machine.tables z.call.actor) ≡ Some x
      by_actor w z held place is x there false other = ap (handle_at place) (put_actor-other m.tables call.actor (ended_at_once end (asked op) p (m.tables call.actor)) z.call.actor other) ∙ there
      by_actor w z held place is x there true same =
          let name : w ≡ Actor call.actor = sym (inv.holds.hands w z held).whose ∙ stepped_as-plain z.call (word_of_op z.op) (ap (λ (o : Op). is_async (word_of_op o)) is) ∙ ap Actor (same_actor-true z.call.actor call.actor same) in
          let none : None ≡ Some z = sym due.none_in_hand ∙ ap m.in_hand (sym name) ∙ held in
          absurd (cc none)

  under_way_begun : (a : ActorName) (c : AsyncCall) (own : Bool) → Contains (cond own (pending_begun end call op h p) (m.pending a)).unfinished c → HasBegunAs then_owing c
  under_way_begun a c false there = let was = has.under_way a c there in begun_as_still t then_owing c was (still_there c.call was.begun was.found)
  under_way_begun a c true there = elim (begun_unfinished end call op h p c there) [
    | inl before ↦ (let was = has.under_way call.actor c before in begun_as_still t then_owing c was (still_there c.call was.begun was.found))
    | inr new ↦ subst (HasBegunAs then_owing) new.0 (record { begun = b; found = begun_there new.2; kept = asked_as new.1 new.2 })
  ]

  -- a number that goes on is below the next one, which no beginning lets fall
  below_begun : ((a : ActorName) → m.next a ≤ then_machine.next a) → (other : CallId) (was : BegunCall) (same : Bool) → same_call other call ≡ same → cond same (goes_on_as m call op end) (t.going other) ≡ Some was → other.number < then_machine.next other.actor
  below_begun more other was false apart there =
      let lower : other.number < m.next other.actor = has.below other was there in
      let up : m.next other.actor ≤ then_machine.next other.actor = more other.actor in
      omega (arith, lower, up)
  below_begun more other was true same there = subst (λ (c : CallId). c.number < then_machine.next c.actor) (sym (same_call-true other call same)) passed
    where
      passed : call.number < then_machine.next call.actor
      passed =
          let number : call.number ≡ m.next call.actor = due.number in
          let first : then_machine.next call.actor ≡ m.next call.actor + 1 = put_actor-here m.next call.actor (m.next call.actor + 1) in
          omega (arith, number, first)

  pub begin_tells : ((a : ActorName) → m.next a ≤ then_machine.next a) → Tells then_owing then_machine
  begin_tells more = record {
    below = λ other was there. below_begun more other was (same_call other call) refl there;
    hands = hands_begun;
    under_way = λ a c there. under_way_begun a c (same_actor a call.actor) there;
    owed = owed_put m.pending t.owed call.actor (pending_begun end call op h p) (drop (told_beside details) (t.owed call.actor)) (λ b other. has.owed b) (owed_begun call op end details h p due.told ∙ ap (drop (told_beside details)) (has.owed call.actor));
  }
