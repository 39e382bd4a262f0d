-- A call that takes a step: what is kept of asynchronous calls behind that is what the labels tell.
use Rattle.std.proofs.Common.{◌≢◌, ◌≤◌, ◌<◌, filter, not, ◌&&◌, ◌==◌, map, cond, refl, sym, ap, subst, ◌∙◌, inl, inr, arith, unwrap_or, ◌≡◌, ℕ, List, [], ◌∷◌, ◌++◌, Option, Some, None, Bool, true, false}
use Rattle.std.specs.Option.{option_and_then, option_map}
use Rattle.std.specs.Prelude.{IsSome, IsSomeAnd, Contains}
use Rattle.std.proofs.lemmas.Bool.{not-true}
use Rattle.std.proofs.lemmas.List.{map-append}
use Rattle.std.proofs.lemmas.Option.{same_Some}
use Rattle.ckpt_types.specs.declared.answers.Answer.TheVariants as answers
use Rattle.ckpt_types.specs.declared.answers.Outcome.{Outcome}
use Rattle.ckpt_types.specs.declared.answers.Outcome.TheVariants.{Done}
use Rattle.ckpt_types.specs.declared.calls.AsyncKind.TheVariants as kinds
use Rattle.ckpt_types.specs.declared.identities.ActorName.{ActorName}
use Rattle.ckpt_types.specs.declared.identities.CallId.{CallId}
use Rattle.ckpt_types.specs.declared.identities.Who.{Who}
use Rattle.ckpt_types.specs.declared.identities.Who.TheVariants as whos
use Rattle.ckpt_types.specs.declared.identities.Who.TheVariants.{Actor}
use Rattle.ckpt_types.specs.declared.operation.Op.{Op}
use Rattle.ckpt_types.specs.declared.operation.Op.TheVariants as ops
use Rattle.ckpt_types.specs.declared.words.OpWord.{OpWord}
use Rattle.ckpt_types.specs.declared.words.OpWord.TheVariants as opwords
use Rattle.ckpt_types.specs.Asks.{asked}
use Rattle.ckpt_types.specs.OpWord.{word_of_op, is_async}
use Rattle.node_msgs.specs.declared.details.Details.{Details}
use Rattle.node_msgs.specs.declared.steps.StepReply.{StepReply}
use Rattle.node_msgs.specs.declared.steps.Verb.{Verb}
use Rattle.run_labels.specs.declared.labels.Label.TheVariants as labels
use Rattle.call_dispatch.specs.PendingCalls.{goes_over, is_sync, is_call, PendingCalls, no_pending, find_async, ending, ended_in, ended_call}
use Rattle.call_dispatch.specs.declared.async_call.AsyncCall.{AsyncCall}
use Rattle.client_handles.specs.ClientState.{ClientState, handle_at, handle_number}
use Rattle.client_handles.specs.declared.handle_view.HandleView.{HandleView}
use Rattle.cluster_record.specs.Calls.{put_actor, same_call, same_actor, left}
use Rattle.ckpt_machine.specs.After.{is_over, goes_with, step_of, handle_opened, changed, ended_calls, kept_behind, left_over}
use Rattle.ckpt_machine.specs.Callbacks.{Owing, BegunCall, OwedCallback, over_handle, refers_to, owed_ended, going_ended, owing_ended, owing_behind}
use Rattle.ckpt_machine.specs.Guards.{Row}
use Rattle.ckpt_machine.specs.Invariant.{Invariant, IsKeptOf}
use Rattle.ckpt_machine.specs.Machine.{who, Machine, CallState}
use Rattle.ckpt_machine.specs.Whose.{is_of, put_who, same_who}
use Rattle.ckpt_machine.proofs.Actors.{same_actor-true, same_call-false}
use Rattle.ckpt_machine.proofs.AsyncNames.{async_named, async_asked}
use Rattle.ckpt_machine.proofs.ByActor.{put_actor-same, put_actor-here, put_actor-other}
use Rattle.ckpt_machine.proofs.CallsKept.{apart_from}
use Rattle.ckpt_machine.proofs.LeftPending.{AsksOther, StandsStill, StepLeaves, number_at, leaves_all, closes, lets_leave, step_leaves}
use Rattle.ckpt_machine.proofs.EndedAsync.{changed_had}
use Rattle.ckpt_machine.proofs.KeptLists.{passes_filtered, found_among, among_filtered, among_none}
use Rattle.ckpt_machine.proofs.OptionLemmas.{IsSomeAnd-at}
use Rattle.ckpt_machine.proofs.OwedCalls.{owed_put, IsAskedAs, HasBegunAs, HasBegunIn, Tells, begun_as_still, begun_in_still}
use Rattle.ckpt_machine.proofs.OwedLists.{owed_of, over_of, owed_without}
use Rattle.ckpt_machine.proofs.UnderWay.{IsAwaited, HasUnderWay}
use Rattle.ckpt_machine.proofs.Whose.{stepped_as-async, put_who-cases, same_who-refl, stepped_as-plain}

-- ---- what a step leaves

-- what is left was not taken
not_taken : {X : Type 0} (b : Bool) (o : Option X) (x : X) → cond b None o ≡ Some x → b ≡ false
not_taken true o x none = absurd (cc none)
not_taken false o x there = refl

-- one that is under way then was so
ended_unfinished : (s : CallState) (end : Option Outcome) (t : ClientState) (p : PendingCalls) (c : AsyncCall) → Contains (ended_calls s end t p).unfinished c → Contains p.unfinished c
ended_unfinished s None t p c there = there
ended_unfinished s (Some end) t p c there = by_word (is_async (word_of_op s.op)) there
  where
    by_found : (o : Option AsyncCall) → Contains (ending o s.call (handle_opened end t) end p).unfinished c → Contains p.unfinished c
    by_found None there = there
    by_found (Some kept) there = among_filtered _ p.unfinished c there

    by_word : (b : Bool) → Contains (cond b (ended_in s.call (handle_opened end t) end p) p).unfinished c → Contains p.unfinished c
    by_word true there = by_found (find_async s.call p.unfinished) there
    by_word false there = there

over_unfinished : (handle : Option ℕ) (p : PendingCalls) (c : AsyncCall) → Contains (left_over handle p).unfinished c → Contains p.unfinished c
over_unfinished None p c there = there
over_unfinished (Some handle) p c there = among_filtered _ p.unfinished c there

-- a call that is no asynchronous one leaves them
plain_ended : (s : CallState) (end : Outcome) (t : ClientState) (p : PendingCalls) → is_async (word_of_op s.op) ≡ false → ended_calls s (Some end) t p ≡ p
plain_ended s end t p plain = ap (λ b. cond b (ended_in s.call (handle_opened end t) end p) p) plain

-- of one that neither closes a handle nor lets its client leave nothing is owed, where it is not asynchronous
owed_plain : (op : Op) (handle : Option ℕ) (end : Outcome) (owed : List OwedCallback) → AsksOther (asked op) → is_async (word_of_op op) ≡ false → owed_ended op handle end owed ≡ owed
owed_plain (ops.OpenAsync place invocation name flags a) handle end owed other plain = absurd (cc plain)
owed_plain (ops.SyncAsync place invocation) handle end owed other plain = absurd (cc plain)
owed_plain (ops.Close place) handle end owed other plain = absurd other
owed_plain ops.Finalize handle end owed other plain = absurd other
owed_plain op handle end owed other plain = refl

-- and each other call of its client goes on
going_plain : (op : Op) (handle : Option ℕ) (end : Outcome) (other : BegunCall) → AsksOther (asked op) → going_ended op handle end other ≡ Some other
going_plain (ops.Close place) handle end other asks = absurd asks
going_plain ops.Finalize handle end other asks = absurd asks
going_plain op handle end other asks = refl

-- an asynchronous call that does not go over a handle does not refer to it
refers_not : (op : Op) (handle : Option ℕ) (c : AsyncCall) → IsAskedAs op handle c → (closed : ℕ) → goes_over closed c ≡ false → refers_to (over_handle op handle) (Some closed) ≡ false
refers_not (ops.OpenAsync place invocation name flags a) handle c kept closed other = refl
refers_not (ops.SyncAsync place invocation) handle c kept closed other =
    ap (λ h. refers_to h (Some closed)) kept.2 ∙ ap (λ kind. is_sync kind && (c.handle == closed)) (sym kept.0) ∙ other
refers_not op handle c kept closed other = absurd kept

-- one under way that is left where a handle is closed does not go over it
over_passes : (handle : ℕ) (p : PendingCalls) (c : AsyncCall) → Contains (left_over (Some handle) p).unfinished c → goes_over handle c ≡ false
over_passes handle p c there = not-true (goes_over handle c) (passes_filtered (λ (k : AsyncCall). not (goes_over handle k)) p.unfinished c there)

-- of an asynchronous one that was kept as it began its own callback is owed, behind the others; the end of a synchronisation has opened no handle
owed_async : (op : Op) (handle : Option ℕ) (c : AsyncCall) → IsAskedAs op handle c → (opened : Option ℕ) (end : Outcome) → (word_of_op op ≡ opwords.SyncAsync → opened ≡ None) → (owed : List OwedCallback)
    → owed ++ owed_of (ended_call opened end c) ∷ [] ≡ owed_ended op handle end owed
owed_async (ops.OpenAsync place invocation name flags a) handle c kept opened end none owed =
    λ i. owed ++ record { callback = record { kind = kept.0 i; invocation = kept.1 i; outcome = end }; over = over_of (kept.0 i) (unwrap_or opened c.handle) } ∷ []
owed_async (ops.SyncAsync place invocation) handle c kept opened end none owed =
    (λ i. owed ++ record { callback = record { kind = kept.0 i; invocation = kept.1 i; outcome = end }; over = over_of (kept.0 i) (unwrap_or (none refl i) c.handle) } ∷ [])
    ∙ (λ i. owed ++ record { callback = record { kind = kinds.Sync; invocation = invocation; outcome = end }; over = sym kept.2 i } ∷ [])
owed_async op handle c kept opened end none owed = absurd kept

-- ---- a call takes a step

module _ (m : Machine) (inv : Invariant m) (t : Owing) (has : Tells t m) (s : CallState) (held : m.in_hand (who s) ≡ Some s) (verb : Verb) (k r : Option ℕ) (reply : StepReply) where
  abbrev a : ActorName
  a = s.call.actor

  abbrev n : Machine
  n = changed m s verb k r reply

  abbrev behind : CallState
  behind = kept_behind m s n.cluster verb k r reply

  abbrev Leaves : Option Outcome → Type 0
  Leaves end = StepLeaves m s n.in_hand n.pending n.tables end

  -- the call as it began
  was : HasBegunIn t m.tables s
  was = has.hands (who s) s held

  -- a call of the same client for which this waits is the same one
  waits_alone : is_async (word_of_op s.op) ≡ false → (w : Who) (z : CallState) → m.in_hand w ≡ Some z → same_who w (who s) ≡ false → same_actor z.call.actor a ≡ true → is_async (word_of_op z.op) ≡ false → ⊥
  waits_alone plain w z before apart same other =
      let name : w ≡ who s = sym (inv.holds.hands w z before).whose ∙ stepped_as-plain z.call (word_of_op z.op) other ∙ ap Actor (same_actor-true z.call.actor a same) ∙ sym (stepped_as-plain s.call (word_of_op s.op) plain) in
      let it : true ≡ false = sym (same_who-refl (who s)) ∙ ap (λ v. same_who v (who s)) (sym name) ∙ apart in
      cc it

  -- a close is waited for, and so is a Finalize
  close_waits : (place : ℕ) (op : Op) → op ≡ ops.Close place → is_async (word_of_op op) ≡ false
  close_waits place op is = ap (λ (o : Op). is_async (word_of_op o)) is

  leave_waits : s.op ≡ ops.Finalize → is_async (word_of_op s.op) ≡ false
  leave_waits is = ap (λ (o : Op). is_async (word_of_op o)) is

  -- ---- of other clients nothing changes

  others_pending : (end : Option Outcome) → Leaves end → (b : ActorName) → same_actor b a ≡ false → n.pending b ≡ m.pending b
  others_pending end (leaves_all asks left) b other = ap (λ f. f b) left.same
  others_pending end (closes place is hands pending tables ends) b other = ap (λ f. f b) pending ∙ put_actor-other m.pending a _ b other
  others_pending end (lets_leave is hands pending tables ends) b other = ap (λ f. f b) pending ∙ put_actor-other m.pending a _ b other

  others_tables : (end : Option Outcome) → Leaves end → (b : ActorName) → same_actor b a ≡ false → n.tables b ≡ m.tables b
  others_tables end (leaves_all asks left) b other = left.others b other
  others_tables end (closes place is hands pending tables ends) b other = tables b other
  others_tables end (lets_leave is hands pending tables ends) b other = tables b other

  -- nor do the places of its own client, where the call is asynchronous
  own_stand : (end : Option Outcome) → Leaves end → is_async (word_of_op s.op) ≡ true → StandsStill (m.tables a) (n.tables a)
  own_stand end (leaves_all asks left) async = left.own (sym (async_asked s.op) ∙ async)
  own_stand end (closes place is hands pending tables ends) async = absurd (let w : false ≡ true = sym (close_waits place s.op is) ∙ async in cc w)
  own_stand end (lets_leave is hands pending tables ends) async = absurd (let w : false ≡ true = sym (leave_waits is) ∙ async in cc w)

  -- so a place stands for its handle still, of another call that is a close
  stands_still : (end : Option Outcome) → Leaves end → (w : Who) (z : CallState) → m.in_hand w ≡ Some z → same_who w (who s) ≡ false → (place : ℕ) → z.op ≡ ops.Close place → (h : HandleView)
      → handle_at place (m.tables z.call.actor) ≡ Some h → handle_at place (n.tables z.call.actor) ≡ Some h
  stands_still end leaves w z before apart place is h there = by_actor (same_actor z.call.actor a) refl
    where
      by_word : same_actor z.call.actor a ≡ true → (async : Bool) → is_async (word_of_op s.op) ≡ async → handle_at place (n.tables z.call.actor) ≡ Some h
      by_word same true async =
          let is_a : z.call.actor ≡ a = same_actor-true z.call.actor a same in
          ap (λ b. handle_at place (n.tables b)) is_a ∙ own_stand end leaves async place h (ap (λ b. handle_at place (m.tables b)) (sym is_a) ∙ there)
      by_word same false plain = absurd (waits_alone plain w z before apart same (close_waits place z.op is))

      by_actor : (own : Bool) → same_actor z.call.actor a ≡ own → handle_at place (n.tables z.call.actor) ≡ Some h
      by_actor true same = by_word same (is_async (word_of_op s.op)) refl
      by_actor false other = ap (handle_at place) (others_tables end leaves z.call.actor other) ∙ there

  -- ---- where the call goes on

  -- it closes no handle, and lets no client leave
  goes_on_left : Leaves None → AsksOther (asked s.op) × (n.pending ≡ m.pending)
  goes_on_left (leaves_all asks left) = (asks, left.same)
  goes_on_left (closes place is hands pending tables ends) = absurd (cc ends)
  goes_on_left (lets_leave is hands pending tables ends) = absurd (cc ends)

  module _ (leaves : Leaves None) where
    hands_on : (w : Who) (z : CallState) → put_who n.in_hand (who s) (Some behind) w ≡ Some z → HasBegunIn t n.tables z
    hands_on w z at = elim (put_who-cases n.in_hand (who s) (Some behind) w z at) [
      | inl own ↦ subst (HasBegunIn t n.tables) (same_Some behind z own.1) (record {
        begun = was.begun;
        found = was.found;
        op = was.op;
        stands = λ place is. absurd (subst (λ (o : Op). AsksOther (asked o)) is (goes_on_left leaves).0);
      })
      | inr other ↦ (
          let before = changed_had m s verb k r reply w z other.1 in
          let has_z = has.hands w z before in
          begun_in_still t t m.tables n.tables z has_z has_z.found (stands_still None leaves w z before other.0))
    ]

    goes_tells : ((b : ActorName) → m.next b ≤ n.next b) → Tells t (step_of m (Some s) verb k r reply None)
    goes_tells more = record {
      below = λ call b found. (let lower : call.number < m.next call.actor = has.below call b found in let up : m.next call.actor ≤ n.next call.actor = more call.actor in omega (arith, lower, up));
      hands = hands_on;
      under_way = λ b c there. has.under_way b c (subst (λ (f : ActorName → PendingCalls). Contains (f b).unfinished c) same there);
      owed = λ b. ap (λ (f : ActorName → PendingCalls). map owed_of (f b).finished) same ∙ has.owed b;
    }
      where
        same : put_actor n.pending a (n.pending a) ≡ m.pending
        same = (λ i b. put_actor-same n.pending a (n.pending a) refl b i) ∙ (goes_on_left leaves).1

  -- ---- where it ends

  module _ (e : Outcome) (leaves : Leaves (Some e)) where
    abbrev begun : BegunCall
    begun = was.begun

    abbrev then_machine : Machine
    then_machine = step_of m (Some s) verb k r reply (Some e)

    abbrev then_owing : Owing
    then_owing = owing_ended s.call (Some begun) e t

    -- a close is of the handle for which its place stands, and tells OK
    closing_is : (place : ℕ) → s.op ≡ ops.Close place → Some e ≡ Some (Done answers.Nothing) → (h : HandleView) × (number_at m s place ≡ Some h.handle)
        × ((owed : List OwedCallback) → owed_ended begun.op begun.handle e owed ≡ owed_ended (ops.Close place) (Some h.handle) (Done answers.Nothing) owed)
        × ((other : BegunCall) → going_ended begun.op begun.handle e other ≡ going_ended (ops.Close place) (Some h.handle) (Done answers.Nothing) other)
    closing_is place is ends =
        let (h, at, same) = was.stands place is in
        let told : e ≡ Done answers.Nothing = same_Some e (Done answers.Nothing) ends in
        let op_is : begun.op ≡ ops.Close place = was.op ∙ is in
        (h, ap (option_map handle_number) at, (λ owed i. owed_ended (op_is i) (same i) (told i) owed), (λ other i. going_ended (op_is i) (same i) (told i) other))

    -- another call goes on, where it is no call of this client that goes along
    going_still : (c : CallId) (x : BegunCall) → c ≢ s.call → t.going c ≡ Some x → (same_actor c.actor a ≡ true → going_ended begun.op begun.handle e x ≡ Some x) → then_owing.going c ≡ Some x
    going_still c x apart found stays =
        (λ i. cond (same_call-false c s.call apart i) None (cond (same_actor c.actor a) (option_and_then (going_ended begun.op begun.handle e) (t.going c)) (t.going c)))
        ∙ by_actor (same_actor c.actor a) refl
      where
        by_actor : (own : Bool) → same_actor c.actor a ≡ own → cond own (option_and_then (going_ended begun.op begun.handle e) (t.going c)) (t.going c) ≡ Some x
        by_actor true same = ap (option_and_then (going_ended begun.op begun.handle e)) found ∙ stays same
        by_actor false other = found

    -- what goes on then went on before
    went_on : (c : CallId) (x : BegunCall) → then_owing.going c ≡ Some x → (y : BegunCall) × (t.going c ≡ Some y)
    went_on c x found = by_tests (same_call c s.call) (same_actor c.actor a) (t.going c) refl found
      where
        by_tests : (same own : Bool) (o : Option BegunCall) → t.going c ≡ o → cond same None (cond own (option_and_then (going_ended begun.op begun.handle e) o) o) ≡ Some x → (y : BegunCall) × (t.going c ≡ Some y)
        by_tests true own o is none = absurd (cc none)
        by_tests false true None is none = absurd (cc none)
        by_tests false true (Some y) is there = (y, is)
        by_tests false false None is none = absurd (cc none)
        by_tests false false (Some y) is there = (y, is)

    -- ---- calls in hand

    -- one of this client that is in hand still does not go along
    hand_stays : Leaves (Some e) → (w : Who) (z : CallState) → n.in_hand w ≡ Some z → m.in_hand w ≡ Some z → same_who w (who s) ≡ false → (z_was : HasBegunIn t m.tables z) → same_actor z.call.actor a ≡ true → going_ended begun.op begun.handle e z_was.begun ≡ Some z_was.begun
    hand_stays (leaves_all asks left) w z at before apart z_was same = going_plain begun.op begun.handle e z_was.begun (subst (λ (o : Op). AsksOther (asked o)) (sym was.op) asks)
    hand_stays (closes place is hands pending tables ends) w z at before apart z_was same = by_word (is_async (word_of_op z.op)) refl
      where
        by_word : (b : Bool) → is_async (word_of_op z.op) ≡ b → going_ended begun.op begun.handle e z_was.begun ≡ Some z_was.begun
        by_word false plain = absurd (waits_alone (close_waits place s.op is) w z before apart same plain)
        by_word true async =
            let (h, number, owed_is, going_is) = closing_is place is ends in
            let name : w ≡ whos.Call z.call = sym (inv.holds.hands w z before).whose ∙ stepped_as-async z.call (word_of_op z.op) async in
            let left : cond (goes_with (Some h.handle) a (m.pending a) (whos.Call z.call)) None (m.in_hand w) ≡ Some z = (λ i. cond (goes_with (sym number i) a (m.pending a) (sym name i)) None (m.in_hand w)) ∙ ap (λ f. f w) (sym hands) ∙ at in
            let stays : is_over h.handle (find_async z.call (m.pending a).unfinished) ≡ false = (λ i. sym same i && is_over h.handle (find_async z.call (m.pending a).unfinished)) ∙ not_taken _ (m.in_hand w) z left in
            let kept : IsSomeAnd (find_async z.call (m.pending a).unfinished) (IsKeptOf z) = subst (λ b. IsSomeAnd (find_async z.call (m.pending b).unfinished) (IsKeptOf z)) (same_actor-true z.call.actor a same) (inv.holds.calls.kept w z before async) in
            let (c, found, of) = IsSomeAnd-at (find_async z.call (m.pending a).unfinished) (IsKeptOf z) kept in
            let so : HasBegunAs t c = has.under_way a c (found_among (λ (kept : AsyncCall). is_call z.call kept.call) (m.pending a).unfinished c found).0 in
            let begun_is : so.begun ≡ z_was.begun = same_Some so.begun z_was.begun (sym so.found ∙ ap t.going of.call ∙ z_was.found) in
            let other = refers_not z_was.begun.op z_was.begun.handle c (subst (λ (b : BegunCall). IsAskedAs b.op b.handle c) begun_is so.kept) h.handle (ap (is_over h.handle) (sym found) ∙ stays) in
            going_is z_was.begun ∙ ap (λ b. cond b None (Some z_was.begun)) other
    hand_stays (lets_leave is hands pending tables ends) w z at before apart z_was same = by_word (is_async (word_of_op z.op)) refl
      where
        by_word : (b : Bool) → is_async (word_of_op z.op) ≡ b → going_ended begun.op begun.handle e z_was.begun ≡ Some z_was.begun
        by_word false plain = absurd (waits_alone (leave_waits is) w z before apart same plain)
        by_word true async =
            let name : w ≡ whos.Call z.call = sym (inv.holds.hands w z before).whose ∙ stepped_as-async z.call (word_of_op z.op) async in
            let none : None ≡ Some z = (λ i. cond (sym same i) None (m.in_hand w)) ∙ ap (λ v. cond (is_of a v) None (m.in_hand w)) (sym name) ∙ ap (λ f. f w) (sym hands) ∙ at in
            absurd (cc none)

    hands_end : (w : Who) (z : CallState) → then_machine.in_hand w ≡ Some z → HasBegunIn then_owing n.tables z
    hands_end w z at = elim (put_who-cases n.in_hand (who s) None w z at) [
      | inl own ↦ absurd (let none = own.1 in cc none)
      | inr other ↦ (
          let before = changed_had m s verb k r reply w z other.1 in
          let z_was = has.hands w z before in
          let goes = going_still z.call z_was.begun (apart_from m.in_hand m.pending m.next inv.holds.calls s held w z before other.0) z_was.found (hand_stays leaves w z other.1 before other.0 z_was) in
          begun_in_still t then_owing m.tables n.tables z z_was goes (stands_still (Some e) leaves w z before other.0))
    ]

    -- ---- asynchronous calls under way

    -- of its own client
    own_under_way : Leaves (Some e) → (c : AsyncCall) → c.call ≢ s.call → Contains (n.pending a).unfinished c → HasBegunAs then_owing c
    own_under_way (leaves_all asks left) c apart there =
        let so = has.under_way a c (subst (λ (f : ActorName → PendingCalls). Contains (f a).unfinished c) left.same there) in
        begun_as_still t then_owing c so (going_still c.call so.begun apart so.found (λ own. going_plain begun.op begun.handle e so.begun (subst (λ (o : Op). AsksOther (asked o)) (sym was.op) asks)))
    own_under_way (closes place is hands pending tables ends) c apart there =
        let (h, number, owed_is, going_is) = closing_is place is ends in
        let left : Contains (left_over (Some h.handle) (m.pending a)).unfinished c = subst (λ (p : PendingCalls). Contains p.unfinished c) (ap (λ f. f a) pending ∙ put_actor-here m.pending a _ ∙ ap (λ o. left_over o (m.pending a)) number) there in
        let so = has.under_way a c (over_unfinished (Some h.handle) (m.pending a) c left) in
        let other = refers_not so.begun.op so.begun.handle c so.kept h.handle (over_passes h.handle (m.pending a) c left) in
        begun_as_still t then_owing c so (going_still c.call so.begun apart so.found (λ own. going_is so.begun ∙ ap (λ b. cond b None (Some so.begun)) other))
    own_under_way (lets_leave is hands pending tables ends) c apart there = absurd (among_none c (subst (λ (p : PendingCalls). Contains p.unfinished c) (ap (λ f. f a) pending ∙ put_actor-here m.pending a no_pending) there))

    under_way_end : HasUnderWay then_machine → (b : ActorName) (c : AsyncCall) → Contains (then_machine.pending b).unfinished c → HasBegunAs then_owing c
    under_way_end under_way b c there = by_actor (same_actor b a) refl there
      where
        awaited : IsAwaited then_machine.in_hand (then_machine.pending b).unfinished b c
        awaited = under_way b c there

        -- it is in hand, and so another call
        apart : c.call ≢ s.call
        apart same = by_hand (then_machine.in_hand (whos.Call c.call)) refl awaited.held
          where
            by_hand : (o : Option CallState) → then_machine.in_hand (whos.Call c.call) ≡ o → IsSome o → ⊥
            by_hand None none some = cc some
            by_hand (Some y) at some = elim (put_who-cases n.in_hand (who s) None (whos.Call c.call) y at) [
              | inl own ↦ (let none = own.1 in cc none)
              | inr other ↦ (
                  let before = changed_had m s verb k r reply (whos.Call c.call) y other.1 in
                  let named = async_named y c.call (inv.holds.hands (whos.Call c.call) y before).whose in
                  apart_from m.in_hand m.pending m.next inv.holds.calls s held (whos.Call c.call) y before other.0 (named.1 ∙ same))
            ]

        by_actor : (own : Bool) → same_actor b a ≡ own → Contains (cond own (ended_calls behind (Some e) (n.tables a) (n.pending a)) (n.pending b)).unfinished c → HasBegunAs then_owing c
        by_actor true same among = own_under_way leaves c apart (ended_unfinished behind (Some e) (n.tables a) (n.pending a) c among)
        by_actor false other among =
            let so = has.under_way b c (subst (λ (p : PendingCalls). Contains p.unfinished c) (others_pending (Some e) leaves b other) among) in
            begun_as_still t then_owing c so (going_still c.call so.begun apart so.found (λ own. absurd (let w : true ≡ false = sym own ∙ ap (λ d. same_actor d a) awaited.actor ∙ other in cc w)))

    -- ---- what is owed

    -- of an asynchronous call its callback
    owed_end : AsksOther (asked s.op) → (word_of_op s.op ≡ opwords.SyncAsync → handle_opened e (n.tables a) ≡ None)
        → map owed_of (ended_calls s (Some e) (n.tables a) (m.pending a)).finished ≡ owed_ended begun.op begun.handle e (t.owed a)
    owed_end asks opens_none = by_word (is_async (word_of_op s.op)) refl
      where
        opened : Option ℕ
        opened = handle_opened e (n.tables a)

        by_found : is_async (word_of_op s.op) ≡ true → (o : Option AsyncCall) → find_async s.call (m.pending a).unfinished ≡ o → IsSomeAnd o (IsKeptOf s) → map owed_of (ending o s.call opened e (m.pending a)).finished ≡ owed_ended begun.op begun.handle e (t.owed a)
        by_found async None found none = absurd none
        by_found async (Some c) found of =
            let so : HasBegunAs t c = has.under_way a c (found_among (λ (kept : AsyncCall). is_call s.call kept.call) (m.pending a).unfinished c found).0 in
            let same : so.begun ≡ begun = same_Some so.begun begun (sym so.found ∙ ap t.going of.call ∙ was.found) in
            let kept : IsAskedAs begun.op begun.handle c = subst (λ (b : BegunCall). IsAskedAs b.op b.handle c) same so.kept in
            map-append owed_of (m.pending a).finished (ended_call opened e c ∷ []) ∙ ap (λ owed. owed ++ owed_of (ended_call opened e c) ∷ []) (has.owed a)
            ∙ owed_async begun.op begun.handle c kept opened e (λ word. opens_none (ap word_of_op (sym was.op) ∙ word)) (t.owed a)

        by_word : (b : Bool) → is_async (word_of_op s.op) ≡ b → map owed_of (cond b (ended_in s.call opened e (m.pending a)) (m.pending a)).finished ≡ owed_ended begun.op begun.handle e (t.owed a)
        by_word true async = by_found async (find_async s.call (m.pending a).unfinished) refl (inv.holds.calls.kept (who s) s held async)
        by_word false plain = has.owed a ∙ sym (owed_plain begun.op begun.handle e (t.owed a) (subst (λ (o : Op). AsksOther (asked o)) (sym was.op) asks) (ap (λ (o : Op). is_async (word_of_op o)) was.op ∙ plain))

    own_owed : Leaves (Some e) → (word_of_op s.op ≡ opwords.SyncAsync → handle_opened e (n.tables a) ≡ None)
        → map owed_of (ended_calls s (Some e) (n.tables a) (n.pending a)).finished ≡ owed_ended begun.op begun.handle e (t.owed a)
    own_owed (leaves_all asks left) opens_none = ap (λ (f : ActorName → PendingCalls). map owed_of (ended_calls s (Some e) (n.tables a) (f a)).finished) left.same ∙ owed_end asks opens_none
    own_owed (closes place is hands pending tables ends) opens_none =
        let (h, number, owed_is, going_is) = closing_is place is ends in
        let left_is : n.pending a ≡ left_over (Some h.handle) (m.pending a) = ap (λ f. f a) pending ∙ put_actor-here m.pending a _ ∙ ap (λ o. left_over o (m.pending a)) number in
        ap (λ (q : PendingCalls). map owed_of q.finished) (plain_ended s e (n.tables a) (n.pending a) (close_waits place s.op is) ∙ left_is)
        ∙ owed_without h.handle (m.pending a).finished ∙ ap (filter (λ (o : OwedCallback). not (refers_to o.over (Some h.handle)))) (has.owed a) ∙ sym (owed_is (t.owed a))
    own_owed (lets_leave is hands pending tables ends) opens_none =
        let told : e ≡ Done answers.Nothing = same_Some e (Done answers.Nothing) ends in
        let op_is : begun.op ≡ ops.Finalize = was.op ∙ is in
        ap (λ (q : PendingCalls). map owed_of q.finished) (plain_ended s e (n.tables a) (n.pending a) (leave_waits is) ∙ ap (λ f. f a) pending ∙ put_actor-here m.pending a no_pending)
        ∙ (λ i. owed_ended (sym op_is i) begun.handle (sym told i) (t.owed a))

    ends_tells : ((b : ActorName) → m.next b ≤ n.next b) → (word_of_op s.op ≡ opwords.SyncAsync → handle_opened e (n.tables a) ≡ None) → HasUnderWay then_machine → Tells then_owing then_machine
    ends_tells more opens_none under_way = record {
      below = λ c x found. (
          let (y, there) = went_on c x found in
          let lower : c.number < m.next c.actor = has.below c y there in
          let up : m.next c.actor ≤ n.next c.actor = more c.actor in
          omega (arith, lower, up));
      hands = hands_end;
      under_way = under_way_end under_way;
      owed = owed_put n.pending t.owed a (ended_calls s (Some e) (n.tables a) (n.pending a)) (owed_ended begun.op begun.handle e (t.owed a))
          (λ b other. ap (λ (p : PendingCalls). map owed_of p.finished) (others_pending (Some e) leaves b other) ∙ has.owed b) (own_owed leaves opens_none);
    }

  -- WHATEVER THE STEP IS, by its row, where no number falls; the end of an asynchronous synchronisation has opened no handle
  pub step_tells : (word : OpWord) (end : Option Outcome) (details : Details) → Row m s verb (record { verb = verb; ckpt = k; node = r; reply = reply; end = end; details = details }) → ((b : ActorName) → m.next b ≤ n.next b)
      → ((e : Outcome) → end ≡ Some e → word_of_op s.op ≡ opwords.SyncAsync → handle_opened e (n.tables a) ≡ None) → HasUnderWay (step_of m (Some s) verb k r reply end)
      → Tells (owing_behind m t (labels.Stepped s.call word verb k r reply end details)) (step_of m (Some s) verb k r reply end)
  step_tells word None details row more opens_none under_way = goes_tells (step_leaves m s verb k r reply None details row) more
  step_tells word (Some e) details row more opens_none under_way =
      subst (λ o. Tells (owing_ended s.call o e t) (step_of m (Some s) verb k r reply (Some e))) (sym was.found) (ends_tells e (step_leaves m s verb k r reply (Some e) details row) more (opens_none e refl) under_way)
