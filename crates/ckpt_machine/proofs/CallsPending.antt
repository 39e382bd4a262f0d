-- Of the calls in hand, and of the asynchronous ones that are not dispatched, all stays so where one of these has ended or begun, where some are given, and where some are dropped.
use Rattle.std.proofs.Common.{◌≡◌, ◌≢◌, ◌⊎◌, ℕ, ◌+◌, ◌<◌, inl, inr, arith, [], ◌∷◌, Option, Some, None, Bool, true, false, not, ◌&&◌, cond, refl, sym, ap, subst, ◌∙◌}
use Rattle.std.specs.Prelude.{IsSomeAnd, Contains, option_map}
use Rattle.std.proofs.lemmas.List.Elements.{Contains-append_cases, Contains-push_cases}
use Rattle.std.proofs.lemmas.Option.{same_Some}
use Rattle.ckpt_types.specs.declared.answers.Answer.{Answer}
use Rattle.ckpt_types.specs.declared.answers.Outcome.{Outcome}
use Rattle.ckpt_types.specs.declared.answers.Outcome.TheVariants.{Done}
use Rattle.ckpt_types.specs.declared.identities.ActorName.{ActorName}
use Rattle.ckpt_types.specs.declared.identities.CallId.{CallId}
use Rattle.ckpt_types.specs.declared.identities.Who.{Who}
use Rattle.ckpt_types.specs.declared.identities.Who.TheVariants.{Actor}
use Rattle.ckpt_types.specs.declared.identities.Who.TheVariants as whos
use Rattle.ckpt_types.specs.declared.operation.Op.{Op}
use Rattle.ckpt_types.specs.declared.words.OpWord.{OpWord}
use Rattle.ckpt_types.specs.declared.operation.Op.TheVariants as ops
use Rattle.ckpt_types.specs.Asks.{asked, invocation_of}
use Rattle.ckpt_types.specs.OpWord.{is_async, word_of_op, stepped_as}
use Rattle.call_dispatch.specs.PendingCalls.{PendingCalls, no_pending, is_call, find_async, goes_over, other_calls, ended_call, ending, ended_in, forgotten_over, dispatched, given_number, with_begun}
use Rattle.call_dispatch.specs.declared.async_call.AsyncCall.{AsyncCall}
use Rattle.call_dispatch.specs.declared.async_call.EndedCall.{EndedCall}
use Rattle.client_handles.specs.declared.handle_view.HandleView.{HandleView}
use Rattle.cluster_record.specs.Calls.{same_actor, put_actor}
use Rattle.ckpt_machine.specs.Drivers.{Driver}
use Rattle.ckpt_machine.specs.Driving.{Kept, driver_start}
use Rattle.ckpt_machine.specs.Invariant.{AreCalls, IsBegunBy, IsKeptOf, calls_of}
use Rattle.ckpt_machine.specs.Machine.{CallState, who}
use Rattle.ckpt_machine.specs.After.{kind_of, async_call, pending_begun, call_begun, started_call, goes_on, is_over, goes_with, left_over}
use Rattle.ckpt_machine.specs.Whose.{put_who, same_who, is_of}
use Rattle.ckpt_machine.proofs.Actors.{same_actor-refl, same_actor-true}
use Rattle.ckpt_machine.proofs.KeptLists.{among_filtered, among_dropped, among_mapped, among_none, found_among, none_found, found_filtered, found_front, found_last}
use Rattle.ckpt_machine.proofs.OptionLemmas.{IsSomeAnd-at, IsSomeAnd-from}
use Rattle.ckpt_machine.proofs.ByActor.{put_actor-here, put_actor-other}
use Rattle.ckpt_machine.proofs.Whose.{put_who-cases, stepped_as-async}
use Rattle.ckpt_machine.proofs.PendingNames.{is_call-true, is_call-refl, is_call-false, find_async-name, among_unfinished, among_finished}

-- ---- what is among those that are not dispatched

-- each of these is, by its name, one of those
abbrev IsAmong : PendingCalls → PendingCalls → Type 0
IsAmong old new = (c : AsyncCall) → Contains (calls_of new) c → (d : AsyncCall) × Contains (calls_of old) d × (c.call ≡ d.call)

-- it is one or the other
pub among_cases : (p : PendingCalls) (c : AsyncCall) → Contains (calls_of p) c → Contains p.unfinished c ⊎ ((e : EndedCall) × Contains p.finished e × (e.asked ≡ c))
among_cases p c among = elim (Contains-append_cases p.unfinished _ c among) [ inl under_way ↦ inl under_way | inr ended ↦ inr (among_mapped (λ (e : EndedCall). e.asked) p.finished c ended) ]

-- where all that are under way are so, and all that have ended
fewer_among : (old new : PendingCalls) → ((c : AsyncCall) → Contains new.unfinished c → Contains old.unfinished c) → ((e : EndedCall) → Contains new.finished e → Contains old.finished e) → IsAmong old new
fewer_among old new unfinished finished c among = elim (among_cases new c among) [
  | inl under_way ↦ (c, among_unfinished old c (unfinished c under_way), refl)
  | inr ended ↦ (let (e, there, is) = ended in (e.asked, among_finished old e (finished e there), ap (λ (x : AsyncCall). x.call) (sym is)))
]

-- one that has ended stays one of them
ending_among : (o : Option AsyncCall) (call : CallId) (opened : Option ℕ) (end : Outcome) (p : PendingCalls) → ((c : AsyncCall) → o ≡ Some c → Contains p.unfinished c) → IsAmong p (ending o call opened end p)
ending_among None call opened end p there c among = (c, among, refl)
ending_among (Some kept) call opened end p there c among = elim (among_cases (ending (Some kept) call opened end p) c among) [
  | inl under_way ↦ (c, among_unfinished p c (among_filtered _ p.unfinished c under_way), refl)
  | inr ended ↦ (
      let (e, at, is) = ended in elim (Contains-push_cases p.finished (ended_call opened end kept) e at) [
        | inl before ↦ (e.asked, among_finished p e before, ap (λ (x : AsyncCall). x.call) (sym is))
        | inr now ↦ (kept, among_unfinished p kept (there kept refl), ap (λ (x : AsyncCall). x.call) (sym is) ∙ ap (λ (x : EndedCall). x.asked.call) (sym now))
      ])
]

pub ended_among : (call : CallId) (opened : Option ℕ) (end : Outcome) (p : PendingCalls) → IsAmong p (ended_in call opened end p)
ended_among call opened end p = ending_among (find_async call p.unfinished) call opened end p (λ c found. (found_among (λ (kept : AsyncCall). is_call call kept.call) p.unfinished c found).0)

pub dispatched_among : (n : ℕ) (p : PendingCalls) → IsAmong p (dispatched n p)
dispatched_among n p = fewer_among p (dispatched n p) (λ c there. there) (λ e there. among_dropped n p.finished e there)

pub left_over_among : (handle : Option ℕ) (p : PendingCalls) → IsAmong p (left_over handle p)
left_over_among None p c among = (c, among, refl)
left_over_among (Some handle) p c among = fewer_among p (forgotten_over handle p) (λ c there. among_filtered _ p.unfinished c there) (λ e there. among_filtered _ p.finished e there) c among

pub none_among : (p : PendingCalls) → IsAmong p no_pending
none_among p c among = absurd (among_none c among)

-- ---- another call is kept as it was

-- where one has ended
pub ended_stays : (call : CallId) (opened : Option ℕ) (end : Outcome) (p : PendingCalls) (other : CallId) (P : AsyncCall → Type 0) → other ≢ call → IsSomeAnd (find_async other p.unfinished) P → IsSomeAnd (find_async other (ended_in call opened end p).unfinished) P
ended_stays call opened end p other P apart kept = by_found (find_async call p.unfinished)
  where
    left_there : IsSomeAnd (find_async other (other_calls call p.unfinished)) P
    left_there =
        let (c, found, of) = IsSomeAnd-at (find_async other p.unfinished) P kept in
        let left : not (is_call call c.call) ≡ true = ap not (is_call-false call c.call (λ same. apart (sym (find_async-name other p.unfinished c found) ∙ sym same))) in
        IsSomeAnd-from (find_async other (other_calls call p.unfinished)) P c (found_filtered (λ (k : AsyncCall). is_call other k.call) (λ (k : AsyncCall). not (is_call call k.call)) p.unfinished c found left) of

    by_found : (o : Option AsyncCall) → IsSomeAnd (find_async other (ending o call opened end p).unfinished) P
    by_found None = kept
    by_found (Some c) = left_there

-- where a handle has ended, over which it does not go
pub left_over_stays : (handle : Option ℕ) (a : ActorName) (p : PendingCalls) (call : CallId) (P : AsyncCall → Type 0) → same_actor call.actor a ≡ true → goes_with handle a p (whos.Call call) ≡ false → IsSomeAnd (find_async call p.unfinished) P → IsSomeAnd (find_async call (left_over handle p).unfinished) P
left_over_stays None a p call P own apart kept = kept
left_over_stays (Some handle) a p call P own apart kept =
    let (c, found, of) = IsSomeAnd-at (find_async call p.unfinished) P kept in
    let over : goes_over handle c ≡ false = ap (is_over handle) (sym found) ∙ ap (λ b. b && is_over handle (find_async call p.unfinished)) (sym own) ∙ apart in
    IsSomeAnd-from (find_async call (forgotten_over handle p).unfinished) P c (found_filtered (λ (k : AsyncCall). is_call call k.call) (λ (k : AsyncCall). not (goes_over handle k)) p.unfinished c found (ap not over)) of

-- ---- the whole

-- the asynchronous call of this name is kept, by what it asks
abbrev pub IsKeptIn : PendingCalls → CallState → Type 0
IsKeptIn p z = IsSomeAnd (find_async z.call p.unfinished) (IsKeptOf z)

module _ (in_hand : Who → Option CallState) (pending : ActorName → PendingCalls) (next : ActorName → ℕ) (calls : AreCalls in_hand pending next) where
  -- some calls are left in hand, and of the calls of one client that are not dispatched these
  pub calls_over : (hands : Who → Option CallState) (a : ActorName) (p : PendingCalls)
      → ((w : Who) (z : CallState) → hands w ≡ Some z → in_hand w ≡ Some z)
      → ((c : AsyncCall) → Contains (calls_of p) c → (d : AsyncCall) × Contains (calls_of (pending a)) d × (c.call ≡ d.call))
      → ((w : Who) (z : CallState) → hands w ≡ Some z → is_async (word_of_op z.op) ≡ true → z.call.actor ≡ a → IsKeptIn (pending a) z → IsKeptIn p z)
      → AreCalls hands (put_actor pending a p) next
  calls_over hands a p left among stays = record {
    one_name = λ w v s t at there same. calls.one_name w v s t (left w s at) (left v t there) same;
    begun = λ b c there. by_actor b c (same_actor b a) refl there;
    kept = λ w z at async. kept w z at async (same_actor z.call.actor a) refl;
  }
    where
      by_actor : (b : ActorName) (c : AsyncCall) (t : Bool) → same_actor b a ≡ t → Contains (calls_of (cond t p (pending b))) c → IsBegunBy next b c
      by_actor b c false other there = calls.begun b c there
      by_actor b c true same there =
          let (d, at, is) = among c there in
          let was : IsBegunBy next a d = calls.begun a d at in
          let is_a : b ≡ a = same_actor-true b a same in
          record { actor = ap (λ (x : CallId). x.actor) is ∙ was.actor ∙ sym is_a; number = subst (λ (z : CallId × ActorName). z.0.number < next z.1) (λ i. (sym is i, sym is_a i)) was.number }

      kept : (w : Who) (z : CallState) → hands w ≡ Some z → is_async (word_of_op z.op) ≡ true → (t : Bool) → same_actor z.call.actor a ≡ t → IsKeptIn (cond t p (pending z.call.actor)) z
      kept w z at async false other = calls.kept w z (left w z at) async
      kept w z at async true same =
          let is_a : z.call.actor ≡ a = same_actor-true z.call.actor a same in
          stays w z at async is_a (subst (λ b. IsKeptIn (pending b) z) is_a (calls.kept w z (left w z at) async))

  -- an asynchronous call has ended, that is in hand no more
  pub calls_ended : (call : CallId) (opened : Option ℕ) (end : Outcome) → ((w : Who) (z : CallState) → in_hand w ≡ Some z → z.call ≢ call) → AreCalls in_hand (put_actor pending call.actor (ended_in call opened end (pending call.actor))) next
  calls_ended call opened end gone = calls_over in_hand call.actor (ended_in call opened end (pending call.actor)) (λ w z at. at) (ended_among call opened end (pending call.actor)) (λ w z at async own kept. ended_stays call opened end (pending call.actor) z.call (IsKeptOf z) (gone w z at) kept)

  -- a handle of a client has ended, and the synchronisations over it go with it
  pub calls_closed : (handle : Option ℕ) (a : ActorName) → ((w : Who) (z : CallState) → in_hand w ≡ Some z → who z ≡ w) → AreCalls (λ w. cond (goes_with handle a (pending a) w) None (in_hand w)) (put_actor pending a (left_over handle (pending a))) next
  calls_closed handle a named = calls_over (λ w. cond (goes_with handle a (pending a) w) None (in_hand w)) a (left_over handle (pending a)) (λ w z at. (left_in w z at).1) (left_over_among handle (pending a)) (λ w z at async own kept.
      let (stays, was) = left_in w z at in
      let name : w ≡ whos.Call z.call = sym (named w z was) ∙ stepped_as-async z.call (word_of_op z.op) async in
      left_over_stays handle a (pending a) z.call (IsKeptOf z) (ap (λ b. same_actor b a) own ∙ same_actor-refl a) (ap (goes_with handle a (pending a)) (sym name) ∙ stays) kept)
    where
      left_in : (w : Who) (z : CallState) → cond (goes_with handle a (pending a) w) None (in_hand w) ≡ Some z → (goes_with handle a (pending a) w ≡ false) × (in_hand w ≡ Some z)
      left_in w z at = elim (goes_with handle a (pending a) w) as (λ b. cond b None (in_hand w) ≡ Some z → (b ≡ false) × (in_hand w ≡ Some z)) [ true ↦ λ none. absurd (cc none) | false ↦ λ there. (refl, there) ] at

  -- a client has left, and its asynchronous calls go with it
  pub calls_dropped : (a : ActorName) → ((w : Who) (z : CallState) → in_hand w ≡ Some z → who z ≡ w) → AreCalls (λ w. cond (is_of a w) None (in_hand w)) (put_actor pending a no_pending) next
  calls_dropped a named = calls_over (λ w. cond (is_of a w) None (in_hand w)) a no_pending (λ w z at. (left_in w z at).1) (none_among (pending a)) (λ w z at async own kept.
      let (stays, was) = left_in w z at in
      let name : w ≡ whos.Call z.call = sym (named w z was) ∙ stepped_as-async z.call (word_of_op z.op) async in
      let it : true ≡ false = sym (ap (λ b. same_actor b a) own ∙ same_actor-refl a) ∙ ap (is_of a) (sym name) ∙ stays in
      absurd (cc it))
    where
      left_in : (w : Who) (z : CallState) → cond (is_of a w) None (in_hand w) ≡ Some z → (is_of a w ≡ false) × (in_hand w ≡ Some z)
      left_in w z at = elim (is_of a w) as (λ b. cond b None (in_hand w) ≡ Some z → (b ≡ false) × (in_hand w ≡ Some z)) [ true ↦ λ none. absurd (cc none) | false ↦ λ there. (refl, there) ] at

-- ---- a call that begins

-- an asynchronous call that is answered OK is under way behind the others, and any other call leaves them or gives some
record IsBegunIn (end : Option Outcome) (call : CallId) (op : Op) (p q : PendingCalls) : Type 0 where
  -- those that were kept are kept
  stays : (other : CallId) (c : AsyncCall) → find_async other p.unfinished ≡ Some c → find_async other q.unfinished ≡ Some c
  -- each is one of them, or this one
  among : (c : AsyncCall) → Contains (calls_of q) c → ((d : AsyncCall) × Contains (calls_of p) d × (c.call ≡ d.call)) ⊎ (c.call ≡ call)
  -- this one is kept, where it goes on
  kept : (answer : Answer) → end ≡ Some (Done answer) → is_async (word_of_op op) ≡ true → find_async call p.unfinished ≡ None → (c : AsyncCall) × (find_async call q.unfinished ≡ Some c) × (c.call ≡ call) × (c.kind ≡ kind_of op) × (c.invocation ≡ invocation_of op)

-- it is no asynchronous one that goes on, and they stay
stays_begun : (end : Option Outcome) (call : CallId) (op : Op) (p : PendingCalls) → ((answer : Answer) → end ≡ Some (Done answer) → is_async (word_of_op op) ≡ true → ⊥) → IsBegunIn end call op p p
stays_begun end call op p other = record { stays = λ z c there. there; among = λ c there. inl (c, there, refl); kept = λ answer is async none. absurd (other answer is async) }

-- it gives some
given_begun : (end : Option Outcome) (n flags : ℕ) (call : CallId) (p : PendingCalls) → IsBegunIn end call (ops.Dispatch flags) p (dispatched n p)
given_begun end n flags call p = record { stays = λ other c there. there; among = λ c there. inl (dispatched_among n p c there); kept = λ answer is async none. absurd (cc async) }

-- it is an asynchronous one
async_begun : (end : Option Outcome) (call : CallId) (op : Op) (h : Option HandleView) (p : PendingCalls) → IsBegunIn end call op p (with_begun (async_call call op h) p)
async_begun end call op h p = record {
  stays = λ other c there. found_front (λ (k : AsyncCall). is_call other k.call) p.unfinished (async_call call op h ∷ []) c there;
  among = λ c there. elim (among_cases (with_begun (async_call call op h) p) c there) [
    | inl under_way ↦ elim (Contains-push_cases p.unfinished (async_call call op h) c under_way) [ inl before ↦ inl (c, among_unfinished p c before, refl) | inr new ↦ inr (ap (λ (x : AsyncCall). x.call) (sym new)) ]
    | inr ended ↦ (let (e, at, is) = ended in inl (e.asked, among_finished p e at, ap (λ (x : AsyncCall). x.call) (sym is)))
  ];
  kept = λ answer is async none. (async_call call op h, found_last (λ (k : AsyncCall). is_call call k.call) p.unfinished (async_call call op h) none (is_call-refl call), refl, refl, refl);
}

begun_in : (end : Option Outcome) (call : CallId) (op : Op) (h : Option HandleView) (p : PendingCalls) → IsBegunIn end call op p (pending_begun end call op h p)
begun_in None call op h p = stays_begun None call op p (λ answer is async. cc is)
begun_in (Some (Done answer)) call (ops.OpenAsync place invocation name flags a) h p = async_begun (Some (Done answer)) call (ops.OpenAsync place invocation name flags a) h p
begun_in (Some (Done answer)) call (ops.SyncAsync place invocation) h p = async_begun (Some (Done answer)) call (ops.SyncAsync place invocation) h p
begun_in (Some (Done answer)) call (ops.Dispatch flags) h p = given_begun (Some (Done answer)) (given_number flags p) flags call p
begun_in (Some (Done answer)) call op h p = stays_begun (Some (Done answer)) call op p (λ told is async. cc async)
begun_in (Some end) call op h p = stays_begun (Some end) call op p (λ answer is async. cc is)

-- a call that is in hand behind its beginning is the one that began, and goes on
pub begun_state : (end : Option Outcome) (call : CallId) (op : Op) (kept : Kept) (z : CallState) → call_begun end call op kept ≡ Some z → (z.call ≡ call) × (z.op ≡ op) × (goes_on (word_of_op op) end ≡ true)
begun_state end call op kept z is = by_end (goes_on (word_of_op op) end) refl is
  where
    by_driver : (o : Option Driver) → option_map (started_call call op kept) o ≡ Some z → (z.call ≡ call) × (z.op ≡ op)
    by_driver None is = absurd (cc is)
    by_driver (Some d) is = let same : started_call call op kept d ≡ z = same_Some (started_call call op kept d) z is in (ap (λ (x : CallState). x.call) (sym same), ap (λ (x : CallState). x.op) (sym same))

    by_end : (b : Bool) → goes_on (word_of_op op) end ≡ b → cond b (option_map (started_call call op kept) (driver_start call (asked op) kept)) None ≡ Some z → (z.call ≡ call) × (z.op ≡ op) × (goes_on (word_of_op op) end ≡ true)
    by_end false goes is = absurd (cc is)
    by_end true goes is = let (call_is, op_is) = by_driver (driver_start call (asked op) kept) is in (call_is, op_is, goes)

-- one that goes on and has ended its beginning was answered OK
goes_on-Done : (word : OpWord) (end : Option Outcome) → goes_on word end ≡ true → (end ≡ None → ⊥) → (answer : Answer) × (end ≡ Some (Done answer))
goes_on-Done word None goes ended = absurd (ended refl)
goes_on-Done word (Some (Done answer)) goes ended = (answer, refl)
goes_on-Done word (Some end) goes ended = absurd (cc goes)

module _ (in_hand : Who → Option CallState) (pending : ActorName → PendingCalls) (next : ActorName → ℕ) (calls : AreCalls in_hand pending next) (below : (w : Who) (z : CallState) → in_hand w ≡ Some z → z.call.number < next z.call.actor) (end : Option Outcome) (call : CallId) (op : Op) (h : Option HandleView) (k : Kept) (number : call.number ≡ next call.actor) (told : is_async (word_of_op op) ≡ true → end ≡ None → ⊥) where
  abbrev o : Option CallState
  o = call_begun end call op k

  abbrev name : Who
  name = stepped_as call (word_of_op op)

  abbrev p : PendingCalls
  p = pending call.actor

  -- a call in hand is another one
  in_hand_apart : (w : Who) (z : CallState) → in_hand w ≡ Some z → z.call ≡ call → ⊥
  in_hand_apart w z at same =
      let lower : z.call.number < next z.call.actor = below w z at in
      let number_is : z.call.number ≡ next z.call.actor = subst (λ (x : CallId). x.number ≡ next x.actor) (sym same) number in
      omega (arith, lower, number_is)

  -- none of this name is under way
  none_under_way : find_async call p.unfinished ≡ None
  none_under_way = none_found (λ (c : AsyncCall). is_call call c.call) p.unfinished (λ c among passes.
      let was : IsBegunBy next call.actor c = calls.begun call.actor c (among_unfinished p c among) in
      let lower : c.call.number < next call.actor = was.number in
      let number_is : c.call.number ≡ next call.actor = ap (λ (x : CallId). x.number) (sym (is_call-true call c.call passes)) ∙ number in
      omega (arith, lower, number_is))

  -- a call has begun, with the number that was its client's next
  pub calls_begun : AreCalls (put_who in_hand name o) (put_actor pending call.actor (pending_begun end call op h p)) (put_actor next call.actor (next call.actor + 1))
  calls_begun = record {
    one_name = λ w v x y at there is. one_name w v x y (put_who-cases in_hand name o w x at) (put_who-cases in_hand name o v y there) is;
    begun = λ b c there. begun b c (same_actor b call.actor) refl there;
    kept = λ w z at async. kept w z async (put_who-cases in_hand name o w z at);
  }
    where
      one_name : (w v : Who) (x y : CallState) → ((w ≡ name) × (o ≡ Some x)) ⊎ ((same_who w name ≡ false) × (in_hand w ≡ Some x)) → ((v ≡ name) × (o ≡ Some y)) ⊎ ((same_who v name ≡ false) × (in_hand v ≡ Some y)) → x.call ≡ y.call → w ≡ v
      one_name w v x y (inl here) (inl there) is = here.0 ∙ sym there.0
      one_name w v x y (inl here) (inr there) is = absurd (in_hand_apart v y there.1 (sym is ∙ (begun_state end call op k x here.1).0))
      one_name w v x y (inr here) (inl there) is = absurd (in_hand_apart w x here.1 (is ∙ (begun_state end call op k y there.1).0))
      one_name w v x y (inr here) (inr there) is = calls.one_name w v x y here.1 there.1 is

      begun : (b : ActorName) (c : AsyncCall) (t : Bool) → same_actor b call.actor ≡ t → Contains (calls_of (cond t (pending_begun end call op h p) (pending b))) c → IsBegunBy (put_actor next call.actor (next call.actor + 1)) b c
      begun b c false other there = let was = calls.begun b c there in record { actor = was.actor; number = subst (λ n. c.call.number < n) (sym (put_actor-other next call.actor (next call.actor + 1) b other)) was.number }
      begun b c true same there =
          let is_b : b ≡ call.actor = same_actor-true b call.actor same in
          let next_is : put_actor next call.actor (next call.actor + 1) b ≡ next call.actor + 1 = ap (put_actor next call.actor (next call.actor + 1)) is_b ∙ put_actor-here next call.actor (next call.actor + 1) in
          elim ((begun_in end call op h p).among c there) [
            | inl before ↦ (
                let (d, at, is) = before in
                let was : IsBegunBy next call.actor d = calls.begun call.actor d at in
                let lower : d.call.number < next call.actor = was.number in
                let number_is : c.call.number ≡ d.call.number = ap (λ (x : CallId). x.number) is in
                record { actor = ap (λ (x : CallId). x.actor) is ∙ was.actor ∙ sym is_b; number = subst (λ n. c.call.number < n) (sym next_is) (omega (arith, lower, number_is)) })
            | inr new ↦ (
                let number_is : c.call.number ≡ next call.actor = ap (λ (x : CallId). x.number) new ∙ number in
                record { actor = ap (λ (x : CallId). x.actor) new ∙ sym is_b; number = subst (λ n. c.call.number < n) (sym next_is) (omega (arith, number_is)) })
          ]

      kept_before : (z : CallState) (t : Bool) → same_actor z.call.actor call.actor ≡ t → IsKeptIn (pending z.call.actor) z → IsKeptIn (cond t (pending_begun end call op h p) (pending z.call.actor)) z
      kept_before z false other was = was
      kept_before z true same was =
          let (c, found, of) = IsSomeAnd-at (find_async z.call p.unfinished) (IsKeptOf z) (subst (λ b. IsKeptIn (pending b) z) (same_actor-true z.call.actor call.actor same) was) in
          IsSomeAnd-from _ (IsKeptOf z) c ((begun_in end call op h p).stays z.call c found) of

      kept : (w : Who) (z : CallState) → is_async (word_of_op z.op) ≡ true → ((w ≡ name) × (o ≡ Some z)) ⊎ ((same_who w name ≡ false) × (in_hand w ≡ Some z)) → IsKeptIn (put_actor pending call.actor (pending_begun end call op h p) z.call.actor) z
      kept w z async (inr there) = kept_before z (same_actor z.call.actor call.actor) refl (calls.kept w z there.1 async)
      kept w z async (inl here) =
          let (call_is, op_is, goes) = begun_state end call op k z here.1 in
          let async_is : is_async (word_of_op op) ≡ true = ap (λ x. is_async (word_of_op x)) (sym op_is) ∙ async in
          let (answer, done) = goes_on-Done (word_of_op op) end goes (told async_is) in
          let (c, found, name_is, kind, invocation) = (begun_in end call op h p).kept answer done async_is none_under_way in
          let here_is : put_actor pending call.actor (pending_begun end call op h p) z.call.actor ≡ pending_begun end call op h p = ap (λ (x : CallId). put_actor pending call.actor (pending_begun end call op h p) x.actor) call_is ∙ put_actor-here pending call.actor (pending_begun end call op h p) in
          subst (λ q. IsKeptIn q z) (sym here_is) (IsSomeAnd-from _ (IsKeptOf z) c (ap (λ d. find_async d (pending_begun end call op h p).unfinished) call_is ∙ found) (record { call = name_is ∙ sym call_is; kind = kind ∙ ap kind_of (sym op_is); invocation = invocation ∙ ap invocation_of (sym op_is) }))
