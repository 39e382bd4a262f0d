-- Each asynchronous call that its client is to be told of, and that has not ended, is in hand under its own name, and is the one of that name.
use Rattle.std.proofs.Common.{◌≡◌, ◌≢◌, ℕ, ◌<◌, inl, inr, arith, List, [], ◌∷◌, ◌++◌, Option, Some, None, is_some, Bool, true, false, cond, not, ◌&&◌, refl, sym, ap, subst, ◌∙◌}
use Rattle.std.specs.Prelude.{IsSome, Contains}
use Rattle.std.proofs.lemmas.List.Elements.{Contains-push_cases}
use Rattle.ckpt_types.specs.declared.answers.Outcome.{Outcome}
use Rattle.ckpt_types.specs.declared.answers.Outcome.TheVariants.{Done}
use Rattle.ckpt_types.specs.declared.identities.ActorName.{ActorName}
use Rattle.ckpt_types.specs.declared.identities.CallId.{CallId}
use Rattle.ckpt_types.specs.declared.identities.Who.{Who}
use Rattle.ckpt_types.specs.declared.identities.Who.TheVariants.{Actor}
use Rattle.ckpt_types.specs.declared.identities.Who.TheVariants as whos
use Rattle.ckpt_types.specs.declared.operation.Op.{Op}
use Rattle.ckpt_types.specs.declared.operation.Op.TheVariants as ops
use Rattle.ckpt_types.specs.OpWord.{is_async, word_of_op, stepped_as}
use Rattle.call_dispatch.specs.PendingCalls.{PendingCalls, no_pending, is_call, find_async, goes_over, ending, ended_in, forgotten_over, dispatched, given_number, with_begun}
use Rattle.call_dispatch.specs.declared.async_call.AsyncCall.{AsyncCall}
use Rattle.client_handles.specs.ClientState.{ClientState}
use Rattle.client_handles.specs.declared.handle_view.HandleView.{HandleView}
use Rattle.cluster_record.specs.Calls.{same_actor, put_actor, left}
use Rattle.node_msgs.specs.declared.details.Details.{Details}
use Rattle.node_msgs.specs.declared.steps.StepReply.{StepReply}
use Rattle.node_msgs.specs.declared.steps.Verb.{Verb}
use Rattle.run_labels.specs.declared.labels.Label.{Label}
use Rattle.run_labels.specs.declared.labels.Label.TheVariants as labels
use Rattle.ckpt_types.specs.Asks.{Ask, asked, is_async_ask}
use Rattle.ckpt_types.specs.Asks as asks
use Rattle.ckpt_machine.specs.Failing.{enters_on, failed_at, is_of_node}
use Rattle.ckpt_machine.specs.Invariant.{IsBegunBy, Invariant}
use Rattle.ckpt_machine.specs.Machine.{Machine, CallState, who}
use Rattle.ckpt_machine.specs.After.{after, after_beginning, changed, async_call, call_begun, goes_with, is_over, left_over, kept_behind, step_of, ended_calls, handle_opened}
use Rattle.ckpt_machine.specs.Due.{IsBegun, IsDue, asked_handle}
use Rattle.ckpt_machine.specs.Owners.{IsCallInHand}
use Rattle.ckpt_machine.specs.Runs.{last, IsRun}
use Rattle.ckpt_machine.specs.Whose.{is_of, put_who, same_who}
use Rattle.ckpt_machine.proofs.ChangedHands.{changed_holds}
use Rattle.ckpt_machine.proofs.Actors.{same_actor-refl, same_actor-true, same_call-false}
use Rattle.ckpt_machine.proofs.AsyncNames.{async_asked, async_named}
use Rattle.ckpt_machine.proofs.Copying.{after_pull, after_put}
use Rattle.ckpt_machine.proofs.FailedCalls.{by_client, still}
use Rattle.ckpt_machine.proofs.Histories.{run_history}
use Rattle.ckpt_machine.proofs.KeptLists.{among_none, among_filtered, passes_filtered, none_found, found_filtered, found_front, found_last}
use Rattle.ckpt_machine.proofs.PendingNames.{is_call-true, is_call-refl, among_unfinished}
use Rattle.ckpt_machine.proofs.Runs.{along}
use Rattle.ckpt_machine.proofs.Starting.{first_kept, goes_on_in_hand}
use Rattle.ckpt_machine.proofs.Whose.{put_who-other, stepped_as-plain, stepped_as-async}

-- an asynchronous call is awaited: it is of its actor, the one of its name among these, and in hand
pub record IsAwaited (in_hand : Who → Option CallState) (calls : List AsyncCall) (a : ActorName) (c : AsyncCall) : Type 0 where
  pub actor : c.call.actor ≡ a
  pub found : find_async c.call calls ≡ Some c
  pub held : IsSome (in_hand (whos.Call c.call))

-- so is each that has not ended
abbrev pub AreUnderWay : (Who → Option CallState) → (ActorName → PendingCalls) → Type 0
AreUnderWay in_hand pending = (a : ActorName) (c : AsyncCall) → Contains (pending a).unfinished c → IsAwaited in_hand (pending a).unfinished a c

abbrev pub HasUnderWay : Machine → Type 0
HasUnderWay m = AreUnderWay m.in_hand m.pending

and_false : (b c : Bool) → c ≡ false → (b && c) ≡ false
and_false true c is = is
and_false false c is = refl

-- an asynchronous call asks for something else than to become live
async_enters : (r : ℕ) (ask : Ask) → is_async_ask ask ≡ true → enters_on r ask ≡ false
async_enters r (asks.Enter q version callbacks) is = absurd (cc is)
async_enters r ask is = refl

-- ---- those of one actor change

module _ (in_hand : Who → Option CallState) (pending : ActorName → PendingCalls) (under_way : AreUnderWay in_hand pending) where
  -- where these are left of an actor, and those of others stay in hand
  left_of : (hands : Who → Option CallState) (a : ActorName) (p : PendingCalls)
      → ((c : AsyncCall) → Contains p.unfinished c → IsAwaited hands p.unfinished a c)
      → ((b : ActorName) (c : AsyncCall) → same_actor b a ≡ false → IsAwaited in_hand (pending b).unfinished b c → IsSome (hands (whos.Call c.call)))
      → AreUnderWay hands (put_actor pending a p)
  left_of hands a p own others b c there = by_actor (same_actor b a) refl there
    where
      by_actor : (t : Bool) → same_actor b a ≡ t → Contains (cond t p (pending b)).unfinished c → IsAwaited hands (cond t p (pending b)).unfinished b c
      by_actor false other there = let was = under_way b c there in record { actor = was.actor; found = was.found; held = others b c other was }
      by_actor true same there = let is = own c there in record { actor = is.actor ∙ sym (same_actor-true b a same); found = is.found; held = is.held }

  -- that of another actor is none of this one's
  not_of : (a b : ActorName) (c : AsyncCall) → same_actor b a ≡ false → IsAwaited in_hand (pending b).unfinished b c → same_actor c.call.actor a ≡ false
  not_of a b c other was = ap (λ d. same_actor d a) was.actor ∙ other

  -- where a client has left, those of others stay
  dropped_under_way : (a : ActorName) → AreUnderWay (λ w. cond (is_of a w) None (in_hand w)) (put_actor pending a no_pending)
  dropped_under_way a = left_of (λ w. cond (is_of a w) None (in_hand w)) a no_pending (λ c there. absurd (among_none c there)) (λ b c other was. ap (λ t. is_some (cond t None (in_hand (whos.Call c.call)))) (not_of a b c other was) ∙ was.held)

  -- where a handle has ended, those stay that do not go over it
  closed_under_way : (handle : Option ℕ) (a : ActorName) → AreUnderWay (λ w. cond (goes_with handle a (pending a) w) None (in_hand w)) (put_actor pending a (left_over handle (pending a)))
  closed_under_way None a = left_of in_hand a (pending a) (λ c there. under_way a c there) (λ b c other was. was.held)
  closed_under_way (Some handle) a = left_of (λ w. cond (goes_with (Some handle) a (pending a) w) None (in_hand w)) a (forgotten_over handle (pending a))
      (λ c there. (
      let was = under_way a c (among_filtered _ (pending a).unfinished c there) in
      let stays : not (goes_over handle c) ≡ true = passes_filtered (λ (kept : AsyncCall). not (goes_over handle kept)) (pending a).unfinished c there in
      let apart : goes_over handle c ≡ false = not_true (goes_over handle c) stays in
      record {
        actor = was.actor;
        found = found_filtered (λ (kept : AsyncCall). is_call c.call kept.call) (λ (kept : AsyncCall). not (goes_over handle kept)) (pending a).unfinished c was.found stays;
        held = ap (λ t. is_some (cond t None (in_hand (whos.Call c.call)))) (and_false (same_actor c.call.actor a) (is_over handle (find_async c.call (pending a).unfinished)) (ap (is_over handle) was.found ∙ apart)) ∙ was.held;
      }))
      (λ b c other was. ap (λ t. is_some (cond (t && is_over handle (find_async c.call (pending a).unfinished)) None (in_hand (whos.Call c.call)))) (not_of a b c other was) ∙ was.held)
    where
      not_true : (b : Bool) → not b ≡ true → b ≡ false
      not_true true is = absurd (cc is)
      not_true false is = refl

  -- a call goes on or ends, and where an asynchronous one has ended it is under way no more
  stepped_under_way : (s : CallState) (end : Option Outcome) (t : ClientState) → AreUnderWay (put_who in_hand (who s) (left end s)) (put_actor pending s.call.actor (ended_calls s end t (pending s.call.actor)))
  stepped_under_way s None t = left_of (put_who in_hand (who s) (Some s)) s.call.actor (pending s.call.actor)
      (λ c there. (let was = under_way s.call.actor c there in record { actor = was.actor; found = was.found; held = some (whos.Call c.call) was.held })) (λ b c other was. some (whos.Call c.call) was.held)
    where
      some : (v : Who) → IsSome (in_hand v) → IsSome (put_who in_hand (who s) (Some s) v)
      some v held = elim (same_who v (who s)) as (λ t. IsSome (cond t (Some s) (in_hand v))) [ true ↦ refl | false ↦ held ]
  stepped_under_way s (Some end) t = by_word (is_async (word_of_op s.op)) refl
    where
      by_word : (b : Bool) → is_async (word_of_op s.op) ≡ b → AreUnderWay (put_who in_hand (who s) None) (put_actor pending s.call.actor (cond b (ended_in s.call (handle_opened end t) end (pending s.call.actor)) (pending s.call.actor)))
      by_word false plain = left_of (put_who in_hand (who s) None) s.call.actor (pending s.call.actor)
          (λ c there. (let was = under_way s.call.actor c there in record { actor = was.actor; found = was.found; held = apart c was.held })) (λ b c other was. apart c was.held)
        where
          apart : (c : AsyncCall) → IsSome (in_hand (whos.Call c.call)) → IsSome (put_who in_hand (who s) None (whos.Call c.call))
          apart c held = ap is_some (put_who-other in_hand (who s) None (whos.Call c.call) (ap (same_who (whos.Call c.call)) (stepped_as-plain s.call (word_of_op s.op) plain))) ∙ held
      by_word true async = left_of (put_who in_hand (who s) None) s.call.actor (ended_in s.call (handle_opened end t) end (pending s.call.actor)) (by_found (find_async s.call (pending s.call.actor).unfinished) refl)
          (λ b c other was. apart c (λ same. (let w : true ≡ false = sym (ap (λ d. same_actor d s.call.actor) (ap (λ (x : CallId). x.actor) same) ∙ same_actor-refl s.call.actor) ∙ not_of s.call.actor b c other was in cc w)) was.held)
        where
          apart : (c : AsyncCall) → c.call ≢ s.call → IsSome (in_hand (whos.Call c.call)) → IsSome (put_who in_hand (who s) None (whos.Call c.call))
          apart c other held = ap is_some (put_who-other in_hand (who s) None (whos.Call c.call) (ap (same_who (whos.Call c.call)) (stepped_as-async s.call (word_of_op s.op) async) ∙ same_call-false c.call s.call other)) ∙ held

          by_found : (o : Option AsyncCall) → find_async s.call (pending s.call.actor).unfinished ≡ o → (c : AsyncCall) → Contains (ending o s.call (handle_opened end t) end (pending s.call.actor)).unfinished c
              → IsAwaited (put_who in_hand (who s) None) (ending o s.call (handle_opened end t) end (pending s.call.actor)).unfinished s.call.actor c
          by_found None none c there =
              let was = under_way s.call.actor c there in
              let other : c.call ≢ s.call = λ same. (let w : None ≡ Some c = sym none ∙ ap (λ d. find_async d (pending s.call.actor).unfinished) (sym same) ∙ was.found in cc w) in
              record { actor = was.actor; found = was.found; held = apart c other was.held }
          by_found (Some kept) found c there =
              let was = under_way s.call.actor c (among_filtered _ (pending s.call.actor).unfinished c there) in
              let stays : not (is_call s.call c.call) ≡ true = passes_filtered (λ (k : AsyncCall). not (is_call s.call k.call)) (pending s.call.actor).unfinished c there in
              let other : c.call ≢ s.call = λ same. (let w : false ≡ true = sym (ap not (ap (is_call s.call) same ∙ is_call-refl s.call)) ∙ stays in cc w) in
              record {
                actor = was.actor;
                found = found_filtered (λ (k : AsyncCall). is_call c.call k.call) (λ (k : AsyncCall). not (is_call s.call k.call)) (pending s.call.actor).unfinished c was.found stays;
                held = apart c other was.held;
              }

-- ---- what a label leaves

module _ (m : Machine) (under_way : HasUnderWay m) where
  step_under_way : (o : Option CallState) (verb : Verb) (k r : Option ℕ) (reply : StepReply) (end : Option Outcome) → HasUnderWay (step_of m o verb k r reply end)
  step_under_way None verb k r reply end = under_way
  step_under_way (Some s) verb k r reply end =
      let n = changed m s verb k r reply in
      stepped_under_way n.in_hand n.pending (changed_holds AreUnderWay m under_way (dropped_under_way m.in_hand m.pending under_way) (closed_under_way m.in_hand m.pending under_way) s verb k r reply) (kept_behind m s n.cluster verb k r reply) end (n.tables s.call.actor)

  module _ (inv : Invariant m) (call : CallId) (op : Op) (end : Option Outcome) (details : Details) (is : IsBegun m call op end details) where
    abbrev p : PendingCalls
    p = m.pending call.actor

    abbrev hands : Who → Option CallState
    hands = put_who m.in_hand (stepped_as call (word_of_op op)) (call_begun end call op (first_kept m call op))

    -- one that is under way is another call
    another : (a : ActorName) (c : AsyncCall) → Contains (m.pending a).unfinished c → c.call ≢ call
    another a c there same =
        let was : IsBegunBy m.next a c = inv.holds.calls.begun a c (among_unfinished (m.pending a) c there) in
        let actor : call.actor ≡ a = ap (λ (x : CallId). x.actor) (sym same) ∙ was.actor in
        let lower : c.call.number < m.next a = was.number in
        let number : c.call.number ≡ m.next a = ap (λ (x : CallId). x.number) same ∙ is.number ∙ ap m.next actor in
        omega (arith, lower, number)

    -- so it stays in hand
    stays : (c : AsyncCall) → c.call ≢ call → IsSome (m.in_hand (whos.Call c.call)) → IsSome (hands (whos.Call c.call))
    stays c other held = by_word (is_async (word_of_op op)) refl
      where
        by_word : (b : Bool) → is_async (word_of_op op) ≡ b → IsSome (hands (whos.Call c.call))
        by_word false plain = ap is_some (put_who-other m.in_hand (stepped_as call (word_of_op op)) (call_begun end call op (first_kept m call op)) (whos.Call c.call) (ap (same_who (whos.Call c.call)) (stepped_as-plain call (word_of_op op) plain))) ∙ held
        by_word true async = ap is_some (put_who-other m.in_hand (stepped_as call (word_of_op op)) (call_begun end call op (first_kept m call op)) (whos.Call c.call) (ap (same_who (whos.Call c.call)) (stepped_as-async call (word_of_op op) async) ∙ same_call-false c.call call other)) ∙ held

    others_stay : (b : ActorName) (c : AsyncCall) → Contains (m.pending b).unfinished c → IsAwaited hands (m.pending b).unfinished b c
    others_stay b c there = let was = under_way b c there in record { actor = was.actor; found = was.found; held = stays c (another b c there) was.held }

    -- where it is an asynchronous one, it is the last of them
    async_under_way : (h : Option HandleView) → IsSome (hands (whos.Call call)) → (c : AsyncCall) → Contains (p.unfinished ++ async_call call op h ∷ []) c → IsAwaited hands (p.unfinished ++ async_call call op h ∷ []) call.actor c
    async_under_way h held c there = elim (Contains-push_cases p.unfinished (async_call call op h) c there) [
      | inl before ↦ (let was = others_stay call.actor c before in record { actor = was.actor; found = found_front (λ (k : AsyncCall). is_call c.call k.call) p.unfinished (async_call call op h ∷ []) c was.found; held = was.held })
      | inr new ↦ subst (IsAwaited hands (p.unfinished ++ async_call call op h ∷ []) call.actor) new (record { actor = refl; found = found_last (λ (k : AsyncCall). is_call call k.call) p.unfinished (async_call call op h) none_before (is_call-refl call); held = held })
    ]
      where
        none_before : find_async call p.unfinished ≡ None
        none_before = none_found (λ (k : AsyncCall). is_call call k.call) p.unfinished (λ k among passes. another call.actor k among (sym (is_call-true call k.call passes)))

    -- where these are under way then of its actor, all are
    begun_by : (q : PendingCalls) → ((c : AsyncCall) → Contains q.unfinished c → IsAwaited hands q.unfinished call.actor c) → AreUnderWay hands (put_actor m.pending call.actor q)
    begun_by q own = left_of m.in_hand m.pending under_way hands call.actor q own (λ b c other was. stays c (λ same. (
        let apart = not_of m.in_hand m.pending under_way call.actor b c other was in
        let w : true ≡ false = sym (ap (λ d. same_actor d call.actor) (ap (λ (x : CallId). x.actor) same) ∙ same_actor-refl call.actor) ∙ apart in
        cc w)) was.held)

  -- a call has begun
  begin_under_way : Invariant m → (call : CallId) (op : Op) (end : Option Outcome) (details : Details) → IsBegun m call op end details → HasUnderWay (after_beginning m call op end)
  begin_under_way inv call op None details is = begun_by inv call op None details is (m.pending call.actor) (others_stay inv call op None details is call.actor)
  begin_under_way inv call (ops.OpenAsync place invocation name flags a) (Some (Done answer)) details is =
      let op = ops.OpenAsync place invocation name flags a in
      let h = asked_handle m call.actor op in
      begun_by inv call op (Some (Done answer)) details is (with_begun (async_call call op h) (m.pending call.actor))
      (async_under_way inv call op (Some (Done answer)) details is h (ap is_some (goes_on_in_hand m call op (Some (Done answer)) details is refl).2))
  begin_under_way inv call (ops.SyncAsync place invocation) (Some (Done answer)) details is =
      let op = ops.SyncAsync place invocation in
      let h = asked_handle m call.actor op in
      begun_by inv call op (Some (Done answer)) details is (with_begun (async_call call op h) (m.pending call.actor))
      (async_under_way inv call op (Some (Done answer)) details is h (ap is_some (goes_on_in_hand m call op (Some (Done answer)) details is refl).2))
  begin_under_way inv call (ops.Dispatch flags) (Some (Done answer)) details is =
      begun_by inv call (ops.Dispatch flags) (Some (Done answer)) details is (dispatched (given_number flags (m.pending call.actor)) (m.pending call.actor)) (others_stay inv call (ops.Dispatch flags) (Some (Done answer)) details is call.actor)
  begin_under_way inv call op (Some (Done answer)) details is = begun_by inv call op (Some (Done answer)) details is (m.pending call.actor) (others_stay inv call op (Some (Done answer)) details is call.actor)
  begin_under_way inv call op (Some end) details is = begun_by inv call op (Some end) details is (m.pending call.actor) (others_stay inv call op (Some end) details is call.actor)

  -- a node has failed: those are left that are of no client on it, and are in hand
  failed_under_way : Invariant m → (r : ℕ) → HasUnderWay (failed_at r m)
  failed_under_way inv r a c there = by_node (is_of_node m.cluster r a) refl there
    where
      by_node : (b : Bool) → is_of_node m.cluster r a ≡ b → Contains (cond b no_pending (m.pending a)).unfinished c → IsAwaited (failed_at r m).in_hand (cond b no_pending (m.pending a)).unfinished a c
      by_node true goes among = absurd (among_none c among)
      by_node false stays among = record { actor = was.actor; found = was.found; held = by_hand (m.in_hand (whos.Call c.call)) refl was.held }
        where
          was : IsAwaited m.in_hand (m.pending a).unfinished a c
          was = under_way a c among

          by_hand : (o : Option CallState) → m.in_hand (whos.Call c.call) ≡ o → IsSome o → IsSome ((failed_at r m).in_hand (whos.Call c.call))
          by_hand None none some = absurd (cc some)
          by_hand (Some s) held some =
              let (async, named) = async_named s c.call (inv.holds.hands (whos.Call c.call) s held).whose in
              let other : is_of_node m.cluster r s.call.actor ≡ false = ap (is_of_node m.cluster r) (ap (λ (d : CallId). d.actor) named ∙ was.actor) ∙ stays in
              ap is_some (still m inv.shapes inv.holds r (whos.Call c.call) s held (by_client m inv.shapes inv.holds r s (async_enters r (asked s.op) (sym (async_asked s.op) ∙ async)) ∙ other))

  -- whatever the label is
  after_under_way : Invariant m → (l : Label) → IsDue m l → HasUnderWay (after m l)
  after_under_way inv (labels.Began call op end details) due = begin_under_way inv call op end details due
  after_under_way inv (labels.Stepped call op verb k r reply end details) due = step_under_way (m.in_hand (stepped_as call op)) verb k r reply end
  after_under_way inv (labels.Word by word said) due = under_way
  after_under_way inv (labels.Nodes n) due = under_way
  after_under_way inv (labels.Moved t) due = under_way
  after_under_way inv (labels.Failed r true) due = failed_under_way inv r
  after_under_way inv (labels.Failed r false) due = under_way
  after_under_way inv (labels.Joined r (Some incarnation)) due = under_way
  after_under_way inv (labels.Joined r None) due = under_way
  after_under_way inv (labels.Shown k replicas) due = under_way
  after_under_way inv (labels.Pulled k reply) due = after_pull HasUnderWay m k reply due under_way (λ x from none. under_way)
  after_under_way inv (labels.Put k r reply) due = after_put HasUnderWay m k r reply under_way (λ s x copied on. under_way)

-- so it is in every run
pub all_under_way : (log : List Label) → IsRun log → HasUnderWay (last log)
all_under_way log run = along (λ log m. HasUnderWay m) (λ front l run allowed due has. after_under_way (last front) has (run_history front run).0 l due) [] log run (λ a c there. absurd (among_none c there))

-- A CALL UNDER WAY IS IN HAND
pub under_way_held : (log : List Label) → IsRun log → (a : ActorName) (c : AsyncCall) → Contains ((last log).pending a).unfinished c → IsCallInHand (last log) c.call
under_way_held log run a c there = by_hand ((last log).in_hand (whos.Call c.call)) refl (all_under_way log run a c there).held
  where
    by_hand : (o : Option CallState) → (last log).in_hand (whos.Call c.call) ≡ o → IsSome o → IsCallInHand (last log) c.call
    by_hand None none some = absurd (cc some)
    by_hand (Some s) held some = record { name = whos.Call c.call; state = s; in_hand = held; call_is = (async_named s c.call ((run_history log run).0.holds.hands (whos.Call c.call) s held).whose).1 }
