-- Each call in hand that a label of a run takes out of hand has ended by its own step, was abandoned by the failure of a node, or went with its client or its handle.
use Rattle.std.proofs.Common.{◌≡◌, ◌⊎◌, ℕ, ◌<◌, inl, inr, [], ◌∷◌, ◌++◌, Option, Some, None, Bool, true, false, cond, ◌&&◌, refl, sym, ap, subst, ◌∙◌, append_assoc, arith}
use Rattle.ckpt_types.specs.declared.answers.Outcome.{Outcome}
use Rattle.ckpt_types.specs.declared.identities.CallId.{CallId}
use Rattle.ckpt_types.specs.declared.identities.Who.{Who}
use Rattle.ckpt_types.specs.declared.identities.Who.TheVariants.{Actor}
use Rattle.ckpt_types.specs.declared.identities.Who.TheVariants as whos
use Rattle.ckpt_types.specs.declared.operation.Op.{Op}
use Rattle.ckpt_types.specs.declared.words.OpWord.{OpWord}
use Rattle.ckpt_types.specs.Asks.{asked}
use Rattle.ckpt_types.specs.OpWord.{is_async, stepped_as, word_of_op}
use Rattle.call_dispatch.specs.PendingCalls.{find_async}
use Rattle.node_msgs.specs.declared.details.Details.{Details}
use Rattle.node_msgs.specs.declared.steps.StepReply.{StepReply}
use Rattle.node_msgs.specs.declared.steps.StepReply.TheVariants as words
use Rattle.node_msgs.specs.declared.steps.Verb.{Verb}
use Rattle.node_msgs.specs.declared.steps.Verb.TheVariants as verbs
use Rattle.run_labels.specs.declared.labels.Label.{Label}
use Rattle.run_labels.specs.declared.labels.Label.TheVariants as labels
use Rattle.cluster_record.specs.Calls.{same_actor, left}
use Rattle.cluster_record.specs.Makings.{making_of}
use Rattle.cluster_record.specs.RecordState.{active_set}
use Rattle.ckpt_machine.specs.After.{after, changed, change_replica, record_step, on_ok, at_some, without_making, goes_with, is_over, call_begun, kept_behind, step_of}
use Rattle.ckpt_machine.specs.CallsEnd.{TellsEnd, Closes, TakesAlong, leaves, closes, EndsBy, own_step, failure, along, CallsEnd}
use Rattle.ckpt_machine.specs.Due.{IsBegun, IsDue}
use Rattle.ckpt_machine.specs.Failing.{is_abandoned, unless_abandoned}
use Rattle.ckpt_machine.specs.Invariant.{Invariant}
use Rattle.ckpt_machine.specs.Laws.{OfEachRun}
use Rattle.ckpt_machine.specs.Machine.{Machine, ReplicaState, CallState, who, empty_cluster}
use Rattle.ckpt_machine.specs.Owners.{IsCallInHand}
use Rattle.ckpt_machine.specs.Runs.{last}
use Rattle.ckpt_machine.specs.Tables.{handle_closed}
use Rattle.ckpt_machine.specs.Whose.{is_of, put_who, same_who}
use Rattle.ckpt_machine.proofs.Actors.{same_actor-true}
use Rattle.ckpt_machine.proofs.Copying.{after_pull, after_put}
use Rattle.ckpt_machine.proofs.Dropped.{held_as}
use Rattle.ckpt_machine.proofs.Histories.{run_history}
use Rattle.ckpt_machine.proofs.Runs.{last-push, run_before, run_front}
use Rattle.ckpt_machine.proofs.Starting.{first_kept}
use Rattle.ckpt_machine.proofs.Whose.{same_who-true, put_who-here, put_who-other, one_state}

-- ---- names

-- what is in hand under the own name of a call is an asynchronous one
async_under : (s : CallState) (call : CallId) → who s ≡ whos.Call call → (is_async (word_of_op s.op) ≡ true) × (s.call ≡ call)
async_under s call is = by_word (is_async (word_of_op s.op)) is
  where
    by_word : (b : Bool) → cond b (whos.Call s.call) (Actor s.call.actor) ≡ whos.Call call → (b ≡ true) × (s.call ≡ call)
    by_word true is = (refl, (let same : s.call ≡ call = cc is in same))
    by_word false is = absurd (cc is)

-- ---- a step

module _ (m : Machine) (inv : Invariant m) (t : CallState) (w : Who) (s : CallState) (held : m.in_hand w ≡ Some s) where
  -- it is in hand still
  abbrev Stays : Machine → Type 0
  Stays n = n.in_hand w ≡ Some s

  -- it is asynchronous, of the same client, and goes along
  record IsTaken (verb : Verb) (reply : StepReply) : Type 0 where
    async : is_async (word_of_op s.op) ≡ true
    client : t.call.actor ≡ s.call.actor
    takes : TakesAlong m t verb reply s

  -- by whose name it is in hand
  name : who s ≡ w
  name = (inv.holds.hands w s held).whose

  -- where the client leaves
  by_leave : (v : Who) → v ≡ w → (hands : Option CallState) → hands ≡ Some s → (cond (is_of t.call.actor v) None hands ≡ Some s) ⊎ IsTaken verbs.Leave words.Ok
  by_leave (Actor b) is hands at = inl at
  by_leave (whos.Call call) is hands at = by_test (same_actor call.actor t.call.actor) refl
    where
      by_test : (b : Bool) → same_actor call.actor t.call.actor ≡ b → (cond b None hands ≡ Some s) ⊎ IsTaken verbs.Leave words.Ok
      by_test false other = inl at
      by_test true same =
          let (async, own) = async_under s call (name ∙ sym is) in
          inr (record { async = async; client = sym (ap (λ (c : CallId). c.actor) own ∙ same_actor-true call.actor t.call.actor same); takes = leaves refl refl })

  -- where a handle is closed
  by_close : (verb : Verb) (reply : StepReply) → Closes verb reply → (handle : Option ℕ) → handle_closed (asked t.op) (m.tables t.call.actor) ≡ handle → (v : Who) → v ≡ w → (hands : Option CallState) → hands ≡ Some s
      → (cond (goes_with handle t.call.actor (m.pending t.call.actor) v) None hands ≡ Some s) ⊎ IsTaken verb reply
  by_close verb reply is_close None none v is hands at = inl at
  by_close verb reply is_close (Some handle) closed (Actor b) is hands at = inl at
  by_close verb reply is_close (Some handle) closed (whos.Call call) is hands at = by_test (same_actor call.actor t.call.actor) refl (is_over handle (find_async call (m.pending t.call.actor).unfinished)) refl
    where
      by_test : (b : Bool) → same_actor call.actor t.call.actor ≡ b → (c : Bool) → is_over handle (find_async call (m.pending t.call.actor).unfinished) ≡ c → (cond (b && c) None hands ≡ Some s) ⊎ IsTaken verb reply
      by_test false other c over = inl at
      by_test true same false over = inl at
      by_test true same true over =
          let (async, own) = async_under s call (name ∙ sym is) in
          let client : t.call.actor ≡ s.call.actor = sym (ap (λ (c : CallId). c.actor) own ∙ same_actor-true call.actor t.call.actor same) in
          let over_it : is_over handle (find_async s.call (m.pending s.call.actor).unfinished) ≡ true = ap (λ (c : CallId). is_over handle (find_async c (m.pending s.call.actor).unfinished)) own ∙ ap (λ a. is_over handle (find_async call (m.pending a).unfinished)) (sym client) ∙ over in
          inr (record { async = async; client = client; takes = closes handle is_close closed over_it })

  -- ---- steps that leave all hands

  where_ok : (reply : StepReply) (n : Machine) → Stays n → Stays (on_ok reply m n)
  where_ok words.Ok n then = then
  where_ok reply n then = held

  where_some : (o : Option ℕ) (f : ℕ → Machine) → ((k : ℕ) → Stays (f k)) → Stays (at_some o m f)
  where_some None f then = held
  where_some (Some k) f then = then k

  at_replica : (n : Machine) (k r : ℕ) (o : Option ReplicaState) (change : ReplicaState → ReplicaState) → Stays n → Stays (change_replica n k r o change)
  at_replica n k r None change then = then
  at_replica n k r (Some x) change then = then

  at_one : (reply : StepReply) (k r : Option ℕ) (change : ℕ → ℕ → ReplicaState → ReplicaState) → Stays (on_ok reply m (at_some k m (λ k. at_some r m (λ r. change_replica m k r (m.replicas k r) (change k r)))))
  at_one reply k r change = where_ok reply _ (where_some k _ (λ k. where_some r _ (λ r. at_replica m k r (m.replicas k r) (change k r) held)))

  at_entry : (reply : StepReply) (k : Option ℕ) (f : ℕ → Machine) → ((k : ℕ) → Stays (f k)) → Stays (on_ok reply m (at_some k m f))
  at_entry reply k f then = where_ok reply _ (where_some k f then)

  -- ---- any step

  abbrev Either : Verb → Option ℕ → Option ℕ → StepReply → Type 0
  Either verb k r reply = Stays (changed m t verb k r reply) ⊎ IsTaken verb reply

  left_either : (k r : Option ℕ) (reply : StepReply) → Either verbs.Leave k r reply
  left_either k r words.Ok = by_leave w refl (m.in_hand w) held
  left_either k r reply = inl held

  closed_either : (k r : Option ℕ) (reply : StepReply) → Either verbs.Close k r reply
  closed_either (Some k) r words.Ok = by_close verbs.Close words.Ok refl (handle_closed (asked t.op) (m.tables t.call.actor)) refl w refl (m.in_hand w) held
  closed_either None r words.Ok = inl held
  closed_either k r reply = inl held

  unmade : (k : Option ℕ) → Stays (without_making k m)
  unmade None = held
  unmade (Some k) = held

  looked_either : (k r : Option ℕ) (reply : StepReply) → Either verbs.Look k r reply
  looked_either k r words.Done = by_close verbs.Look words.Done refl (handle_closed (asked t.op) (m.tables t.call.actor)) refl w refl (m.in_hand w) held
  looked_either k r words.Refused = inl (unmade (making_of t.call m.cluster))
  looked_either k r reply = inl held

  changed_either : (verb : Verb) (k r : Option ℕ) (reply : StepReply) → Either verb k r reply
  changed_either verbs.Enter k r reply = inl (where_ok reply _ (where_some r _ (λ r. held)))
  changed_either verbs.Leave k r reply = left_either k r reply
  changed_either verbs.Create k r reply = inl (where_ok reply _ held)
  changed_either verbs.Reserve k r reply = inl (at_entry reply k _ (λ k. where_some r _ (λ r. held)))
  changed_either verbs.Finish k r reply = inl (at_entry reply k _ (λ k. held))
  changed_either verbs.Undo k r reply = inl (at_entry reply k _ (λ k. held))
  changed_either verbs.Open k r reply = inl (at_entry reply k _ (λ k. held))
  changed_either verbs.Close k r reply = closed_either k r reply
  changed_either verbs.Unlink k r reply = inl (at_entry reply k _ (λ k. held))
  changed_either verbs.Retain k r reply = inl (at_entry reply k _ (λ k. held))
  changed_either verbs.Stage k r reply = inl (at_one reply k r _)
  changed_either verbs.Claim k r reply = inl (at_one reply k r _)
  changed_either verbs.Withdraw k r reply = inl (at_one reply k r _)
  changed_either verbs.Commit k r reply = inl (at_one reply k r _)
  changed_either verbs.Apply k r reply = inl (at_one reply k r _)
  changed_either verbs.Mark k r reply = inl (at_one reply k r _)
  changed_either verbs.Element k r reply = inl (at_one reply k r _)
  changed_either verbs.Unmark k r reply = inl (at_one reply k r _)
  changed_either verbs.Install k r reply = inl (at_one reply k r _)
  changed_either verbs.Iter k r reply = inl (at_entry reply k _ (λ k. where_some r _ (λ r. held)))
  changed_either verbs.Next k r reply = inl (at_entry reply k _ (λ k. where_some r _ (λ r. held)))
  changed_either verbs.Hold k r reply = inl (at_entry reply k _ (λ k. held))
  changed_either verbs.Activate k r reply = inl (at_entry reply k _ (λ k. where_some r _ (λ r. at_replica (record_step (active_set k r) m) k r ((record_step (active_set k r) m).replicas k r) _ held)))
  changed_either verbs.Complete k r reply = inl (at_entry reply k _ (λ k. where_some r _ (λ r. held)))
  changed_either verbs.Look k r reply = looked_either k r reply
  changed_either verb k r reply = inl held

-- ---- any label

module _ (m : Machine) (inv : Invariant m) (w : Who) (s : CallState) (held : m.in_hand w ≡ Some s) where
  -- it is in hand behind the label, or has ended in one of the ways
  abbrev GoesOn : Label → Type 0
  GoesOn l = IsCallInHand (after m l) s.call ⊎ EndsBy m l s

  still : (n : Machine) → n.in_hand w ≡ Some s → IsCallInHand n s.call
  still n at = record { name = w; state = s; in_hand = at; call_is = refl }

  -- where a call begins, no other has its name
  begun_on : (call : CallId) (op : Op) (end : Option Outcome) (details : Details) → IsBegun m call op end details → GoesOn (labels.Began call op end details)
  begun_on call op end details due = by_test (same_who w name_then) refl
    where
      name_then : Who
      name_then = stepped_as call (word_of_op op)

      begun : Option CallState
      begun = call_begun end call op (first_kept m call op)

      none_there : (b : Bool) → m.in_hand (cond b (whos.Call call) (Actor call.actor)) ≡ Some s → (cond b (whos.Call call) (Actor call.actor)) ≡ w → ⊥
      none_there false at is = let none : None ≡ Some s = sym due.none_in_hand ∙ at in cc none
      none_there true at is =
          let hand = inv.holds.hands w s held in
          let own : s.call ≡ call = (async_under s call (hand.whose ∙ sym is)).1 in
          let below : s.call.number < m.next s.call.actor = hand.number in
          let next : s.call.number ≡ m.next s.call.actor = ap (λ (c : CallId). c.number) own ∙ due.number ∙ ap (λ (c : CallId). m.next c.actor) (sym own) in
          omega (arith, below, next)

      by_test : (b : Bool) → same_who w name_then ≡ b → GoesOn (labels.Began call op end details)
      by_test false other = inl (still (after m (labels.Began call op end details)) (put_who-other m.in_hand name_then begun w other ∙ held))
      by_test true same =
          let is : w ≡ name_then = same_who-true w name_then same in
          absurd (none_there (is_async (word_of_op op)) (ap m.in_hand (sym is) ∙ held) (sym is))

  -- where a call takes a step
  stepped_on : (call : CallId) (word : OpWord) (verb : Verb) (k r : Option ℕ) (reply : StepReply) (end : Option Outcome) (details : Details) → IsDue m (labels.Stepped call word verb k r reply end details) → GoesOn (labels.Stepped call word verb k r reply end details)
  stepped_on call word verb k r reply end details due = by_test (same_who w (who t)) refl
    where
      l : Label
      l = labels.Stepped call word verb k r reply end details

      t : CallState
      t = due.state

      t_held : m.in_hand (who t) ≡ Some t
      t_held = held_as m call word t due.in_hand due.call_is due.word

      n : Machine
      n = changed m t verb k r reply

      behind : CallState
      behind = kept_behind m t n.cluster verb k r reply

      -- what is in hand behind it
      hands : (after m l).in_hand ≡ put_who n.in_hand (who t) (left end behind)
      hands = ap (λ o. (step_of m o verb k r reply end).in_hand) due.in_hand

      -- it is its own step
      own_on : s ≡ t → (e : Option Outcome) → end ≡ e → GoesOn l
      own_on same None none = inl (record { name = who t; state = behind; in_hand = ap (λ f. f (who t)) hands ∙ put_who-here n.in_hand (who t) (left end behind) ∙ ap (λ o. left o behind) none; call_is = ap (λ (z : CallState). z.call) (sym same) })
      own_on same (Some e) some = inr (own_step (subst (λ o. TellsEnd (labels.Stepped call word verb k r reply o details) s) (sym some) (sym due.call_is ∙ ap (λ (z : CallState). z.call) (sym same), sym due.word ∙ ap (λ (z : CallState). word_of_op z.op) (sym same))))

      by_test : (b : Bool) → same_who w (who t) ≡ b → GoesOn l
      by_test true same = own_on (one_state m.in_hand w (who t) s t held t_held (same_who-true w (who t) same)) end refl
      by_test false other = elim (changed_either m inv t w s held verb k r reply) [
        | inl stays ↦ inl (still (after m l) (ap (λ f. f w) hands ∙ put_who-other n.in_hand (who t) (left end behind) w other ∙ stays))
        | inr taken ↦ inr (along (record { async = taken.async; other = t; verb = verb; reply = reply; step = (due.in_hand, due.call_is, refl, refl); client = taken.client; takes = taken.takes }))
      ]

  -- where a node fails
  failed_on : (r : ℕ) → GoesOn (labels.Failed r true)
  failed_on r = by_test (is_abandoned m.cluster r s.call s.op) refl
    where
      by_test : (b : Bool) → is_abandoned m.cluster r s.call s.op ≡ b → GoesOn (labels.Failed r true)
      by_test true abandoned = inr (failure abandoned)
      by_test false stays = inl (still (after m (labels.Failed r true)) (ap (unless_abandoned m.cluster r) held ∙ ap (λ b. cond b None (Some s)) stays))

  -- WHATEVER THE LABEL IS
  goes_on_or_ends : (l : Label) → IsDue m l → GoesOn l
  goes_on_or_ends (labels.Began call op end details) due = begun_on call op end details due
  goes_on_or_ends (labels.Stepped call word verb k r reply end details) due = stepped_on call word verb k r reply end details due
  goes_on_or_ends (labels.Word by word said) due = inl (still m held)
  goes_on_or_ends (labels.Nodes n) due = inl (still (after m (labels.Nodes n)) held)
  goes_on_or_ends (labels.Moved t) due = inl (still (after m (labels.Moved t)) held)
  goes_on_or_ends (labels.Failed r true) due = failed_on r
  goes_on_or_ends (labels.Failed r false) due = inl (still m held)
  goes_on_or_ends (labels.Joined r (Some incarnation)) due = inl (still (after m (labels.Joined r (Some incarnation))) held)
  goes_on_or_ends (labels.Joined r None) due = inl (still m held)
  goes_on_or_ends (labels.Shown k replicas) due = inl (still m held)
  goes_on_or_ends (labels.Pulled k reply) due = inl (after_pull (λ n. IsCallInHand n s.call) m k reply due (still m held) (λ x from none. still _ held))
  goes_on_or_ends (labels.Put k r reply) due = inl (after_put (λ n. IsCallInHand n s.call) m k r reply (still m held) (λ z x copied on. still _ held))

-- THE LAW: at each label of a run
pub calls_end : OfEachRun CallsEnd
calls_end log run front back l w s is held gone =
    let (before, allowed, due) = run_before empty_cluster front l (run_front log (front ++ l ∷ []) back (is ∙ sym (append_assoc front (l ∷ []) back)) run) in
    let inv = (run_history front before).0 in
    elim (goes_on_or_ends (last front) inv w s held l due) [
      | inl there ↦ absurd (gone (subst (λ n. IsCallInHand n s.call) (sym (last-push front l)) there))
      | inr ends ↦ ends
    ]
