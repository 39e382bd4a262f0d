-- A call that has ended comes into hand no more; so one that is in hand has not ended before a call began that has begun.
use Rattle.std.proofs.Common.{◌≡◌, ◌⊎◌, ℕ, ◌<◌, ◌≤◌, inl, inr, List, [], ◌∷◌, ◌++◌, Option, Some, None, true, false, cond, ◌&&◌, refl, sym, ap, subst, ◌∙◌, append_assoc, arith}
use Rattle.std.proofs.lemmas.Option.{same_Some}
use Rattle.ckpt_types.specs.declared.answers.Outcome.{Outcome}
use Rattle.ckpt_types.specs.declared.identities.CallId.{CallId}
use Rattle.ckpt_types.specs.declared.identities.Who.{Who}
use Rattle.ckpt_types.specs.declared.identities.Who.TheVariants.{Call}
use Rattle.ckpt_types.specs.Asks.{asked}
use Rattle.ckpt_types.specs.OpWord.{word_of_op, stepped_as}
use Rattle.call_dispatch.specs.PendingCalls.{find_async}
use Rattle.node_msgs.specs.declared.details.Details.{Details}
use Rattle.node_msgs.specs.declared.steps.StepReply.{StepReply}
use Rattle.node_msgs.specs.declared.steps.StepReply.TheVariants as words
use Rattle.node_msgs.specs.declared.steps.Verb.{Verb}
use Rattle.node_msgs.specs.declared.steps.Verb.TheVariants as verbs
use Rattle.run_labels.specs.declared.labels.Label.{Label}
use Rattle.run_labels.specs.declared.labels.Label.TheVariants as labels
use Rattle.cluster_record.specs.Calls.{left, same_actor}
use Rattle.ckpt_machine.specs.After.{call_begun, kept_behind, changed, step_of, after, goes_with, is_over}
use Rattle.ckpt_machine.specs.CallsEnd.{TellsEnd, IsAbandonedBy, Closes, TakesAlong, leaves, closes, GoesAlong, EndsBy, own_step, failure, along as goes_along}
use Rattle.ckpt_machine.specs.Due.{Told, IsDue}
use Rattle.ckpt_machine.specs.Failing.{is_abandoned, failed_at}
use Rattle.ckpt_machine.specs.Guards.{Allowed, Row}
use Rattle.ckpt_machine.specs.InOrder.{IsEnding, EndsBefore}
use Rattle.ckpt_machine.specs.Invariant.{Invariant}
use Rattle.ckpt_machine.specs.LastStep.{IsLastStep}
use Rattle.ckpt_machine.specs.Machine.{Machine, CallState, who}
use Rattle.ckpt_machine.specs.Owners.{IsCallInHand, IsUnended}
use Rattle.ckpt_machine.specs.Runs.{last, IsRun}
use Rattle.ckpt_machine.specs.Tables.{handle_closed}
use Rattle.ckpt_machine.proofs.Actors.{same_actor-refl}
use Rattle.ckpt_machine.proofs.BegunOnce.{next_after, stand, step_below, until, took}
use Rattle.ckpt_machine.proofs.Dropped.{held_as, ended_none}
use Rattle.ckpt_machine.proofs.FailedCalls.{left_is as left_behind_failure}
use Rattle.ckpt_machine.proofs.Histories.{HasHistory, follows, run_history}
use Rattle.ckpt_machine.proofs.OneReplica.{IsBehindFront}
use Rattle.ckpt_machine.proofs.Quiet.{quiet}
use Rattle.ckpt_machine.proofs.Runs.{along, last-push, run_before, run_front}
use Rattle.ckpt_machine.proofs.Starting.{first_kept, begun_as}
use Rattle.ckpt_machine.proofs.Sync.{left_is}
use Rattle.ckpt_machine.proofs.Whose.{put_who-cases, one_call, stepped_as-async}

-- the call has begun, and is in hand under no name
pub record IsOver (c : CallId) (m : Machine) : Type 0 where
  pub below : c.number < m.next c.actor
  pub none : (w : Who) (z : CallState) → m.in_hand w ≡ Some z → z.call ≡ c → ⊥

-- so it is behind each label that comes
pub over_after : (m : Machine) (l : Label) → Invariant m → HasHistory m → Allowed m l → IsDue m l → (c : CallId) → IsOver c m → IsOver c (after m l)
over_after m l inv history allowed due c over = record {
  below = (let a = over.below in let b = next_after m l inv history allowed due c.actor in omega (arith, a, b));
  none = none l allowed due;
}
  where
    none : (l : Label) → Allowed m l → IsDue m l → (w : Who) (z : CallState) → (after m l).in_hand w ≡ Some z → z.call ≡ c → ⊥
    none (labels.Began call op end details) allowed due w z held same =
        elim (put_who-cases m.in_hand (stepped_as call (word_of_op op)) (call_begun end call op (first_kept m call op)) w z held) [
          -- the call that begins has the number that comes next
          | inl own ↦ (
              let (d, driven, is) = begun_as end call op (first_kept m call op) z own.1 in
              let new : call ≡ c = ap (λ (z : CallState). z.call) is ∙ same in
              let number : c.number ≡ m.next c.actor = subst (λ (c : CallId). c.number ≡ m.next c.actor) new due.number in
              let below = over.below in
              omega (arith, number, below))
          | inr other ↦ over.none w z other.1 same
        ]
    none (labels.Stepped call op verb k r reply end details) allowed due w z held same =
        let s = due.state in
        let in_hand : m.in_hand (who s) ≡ Some s = held_as m call op s due.in_hand due.call_is due.word in
        let state : allowed.state ≡ s = same_Some allowed.state s (sym allowed.in_hand ∙ due.in_hand) in
        let t : Told = record { verb = verb; ckpt = k; node = r; reply = reply; end = end; details = details } in
        let then = follows m inv history s in_hand t (subst (λ z. Row m z verb t) state allowed.row) in
        let there = subst (λ o. (step_of m o verb k r reply end).in_hand w ≡ Some z) due.in_hand held in
        let behind : CallState = kept_behind m s (changed m s verb k r reply).cluster verb k r reply in
        elim (put_who-cases (changed m s verb k r reply).in_hand (who s) (left end behind) w z there) [
          | inl own ↦ over.none (who s) s in_hand (ap (λ (z : CallState). z.call) (left_is end behind z own.1) ∙ same)
          | inr other ↦ over.none w z (then.in_hand w z other.1) same
        ]
    none l allowed due w z held same = over.none w z ((quiet m inv l tt due).held w z held) same

-- and behind all of them
pub over_then : (front more : List Label) → IsRun (front ++ more) → (c : CallId) → IsOver c (last front) → IsOver c (last (front ++ more))
over_then front more run c over = along (λ log m. IsOver c m) (λ front l before allowed due over. let (inv, history) = run_history front before in over_after (last front) l inv history allowed due c over) front more run over

-- so it is behind the last step of the call
pub ended_over : (log : List Label) (l : Label) → IsRun (log ++ l ∷ []) → (c : CallId) → IsLastStep l c → IsOver c (last (log ++ l ∷ []))
ended_over log (labels.Stepped call op verb k r reply (Some end) details) run c ends =
    let l : Label = labels.Stepped call op verb k r reply (Some end) details in
    let (before, allowed, due) = run_before _ log l run in
    let (inv, history) = run_history log before in
    let m : Machine = last log in
    let s = due.state in
    let in_hand : m.in_hand (who s) ≡ Some s = held_as m call op s due.in_hand due.call_is due.word in
    let state : allowed.state ≡ s = same_Some allowed.state s (sym allowed.in_hand ∙ due.in_hand) in
    let t : Told = record { verb = verb; ckpt = k; node = r; reply = reply; end = Some end; details = details } in
    let then = follows m inv history s in_hand t (subst (λ z. Row m z verb t) state allowed.row) in
    record {
      below = step_below (log ++ l ∷ []) run log [] call op verb k r reply (Some end) details c refl ends;
      none = λ w z held same.
          let there = subst (λ o. (step_of m o verb k r reply (Some end)).in_hand w ≡ Some z) due.in_hand (ap (λ (n : Machine). n.in_hand w) (sym (last-push log l)) ∙ held) in
          ended_none m.in_hand m.pending m.next inv.holds.calls s in_hand (changed m s verb k r reply).in_hand then.in_hand w z there (same ∙ sym ends ∙ sym due.call_is);
    }
ended_over log l run c ends = absurd ends

-- ---- a call in hand that ends, in whichever way

module _ (m : Machine) (inv : Invariant m) (c : CallId) (hand : IsCallInHand m c) where
  -- what it is in hand as
  abbrev s : CallState
  s = hand.state

  -- it has begun
  begun : c.number < m.next c.actor
  begun = subst (λ (c : CallId). c.number < m.next c.actor) hand.call_is (inv.holds.hands hand.name s hand.in_hand).number

  -- it is in hand as nothing else
  is_it : (w : Who) (z : CallState) → m.in_hand w ≡ Some z → z.call ≡ c → z ≡ s
  is_it w z held same = one_call m.in_hand m.pending m.next inv.holds.calls w hand.name z s held hand.in_hand (same ∙ sym hand.call_is)

  -- where the failure of a node abandons it, it is in hand no more
  abandoned_over : (r : ℕ) → is_abandoned m.cluster r s.call s.op ≡ true → IsOver c (failed_at r m)
  abandoned_over r abandoned = record {
    below = begun;
    none = λ w z left same.
        let (held, stays) = left_behind_failure m inv.shapes inv.holds r w z left in
        let both : true ≡ false = sym abandoned ∙ ap (λ (z : CallState). is_abandoned m.cluster r z.call z.op) (sym (is_it w z held same)) ∙ stays in
        cc both;
  }

  -- a step takes the call of this name out of hand, and ends its own
  record IsTakenBy (t : CallState) (verb : Verb) (k q : Option ℕ) (reply : StepReply) (end : Option Outcome) : Type 0 where
    gone : (changed m t verb k q reply).in_hand (Call s.call) ≡ None
    ended : (outcome : Outcome) × (end ≡ Some outcome)

  -- as the leave of its client does
  by_leave : (t : CallState) (k q : Option ℕ) (end : Option Outcome) (details : Details) → t.call.actor ≡ s.call.actor
      → Row m t verbs.Leave (record { verb = verbs.Leave; ckpt = k; node = q; reply = words.Ok; end = end; details = details }) → IsTakenBy t verbs.Leave k q words.Ok end
  by_leave t None None end details client row = record {
    gone = ap (λ b. cond b None (m.in_hand (Call s.call))) (ap (same_actor s.call.actor) client ∙ same_actor-refl s.call.actor);
    ended = (let (asks_is, left_by) = row.0 in (_, left_by.1));
  }
  by_leave t (Some k) q end details client row = absurd row.0
  by_leave t None (Some q) end details client row = absurd row.0

  -- and the close of a handle that it goes with
  by_close : (t : CallState) (verb : Verb) (k q : Option ℕ) (reply : StepReply) (end : Option Outcome) (details : Details) → Row m t verb (record { verb = verb; ckpt = k; node = q; reply = reply; end = end; details = details })
      → Closes verb reply → goes_with (handle_closed (asked t.op) (m.tables t.call.actor)) t.call.actor (m.pending t.call.actor) (Call s.call) ≡ true → IsTakenBy t verb k q reply end
  by_close t verbs.Close (Some k) None words.Ok end details row is goes = record {
    gone = ap (λ b. cond b None (m.in_hand (Call s.call))) goes;
    ended = (let (place, asks_is, done) = row.0 in (_, done.2));
  }
  by_close t verbs.Close (Some k) (Some q) reply end details row is goes = absurd row.0
  by_close t verbs.Close None q reply end details row is goes = absurd row.0
  by_close t verbs.Close (Some k) None reply end details row is goes = absurd (cc is)
  by_close t verbs.Look k q words.Done (Some outcome) details row is goes = record { gone = ap (λ b. cond b None (m.in_hand (Call s.call))) goes; ended = (outcome, refl) }
  by_close t verbs.Look k q words.Done None details row is goes = (let (ckpt, node, looks, told) = row in absurd looks)
  by_close t verbs.Look k q reply end details row is goes = absurd (cc is)
  by_close t verb k q reply end details row is goes = absurd is

  -- whichever it is
  by_either : (t : CallState) (verb : Verb) (k q : Option ℕ) (reply : StepReply) (end : Option Outcome) (details : Details) → t.call.actor ≡ s.call.actor → Row m t verb (record { verb = verb; ckpt = k; node = q; reply = reply; end = end; details = details })
      → TakesAlong m t verb reply s → IsTakenBy t verb k q reply end
  by_either t verb k q reply end details client row (leaves verb_is reply_is) =
      subst (λ verb. Row m t verb (record { verb = verb; ckpt = k; node = q; reply = reply; end = end; details = details }) → IsTakenBy t verb k q reply end) (sym verb_is)
      (subst (λ reply. Row m t verbs.Leave (record { verb = verbs.Leave; ckpt = k; node = q; reply = reply; end = end; details = details }) → IsTakenBy t verbs.Leave k q reply end) (sym reply_is)
      (by_leave t k q end details client)) row
  by_either t verb k q reply end details client row (closes handle is closed over) =
      let goes : goes_with (handle_closed (asked t.op) (m.tables t.call.actor)) t.call.actor (m.pending t.call.actor) (Call s.call) ≡ true =
      ap (λ h. goes_with h t.call.actor (m.pending t.call.actor) (Call s.call)) closed
      ∙ ap (λ a. same_actor s.call.actor a && is_over handle (find_async s.call (m.pending a).unfinished)) client
      ∙ ap (λ b. b && is_over handle (find_async s.call (m.pending s.call.actor).unfinished)) (same_actor-refl s.call.actor)
      ∙ over in
      by_close t verb k q reply end details row is goes

  -- where it goes with its client or its handle, it is in hand no more
  along_over : HasHistory m → (l : Label) → Allowed m l → IsDue m l → GoesAlong m l s → IsOver c (after m l)
  along_over history (labels.Stepped call word verb k q reply end details) allowed due goes = record {
    below = (let first = begun in let rises = next_after m (labels.Stepped call word verb k q reply end details) inv history allowed due c.actor in omega (arith, first, rises));
    none = none;
  }
    where
      t : CallState
      t = due.state

      told : Told
      told = record { verb = verb; ckpt = k; node = q; reply = reply; end = end; details = details }

      t_held : m.in_hand (who t) ≡ Some t
      t_held = held_as m call word t due.in_hand due.call_is due.word

      row : Row m t verb told
      row = let state : allowed.state ≡ t = same_Some allowed.state t (sym allowed.in_hand ∙ due.in_hand) in subst (λ z. Row m z verb told) state allowed.row

      other_is : goes.other ≡ t
      other_is = same_Some goes.other t (sym goes.step.0 ∙ due.in_hand)

      takes : TakesAlong m t verb reply s
      takes =
          subst (λ t. TakesAlong m t verb reply s) other_is (subst (λ verb. TakesAlong m goes.other verb reply s) (sym goes.step.2) (subst (λ reply. TakesAlong m goes.other goes.verb reply s) (sym goes.step.3) goes.takes))

      taken : IsTakenBy t verb k q reply end
      taken = by_either t verb k q reply end details (ap (λ (z : CallState). z.call.actor) (sym other_is) ∙ goes.client) row takes

      n : Machine
      n = changed m t verb k q reply

      behind : CallState
      behind = kept_behind m t n.cluster verb k q reply

      none : (w : Who) (z : CallState) → (after m (labels.Stepped call word verb k q reply end details)).in_hand w ≡ Some z → z.call ≡ c → ⊥
      none w z held same = elim (put_who-cases n.in_hand (who t) (left end behind) w z (subst (λ o. (step_of m o verb k q reply end).in_hand w ≡ Some z) due.in_hand held)) [
        -- the step ends its own call
        | inl own ↦ (let none : None ≡ Some z = sym (ap (λ o. left o behind) taken.ended.1) ∙ own.1 in cc none)
        | inr was ↦ (
            let in_hand : m.in_hand w ≡ Some z = (follows m inv history t t_held told row).in_hand w z was.1 in
            let name : w ≡ hand.name = inv.holds.calls.one_name w hand.name z s in_hand hand.in_hand (same ∙ sym hand.call_is) in
            let own : w ≡ Call s.call = name ∙ sym (inv.holds.hands hand.name s hand.in_hand).whose ∙ stepped_as-async s.call (word_of_op s.op) goes.async in
            let none : None ≡ Some z = sym taken.gone ∙ ap n.in_hand (sym own) ∙ was.1 in
            cc none)
      ]
  along_over history l allowed due goes = absurd goes.step

  -- a failure that abandons it
  by_failure : (l : Label) → IsAbandonedBy l m s → IsOver c (after m l)
  by_failure (labels.Failed r true) abandoned = abandoned_over r abandoned
  by_failure l none = absurd none

  -- a step that tells its end is its last one
  tells_last : (l : Label) → TellsEnd l s → IsLastStep l c
  tells_last (labels.Stepped call word verb k q reply (Some end) details) tells = tells.0 ∙ hand.call_is
  tells_last l none = absurd none

-- so it is behind the label by which a call ends
pub ending_over : (log : List Label) (l : Label) → IsRun (log ++ l ∷ []) → (c : CallId) → IsEnding log l c → IsOver c (last (log ++ l ∷ []))
ending_over log l run c (inl last_step) = ended_over log l run c last_step
ending_over log l run c (inr it) = by_way it.ends
  where
    m : Machine
    m = last log

    inv : Invariant m
    inv = (run_history log (run_before _ log l run).0).0

    behind : IsOver c (after m l) → IsOver c (last (log ++ l ∷ []))
    behind = subst (IsOver c) (sym (last-push log l))

    by_way : EndsBy m l it.in_hand.state → IsOver c (last (log ++ l ∷ []))
    by_way (own_step tells) = ended_over log l run c (tells_last m inv c it.in_hand l tells)
    by_way (failure abandoned) = behind (by_failure m inv c it.in_hand l abandoned)
    by_way (goes_along goes) =
        let (before, allowed, due) = run_before _ log l run in
        behind (along_over m inv c it.in_hand (run_history log before).1 l allowed due goes)

-- and in front of that it is in hand
ended_held : (log : List Label) (l : Label) → IsRun (log ++ l ∷ []) → (c : CallId) → IsLastStep l c → IsCallInHand (last log) c
ended_held log (labels.Stepped call op verb k r reply (Some end) details) run c ends =
    let (before, allowed, due) = run_before _ log (labels.Stepped call op verb k r reply (Some end) details) run in
    record { name = stepped_as call op; state = due.state; in_hand = due.in_hand; call_is = due.call_is ∙ ends }
ended_held log l run c ends = absurd ends

-- THE LAW: a call that is in hand in front of a label, and is over behind it, was ended by no step, unless this label is one
pub never_ended : (log : List Label) → IsRun log → (front back : List Label) (x : Label) → log ≡ front ++ x ∷ back → (c : CallId) → IsCallInHand (last front) c → (IsLastStep x c → ⊥) → IsOver c (last (front ++ x ∷ [])) → IsUnended log c
never_ended log run front back x is c held other over before behind l there ends = elim (stand before front l x behind back (sym there ∙ is)) [
  | inl same ↦ other (subst (λ l. IsLastStep l c) same.1 ends)
  | inr (inl later) ↦ (
      -- the step stands in front of the label
      let front_is : front ≡ (before ++ l ∷ []) ++ later.0 = later.1 ∙ sym (append_assoc before (l ∷ []) later.0) in
      let first = ended_over before l step_run c ends in
      let then = over_then (before ++ l ∷ []) later.0 (subst IsRun front_is (run_front log front (x ∷ back) is run)) c first in
      (subst (λ log. IsOver c (last log)) (sym front_is) then).none held.name held.state held.in_hand held.call_is)
  | inr (inr sooner) ↦ (
      -- or behind it
      let before_is : before ≡ (front ++ x ∷ []) ++ sooner.0 = sooner.1 ∙ sym (append_assoc front (x ∷ []) sooner.0) in
      let then = over_then (front ++ x ∷ []) sooner.0 (subst IsRun before_is (run_front log before (l ∷ behind) there run)) c over in
      let at = ended_held before l step_run c ends in
      (subst (λ log. IsOver c (last log)) (sym before_is) then).none at.name at.state at.in_hand at.call_is)
]
  where
    step_run : IsRun (before ++ l ∷ [])
    step_run = run_front log (before ++ l ∷ []) behind (there ∙ sym (append_assoc before (l ∷ []) behind)) run

-- ---- where a label stands

-- a label stands in the front of a log, or behind it
cut : (front rest before tail : List Label) (x : Label) → front ++ rest ≡ before ++ x ∷ tail → ((more : List Label) × (front ≡ before ++ x ∷ more)) ⊎ ((more : List Label) × (before ≡ front ++ more))
cut [] rest before tail x is = inr (before, refl)
cut (y ∷ front) rest [] tail x is = inl (front, ap (λ (w : Label). w ∷ front) (let head : y ≡ x = cc is in head))
cut (y ∷ front) rest (z ∷ before) tail x is =
    let head : y ≡ z = cc is in
    let rest_is : front ++ rest ≡ before ++ x ∷ tail = cc is in
    elim (cut front rest before tail x rest_is) [
      | inl there ↦ inl (there.0, (λ i. head i ∷ there.1 i))
      | inr behind ↦ inr (behind.0, (λ i. sym head i ∷ behind.1 i))
    ]

-- THE LAW: a call that is in hand behind a front of a run has not ended before one began that has begun by then
pub not_ended_before : (log : List Label) → IsRun log → (m : Machine) → IsBehindFront log m → (s : CallState) → m.in_hand (who s) ≡ Some s → (d : CallId) → d.number < m.next d.actor → EndsBefore log s.call d → ⊥
not_ended_before log run m at s held d given ends =
    let tail : List Label = ends.between ++ labels.Began d ends.op ends.end ends.details ∷ ends.behind in
    elim (cut at.front at.rest ends.before tail ends.ending (sym at.log_is ∙ ends.log_is)) [
      | inl there ↦ has_ended there.0 there.1
      | inr behind ↦ begins_later behind.0 behind.1
    ]
  where
    front_run : IsRun at.front
    front_run = run_front log at.front at.rest at.log_is run

    -- it had ended in the front, so it is not in hand
    has_ended : (more : List Label) → at.front ≡ ends.before ++ ends.ending ∷ more → ⊥
    has_ended more is =
        let front_is : at.front ≡ (ends.before ++ ends.ending ∷ []) ++ more = is ∙ sym (append_assoc ends.before (ends.ending ∷ []) more) in
        let first = ending_over ends.before ends.ending (run_front at.front (ends.before ++ ends.ending ∷ []) more front_is front_run) s.call ends.ends in
        let over = over_then (ends.before ++ ends.ending ∷ []) more (subst IsRun front_is front_run) s.call first in
        (subst (IsOver s.call) (sym at.state_is) (subst (λ log. IsOver s.call (last log)) (sym front_is) over)).none (who s) s held refl

    -- the other begins behind the front, so its number is not below the one that comes next there
    begins_later : (more : List Label) → ends.before ≡ at.front ++ more → ⊥
    begins_later more is =
        let until_d : List Label = ends.before ++ ends.ending ∷ ends.between in
        let log_is : log ≡ until_d ++ labels.Began d ends.op ends.end ends.details ∷ ends.behind = ends.log_is ∙ sym (append_assoc ends.before (ends.ending ∷ ends.between) (labels.Began d ends.op ends.end ends.details ∷ ends.behind)) in
        let number : d.number ≡ (last until_d).next d.actor = took log until_d ends.behind d ends.op ends.end ends.details log_is run in
        let run_d : IsRun until_d = (until log until_d ends.behind d ends.op ends.end ends.details log_is run).0 in
        let goes_on : until_d ≡ at.front ++ (more ++ ends.ending ∷ ends.between) = ap (λ b. b ++ ends.ending ∷ ends.between) is ∙ append_assoc at.front more (ends.ending ∷ ends.between) in
        let rises : m.next d.actor ≤ (last until_d).next d.actor = subst (λ log. m.next d.actor ≤ (last log).next d.actor) (sym goes_on)
        (along (λ log n. m.next d.actor ≤ n.next d.actor) (λ front l before allowed due below. let (inv, history) = run_history front before in let up = next_after (last front) l inv history allowed due d.actor in omega (arith, below, up))
        at.front (more ++ ends.ending ∷ ends.between) (subst IsRun goes_on run_d) (subst (λ n. m.next d.actor ≤ n.next d.actor) at.state_is (omega arith))) in
        omega (arith, given, number, rises)
