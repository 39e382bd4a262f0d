-- Where a step has ended an asynchronous call, its client is to be told: what holds before that holds behind it.
use Rattle.std.proofs.Common.{◌≡◌, ◌≢◌, ℕ, Option, Some, None, true, false, cond, refl, subst}
use Rattle.ckpt_types.specs.declared.answers.Outcome.{Outcome}
use Rattle.ckpt_types.specs.declared.identities.Who.{Who}
use Rattle.ckpt_types.specs.OpWord.{is_async, word_of_op}
use Rattle.call_dispatch.specs.PendingCalls.{ended_in}
use Rattle.client_handles.specs.ClientState.{ClientState}
use Rattle.cluster_record.specs.Calls.{put_actor, left}
use Rattle.node_msgs.specs.declared.steps.StepReply.{StepReply}
use Rattle.node_msgs.specs.declared.steps.Verb.{Verb}
use Rattle.ckpt_machine.specs.Invariant.{AreCalls, InvariantIn, Invariant}
use Rattle.ckpt_machine.specs.Machine.{Machine, CallState, who}
use Rattle.ckpt_machine.specs.Shape.{Shape}
use Rattle.ckpt_machine.specs.After.{changed, goes_with, kept_behind, step_of, ended_calls, handle_opened}
use Rattle.ckpt_machine.specs.Due.{Told}
use Rattle.ckpt_machine.specs.Whose.{is_of, put_who}
use Rattle.ckpt_machine.proofs.CallsPending.{calls_over, calls_ended}
use Rattle.ckpt_machine.proofs.ChangedHands.{changed_holds}
use Rattle.ckpt_machine.proofs.Dropped.{left_was, ended_none}
use Rattle.ckpt_machine.proofs.DroppedCalls.{pending_keeps}
use Rattle.ckpt_machine.proofs.DueStep.{after_step}

-- ---- what is in hand behind a step was so before it

-- what n has in hand m had
abbrev pub HadInHand : Machine → Machine → Type 0
HadInHand m n = (w : Who) (z : CallState) → n.in_hand w ≡ Some z → m.in_hand w ≡ Some z

-- whatever the step is
pub changed_had : (m : Machine) (s : CallState) (verb : Verb) (k r : Option ℕ) (reply : StepReply) → HadInHand m (changed m s verb k r reply)
changed_had m = changed_holds (λ hands pending. (w : Who) (z : CallState) → hands w ≡ Some z → m.in_hand w ≡ Some z) m (λ w z at. at) (λ a w z at. left_was (is_of a w) (m.in_hand w) z at) (λ handle a w z at. left_was (goes_with handle a (m.pending a) w) (m.in_hand w) z at)

-- ---- its client is to be told

module _ (shapes : ℕ → Shape) (n : Machine) (inv : InvariantIn shapes n) where
  -- all is so of the calls, where this one has ended, if it has, and is in hand no more
  told_calls : (s : CallState) (end : Option Outcome) (t : ClientState) → ((o : Outcome) → end ≡ Some o → (w : Who) (z : CallState) → n.in_hand w ≡ Some z → z.call ≢ s.call) → AreCalls n.in_hand (put_actor n.pending s.call.actor (ended_calls s end t (n.pending s.call.actor))) n.next
  told_calls s end t gone = by_end end gone
    where
      same_calls : AreCalls n.in_hand (put_actor n.pending s.call.actor (n.pending s.call.actor)) n.next
      same_calls = calls_over n.in_hand n.pending n.next inv.calls n.in_hand s.call.actor (n.pending s.call.actor) (λ w z at. at) (λ c there. (c, there, refl)) (λ w z at async own kept. kept)

      by_end : (o : Option Outcome) → ((e : Outcome) → o ≡ Some e → (w : Who) (z : CallState) → n.in_hand w ≡ Some z → z.call ≢ s.call) → AreCalls n.in_hand (put_actor n.pending s.call.actor (ended_calls s o t (n.pending s.call.actor))) n.next
      by_end None gone = same_calls
      by_end (Some e) gone = elim (is_async (word_of_op s.op)) as (λ b. AreCalls n.in_hand (put_actor n.pending s.call.actor (cond b (ended_in s.call (handle_opened e t) e (n.pending s.call.actor)) (n.pending s.call.actor))) n.next) [
        | true ↦ calls_ended n.in_hand n.pending n.next inv.calls s.call (handle_opened e t) e (gone e refl)
        | false ↦ same_calls
      ]

-- THE STEP of a call keeps the invariant, where it keeps it before its client is told
pub told_keeps : (m : Machine) → Invariant m → (s : CallState) → m.in_hand (who s) ≡ Some s → (t : Told) → Invariant (after_step m s t) → Invariant (step_of m (Some s) t.verb t.ckpt t.node t.reply t.end)
told_keeps m inv s held t then = record {
  shapes = then.shapes;
  holds = pending_keeps (after_step m s t) then.shapes then.holds _ (told_calls then.shapes (after_step m s t) then.holds (kept_behind m s (changed m s t.verb t.ckpt t.node t.reply).cluster t.verb t.ckpt t.node t.reply) t.end ((after_step m s t).tables s.call.actor) gone);
}
  where
    gone : (o : Outcome) → t.end ≡ Some o → (w : Who) (z : CallState) → (after_step m s t).in_hand w ≡ Some z → z.call ≢ s.call
    gone o ended w z at = ended_none m.in_hand m.pending m.next inv.holds.calls s held (changed m s t.verb t.ckpt t.node t.reply).in_hand (changed_had m s t.verb t.ckpt t.node t.reply) w z (subst (λ (e : Option Outcome). put_who (changed m s t.verb t.ckpt t.node t.reply).in_hand (who s) (left e (kept_behind m s (changed m s t.verb t.ckpt t.node t.reply).cluster t.verb t.ckpt t.node t.reply)) w ≡ Some z) ended at)
