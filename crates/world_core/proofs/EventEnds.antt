-- How a call takes what the record answers to its step: it ends as the machine says, and keeps then what it says.
use Rattle.std.proofs.Common.{◌≡◌, ℕ, refl, sym, ap, subst, ◌∙◌}
use Rattle.std.specs.Prelude.{Option, Some, None, Result, Err}
use Rattle.std.specs.Option.{option_map}
use Rattle.ckpt_types.specs.declared.ais_error.AisError.TheVariants.{TryAgain}
use Rattle.ckpt_types.specs.declared.answers.Cause.TheVariants as causes
use Rattle.ckpt_types.specs.declared.answers.Outcome.{Outcome}
use Rattle.ckpt_types.specs.declared.answers.Outcome.TheVariants.{Refused, NoMemory}
use Rattle.ckpt_types.specs.declared.identities.CallId.{CallId}
use Rattle.ckpt_types.specs.declared.operation.Op.{Op}
use Rattle.ckpt_types.specs.Asks.{asked}
use Rattle.node_msgs.specs.declared.next.Next.TheVariants.{Event}
use Rattle.node_msgs.specs.declared.next.RecordStep.{RecordStep}
use Rattle.node_msgs.specs.declared.next.RecordStep.TheVariants as events
use Rattle.node_msgs.specs.declared.replies.Reply.{Reply}
use Rattle.node_msgs.specs.declared.replies.Reply.TheVariants as replies
use Rattle.node_msgs.specs.declared.steps.StepReply.TheVariants as words
use Rattle.node_msgs.specs.Steps.{event_verb}
use Rattle.cluster_record.specs.RecordState.{RecordState}
use Rattle.cluster_record.specs.StepDone.{done_of}
use Rattle.ckpt_machine.specs.Driving.{driver_next, event_ckpt, event_end, event_node, event_refusal, index_told}
use Rattle.ckpt_machine.proofs.AskedFor.{DrivesFor, state_drives}
use Rattle.client_calls.specs.declared.in_hand.InHand.{InHand}
use Rattle.world_core.specs.declared.world.World.{World}
use Rattle.world_core.specs.Happenings.{rooms_at}
use Rattle.client_calls.specs.HandSteps.{hand_taken}
use Rattle.client_calls.specs.Names.{client_by}
use Rattle.world_core.specs.HandsState.{hand_at}
use Rattle.ckpt_machine.specs.RecordAfter.{event_after}
use Rattle.ckpt_machine.specs.Granting.{event_granted, refusal_word}
use Rattle.ckpt_machine.specs.RecordReady.{IsGrantedAt, IsRefusedAs, IsRefusedWith}
use Rattle.world_core.specs.Shows.{History, IsShown, machine_of}
use Rattle.client_calls.specs.Taking.{hand_outcome, hand_told}
use Rattle.world_core.proofs.CallSteps.{IsKnown, known}
use Rattle.world_core.proofs.Held.{driver_is, in_hand_is, state_in}
use Rattle.ckpt_machine.proofs.Going.{CompletesNone}
use Rattle.world_core.proofs.RecordEvent.{event_ready, step_ends}
use Rattle.ckpt_types.specs.declared.identities.Who.{Who}
use Rattle.ckpt_machine.proofs.StepTaking.{TakesDone, granted_is, is_done, takes_done, takes_refused}

-- ---- of a call in hand

-- no step of the record is told with an index
done_alike : (op : Op) (step : RecordStep) (k : Option ℕ) → option_map (index_told op) (event_end step k) ≡ event_end step k
done_alike op events.Open (Some k) = refl
done_alike op events.Finish (Some k) = refl
done_alike op step k = refl

refused_alike : (op : Op) (refusal : Option Outcome) (step : RecordStep) (reply : Reply) (end : Outcome) → IsRefusedAs refusal step reply → IsRefusedWith refusal step (refusal_word reply) end → index_told op end ≡ end
refused_alike op (Some why) step (replies.Held by) end refused is = let w : end ≡ Refused TryAgain (causes.Holder by) = is ∙ refused in ap (index_told op) w ∙ sym w
refused_alike op None step replies.NoMemory end refused is = let w : end ≡ NoMemory = is.1 in ap (index_told op) w ∙ sym w
refused_alike op refusal step reply end refused is = absurd refused

module _ (w : World) (v : Who) (step : RecordStep) (hand : InHand) (held : hand_at w.hands v ≡ Some hand) (next : driver_next w.cluster (rooms_at w (client_by v)) hand.driver ≡ Event step) (shown : IsShown w) where
  abbrev h : History
  h = shown.shows.history

  abbrev its_facts : IsKnown w h
  its_facts = known w shown

  drives : DrivesFor hand.call (asked hand.op) hand.driver
  drives = subst (DrivesFor hand.call (asked hand.op)) (sym (driver_is w h v hand held its_facts.fits)) (state_drives (state_in h v hand) (its_facts.facts.driven v (state_in h v hand) (in_hand_is w h v hand held)))

  -- how the call takes the step, where it is done
  done_is : event_refusal w.cluster step hand.driver ≡ None → TakesDone w.cluster hand.driver step (event_after hand.call hand.driver step w.cluster)
  done_is granted = takes_done (machine_of w h) (state_in h v hand) its_facts.facts.rises its_facts.facts.stay (rooms_at w (client_by v)) hand.driver step drives next granted (event_ready w v step hand held next shown)

  pub done_ends : CompletesNone step → event_refusal w.cluster step hand.driver ≡ None → (N : RecordState) (k : Option ℕ) → N ≡ event_after hand.call hand.driver step w.cluster → k ≡ event_ckpt w.cluster hand.driver step → hand_outcome N is_done hand ≡ event_end step k
  done_ends none granted N k N_is k_is =
      let N_so = event_after hand.call hand.driver step w.cluster in
      let done = done_of w.cluster (event_verb step) (event_ckpt w.cluster hand.driver step) (event_node hand.driver step) words.Ok in
      ap (λ S. hand_outcome S is_done hand) N_is ∙ ap (option_map (index_told hand.op)) ((done_is granted).outcome ∙ step_ends (machine_of w h) (state_in h v hand) hand.driver step (event_ckpt w.cluster hand.driver step) none (event_ready w v step hand held next shown) N_so done) ∙ done_alike hand.op step (event_ckpt w.cluster hand.driver step) ∙ sym (ap (event_end step) k_is)

  pub done_keeps : event_refusal w.cluster step hand.driver ≡ None → (N : RecordState) (k r : Option ℕ) → N ≡ event_after hand.call hand.driver step w.cluster → k ≡ event_ckpt w.cluster hand.driver step → r ≡ event_node hand.driver step →
      hand_told N is_done hand ≡ hand_taken (done_of N (event_verb step) k r words.Ok) hand
  done_keeps granted N k r N_is k_is r_is =
      ap (λ S. hand_told S is_done hand) N_is ∙ ap (λ x. record hand { driver = x }) (done_is granted).told ∙ (λ i. hand_taken (done_of (sym N_is i) (event_verb step) (sym k_is i) (sym r_is i) words.Ok) hand)

  -- and where it is refused
  pub refused_ends : (reply : Reply) → IsRefusedAs (event_refusal w.cluster step hand.driver) step reply → (end : Outcome) × (hand_outcome w.cluster reply hand ≡ Some end) × IsRefusedWith (event_refusal w.cluster step hand.driver) step (refusal_word reply) end
  refused_ends reply refused =
      let (end, is, so) = takes_refused (machine_of w h) (state_in h v hand) (rooms_at w (client_by v)) hand.driver step reply next (event_ready w v step hand held next shown) refused in
      (end, ap (option_map (index_told hand.op)) is ∙ ap Some (refused_alike hand.op (event_refusal w.cluster step hand.driver) step reply end refused so), so)

  -- what it is on, or the call that keeps it off
  granted_so : IsGrantedAt w.cluster hand.driver step (event_granted w.cluster hand.driver step)
  granted_so = granted_is (machine_of w h) (state_in h v hand) (rooms_at w (client_by v)) hand.driver step (event_ready w v step hand held next shown)

  module _ (r : Result (Option ℕ) CallId) (is : r ≡ event_granted w.cluster hand.driver step) where
    pub granted_at : IsGrantedAt w.cluster hand.driver step r
    granted_at = subst (IsGrantedAt w.cluster hand.driver step) (sym is) granted_so

    pub kept_off_as : (by : CallId) → r ≡ Err by → IsRefusedAs (event_refusal w.cluster step hand.driver) step (replies.Held by)
    kept_off_as by found =
        let refusal : event_refusal w.cluster step hand.driver ≡ Some (Refused TryAgain (causes.Holder by)) = subst (IsGrantedAt w.cluster hand.driver step) found granted_at in
        subst (λ o. IsRefusedAs o step (replies.Held by)) (sym refusal) refl
