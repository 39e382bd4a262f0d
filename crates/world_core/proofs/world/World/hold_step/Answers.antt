use Rattle.std.proofs.Common.{◌≡◌, Some, None, sym, ap, subst, ◌∙◌}
use Rattle.std.specs.Prelude.{Option}
use Rattle.ckpt_types.specs.declared.ais_error.AisError.TheVariants.{TryAgain}
use Rattle.ckpt_types.specs.declared.answers.Cause.TheVariants.{Holder}
use Rattle.ckpt_types.specs.declared.answers.Outcome.{Outcome}
use Rattle.ckpt_types.specs.declared.answers.Outcome.TheVariants.{Refused}
use Rattle.node_msgs.specs.declared.details.Details.TheVariants.{Nothing}
use Rattle.node_msgs.specs.declared.steps.StepReply.TheVariants.{Held, Ok}
use Rattle.node_msgs.specs.declared.steps.Verb.TheVariants as verbs
use Rattle.node_msgs.specs.declared.next.Next.TheVariants.{Event}
use Rattle.node_msgs.specs.declared.next.RecordStep.TheVariants.{Hold}
use Rattle.run_labels.specs.declared.labels.Label.{Label}
use Rattle.run_labels.specs.declared.labels.Label.TheVariants.{Stepped}
use Rattle.cluster_record.specs.Calls.{left}
use Rattle.world_core.specs.declared.world.World.{World}
use Rattle.world_core.specs.Freeing.{freed_world}
use Rattle.world_core.specs.Happenings.{IsStep}
use Rattle.client_calls.specs.declared.in_hand.InHand.{InHand}
use Rattle.world_core.specs.Alone.{ended_at}
use Rattle.world_core.specs.HandsState.{hand_at, set_at}
use Rattle.world_core.proofs.HoldSteps.{has_room, hold_goes_on, hold_keeps, holds_its, holds_one, hold_step, kept_off_ends, kept_off_step}
use Rattle.world_core.proofs.Held.{next_for}
use Rattle.world_core.proofs.Maps.{ended_going}
use Rattle.world_core.proofs.world.World.hold_step.Goals as goal

pub synchronized-ckpt-requires : goal.synchronized-ckpt-requires
synchronized-ckpt-requires c =
    let w = c.args.self.now in
    let hand = c.in-Some.hand in
    let held : hand_at w.hands c.args.who ≡ Some hand = c.at-slot.ensures.value ∙ c.in-Some.is in
    holds_one w c.args.who c.args.r hand held (next_for w c.args.who (Event (Hold c.args.r)) hand held c.requires.next) c.requires.shown

pub copy-requires-clause-node : goal.copy-requires-clause-node
copy-requires-clause-node c =
    let w = c.args.self.now in
    let hand = c.in-Some.hand in
    let held : hand_at w.hands c.args.who ≡ Some hand = c.at-slot.ensures.value ∙ c.in-Some.is in
    (holds_its w c.args.who c.args.r hand held (next_for w c.args.who (Event (Hold c.args.r)) hand held c.requires.next) c.requires.shown c.synchronized-ckpt.result c.synchronized-ckpt.ensures).on_node

pub copy-requires-clause-there : goal.copy-requires-clause-there
copy-requires-clause-there c =
    let w = c.args.self.now in
    let hand = c.in-Some.hand in
    let held : hand_at w.hands c.args.who ≡ Some hand = c.at-slot.ensures.value ∙ c.in-Some.is in
    has_room w c.args.who c.args.r hand held c.synchronized-ckpt.result (holds_its w c.args.who c.args.r hand held (next_for w c.args.who (Event (Hold c.args.r)) hand held c.requires.next) c.requires.shown c.synchronized-ckpt.result c.synchronized-ckpt.ensures)

pub returns-in-Err : goal.returns-in-Err
returns-in-Err c =
    let w = c.args.self.now in
    let hand = c.in-Some.hand in
    let held : hand_at w.hands c.args.who ≡ Some hand = c.at-slot.ensures.value ∙ c.in-Some.is in
    let its = holds_its w c.args.who c.args.r hand held (next_for w c.args.who (Event (Hold c.args.r)) hand held c.requires.next) c.requires.shown c.synchronized-ckpt.result c.synchronized-ckpt.ensures in
    let end : Outcome = Refused TryAgain (Holder c.in-Err.held.by) in
    let end_is : c.take_refusal-end.result ≡ Some end
    = c.take_refusal-end.ensures.outcome
    ∙ kept_off_ends w c.args.who c.args.r hand held c.synchronized-ckpt.result its c.copy.result c.copy.ensures.answer c.copy.new.hand c.copy.ensures.new c.in-Err.held c.in-Err.is in
    let gone : c.let_go.new.slot ≡ None = c.let_go.ensures ∙ ap (λ end. left end c.take_refusal-end.new.self) end_is in
    record {
      label = _;
      labels = c.push.ensures.labels;
      is = subst (λ (label : Label). IsStep c.args.who w c.end_alone.new.self label)
          (sym (c.stepped.ensures ∙ ap (λ end. Stepped hand.call c.word-op.result verbs.Hold (Some c.synchronized-ckpt.result) (Some c.args.r) (Held c.in-Err.held.by) end Nothing) end_is))
          (kept_off_step w c.args.who c.args.r hand held c.synchronized-ckpt.result its c.copy.result c.copy.ensures.answer c.copy.new.hand c.copy.ensures.new c.end_alone.new.self c.in-Err.held c.word-op.result c.in-Err.is
          (c.end_alone.ensures ∙ (λ i. ended_at c.args.who (end_is i) (record w { hands = set_at w.hands c.args.who (gone i) }))) c.word-op.ensures);
    }

pub returns-in-Ok : goal.returns-in-Ok
returns-in-Ok c =
    let w = c.args.self.now in
    let hand = c.in-Some.hand in
    let held : hand_at w.hands c.args.who ≡ Some hand = c.at-slot.ensures.value ∙ c.in-Some.is in
    let its = holds_its w c.args.who c.args.r hand held (next_for w c.args.who (Event (Hold c.args.r)) hand held c.requires.next) c.requires.shown c.synchronized-ckpt.result c.synchronized-ckpt.ensures in
    let end_is : c.take_done-end.result ≡ None
    = c.take_done-end.ensures.outcome
    ∙ hold_goes_on w c.args.who c.args.r hand held c.synchronized-ckpt.result its c.copy.result c.copy.ensures.answer c.copy.new.hand c.copy.ensures.new _ c.in-Ok.is c.hold.new.cluster c.hold.ensures in
    let taken_is
    = c.take_done-end.ensures.new
    ∙ hold_keeps w c.args.who c.args.r hand held c.synchronized-ckpt.result its c.copy.result c.copy.ensures.answer c.copy.new.hand c.copy.ensures.new _ c.in-Ok.is c.hold.new.cluster c.hold.ensures in
    let stays : c.let_go-in-Ok.new.slot ≡ Some c.take_done-end.new.self = c.let_go-in-Ok.ensures ∙ ap (λ end. left end c.take_done-end.new.self) end_is in
    let freed_is = c.free_gone.ensures.new ∙ ap (λ (place : Option InHand). freed_world (record w { cluster = c.hold.new.cluster; hands = set_at w.hands c.args.who place })) stays in
    let same : c.end_alone-in-Ok.new.self ≡ c.free_gone.new.self = c.end_alone-in-Ok.ensures ∙ ap (λ end. ended_at c.args.who end c.free_gone.new.self) end_is ∙ ended_going c.args.who c.free_gone.new.self in
    record {
      label = _;
      labels = c.push-in-Ok.ensures.labels;
      is = subst (λ (z : World × Label). IsStep c.args.who w z.0 z.1)
          (λ i. (sym same i, sym (c.stepped-in-Ok.ensures ∙ ap (λ end. Stepped hand.call c.word-op.result verbs.Hold (Some c.synchronized-ckpt.result) (Some c.args.r) Ok end Nothing) end_is) i))
          (hold_step w c.args.who c.args.r hand held c.synchronized-ckpt.result its c.copy.result c.copy.ensures.answer c.copy.new.hand c.copy.ensures.new _ c.in-Ok.is c.hold.new.cluster c.hold.ensures
          c.free_gone.ensures.eight c.free_gone.new.self c.take_done-end.new.self c.word-op.result taken_is freed_is c.word-op.ensures);
    }
