use Rattle.std.proofs.Common.{◌≡◌, Some, None, sym, ap, subst, ◌∙◌}
use Rattle.std.specs.Prelude.{Option}
use Rattle.node_msgs.specs.declared.next.Next.TheVariants.{Event}
use Rattle.node_msgs.specs.declared.next.RecordStep.TheVariants.{Activate}
use Rattle.node_msgs.specs.declared.details.Details.TheVariants.{Nothing}
use Rattle.node_msgs.specs.declared.steps.StepReply.TheVariants.{Ok}
use Rattle.node_msgs.specs.declared.steps.Verb.TheVariants as verbs
use Rattle.run_labels.specs.declared.labels.Label.{Label}
use Rattle.run_labels.specs.declared.labels.Label.TheVariants.{Stepped}
use Rattle.cluster_record.specs.Calls.{left}
use Rattle.cluster_record.specs.RecordState.{entry_of, swept}
use Rattle.client_calls.specs.declared.in_hand.InHand.{InHand}
use Rattle.world_core.specs.Freeing.{freed_world}
use Rattle.world_core.specs.Alone.{ended_at}
use Rattle.world_core.specs.Happenings.{IsStep}
use Rattle.ckpt_machine.specs.Leading.{copy_held}
use Rattle.world_core.specs.HandsState.{hand_at, set_at}
use Rattle.world_core.proofs.LeadSteps.{activates_one, lead_can, lead_ends, lead_step, leads_its}
use Rattle.world_core.proofs.Held.{next_for}
use Rattle.world_core.proofs.world.World.activate_step.Goals as goal

pub synchronized-ckpt-requires : goal.synchronized-ckpt-requires
synchronized-ckpt-requires c =
    let w = c.args.self.now in
    let hand = c.in-Some.hand in
    let held : hand_at w.hands c.args.who ≡ Some hand = c.at-slot.ensures.value ∙ c.in-Some.is in
    activates_one w c.args.who c.args.r hand held (next_for w c.args.who (Event (Activate c.args.r)) hand held c.requires.next) c.requires.shown

pub lead-requires-clause-node : goal.lead-requires-clause-node
lead-requires-clause-node c =
    let w = c.args.self.now in
    let hand = c.in-Some.hand in
    let held : hand_at w.hands c.args.who ≡ Some hand = c.at-slot.ensures.value ∙ c.in-Some.is in
    (leads_its w c.args.who c.args.r hand held (next_for w c.args.who (Event (Activate c.args.r)) hand held c.requires.next) c.requires.shown c.synchronized-ckpt.result c.synchronized-ckpt.ensures).on_node

pub lead-requires-clause-can : goal.lead-requires-clause-can
lead-requires-clause-can c =
    let w = c.args.self.now in
    let hand = c.in-Some.hand in
    let held : hand_at w.hands c.args.who ≡ Some hand = c.at-slot.ensures.value ∙ c.in-Some.is in
    let next = next_for w c.args.who (Event (Activate c.args.r)) hand held c.requires.next in
    let set_is = c.sweep.ensures ∙ ap swept c.set_active.ensures in
    let end_is = c.take_done-end.ensures.outcome ∙ lead_ends w c.args.who c.args.r hand held next c.requires.shown c.synchronized-ckpt.result c.synchronized-ckpt.ensures c.sweep.new.self c.lend_snapshot.new.self set_is c.lend_snapshot.ensures.new in
    let gone : c.let_go.new.slot ≡ None = c.let_go.ensures ∙ ap (λ end. left end c.take_done-end.new.self) end_is in
    lead_can w c.args.who c.args.r hand held next c.requires.shown c.synchronized-ckpt.result c.synchronized-ckpt.ensures c.free_gone.ensures.eight c.free_gone.new.self c.sweep.new.self c.copy_held-held.result
    set_is (c.copy_held-held.ensures ∙ ap (copy_held (entry_of c.synchronized-ckpt.result w.cluster.entries)) c.lend_snapshot.ensures.lent) (c.free_gone.ensures.new ∙ ap (λ (place : Option InHand). freed_world (record w { cluster = c.sweep.new.self; hands = set_at w.hands c.args.who place })) gone)

pub returns : goal.returns
returns c =
    let w = c.args.self.now in
    let hand = c.in-Some.hand in
    let held : hand_at w.hands c.args.who ≡ Some hand = c.at-slot.ensures.value ∙ c.in-Some.is in
    let next = next_for w c.args.who (Event (Activate c.args.r)) hand held c.requires.next in
    let set_is = c.sweep.ensures ∙ ap swept c.set_active.ensures in
    let end_is = c.take_done-end.ensures.outcome ∙ lead_ends w c.args.who c.args.r hand held next c.requires.shown c.synchronized-ckpt.result c.synchronized-ckpt.ensures c.sweep.new.self c.lend_snapshot.new.self set_is c.lend_snapshot.ensures.new in
    let gone : c.let_go.new.slot ≡ None = c.let_go.ensures ∙ ap (λ end. left end c.take_done-end.new.self) end_is in
    record {
      label = _;
      labels = c.push.ensures.labels;
      is = subst (λ (label : Label). IsStep c.args.who w c.end_alone.new.self label)
          (sym (c.stepped.ensures ∙ ap (λ end. Stepped hand.call c.word-op.result verbs.Activate (Some c.synchronized-ckpt.result) (Some c.args.r) Ok end Nothing) end_is))
          (lead_step w c.args.who c.args.r hand held next c.requires.shown c.synchronized-ckpt.result c.synchronized-ckpt.ensures c.free_gone.ensures.eight c.free_gone.new.self c.sweep.new.self c.copy_held-held.result
          set_is (c.copy_held-held.ensures ∙ ap (copy_held (entry_of c.synchronized-ckpt.result w.cluster.entries)) c.lend_snapshot.ensures.lent) (c.free_gone.ensures.new ∙ ap (λ (place : Option InHand). freed_world (record w { cluster = c.sweep.new.self; hands = set_at w.hands c.args.who place })) gone)
          c.end_alone.new.self c.lead.new.nodes c.word-op.result c.lead.ensures (c.end_alone.ensures ∙ ap (λ end. ended_at c.args.who end (record c.free_gone.new.self { nodes = c.lead.new.nodes })) end_is) c.word-op.ensures);
    }
