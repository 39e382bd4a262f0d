use Rattle.std.proofs.Common.{◌≡◌, Some, None, sym, ap, subst, ◌∙◌}
use Rattle.node_msgs.specs.declared.next.Next.TheVariants.{Event}
use Rattle.node_msgs.specs.declared.details.Details.TheVariants.{Nothing}
use Rattle.run_labels.specs.declared.labels.Label.{Label}
use Rattle.run_labels.specs.declared.labels.Label.TheVariants.{Stepped}
use Rattle.cluster_record.specs.Calls.{left}
use Rattle.ckpt_machine.specs.Driving.{event_refusal}
use Rattle.world_core.specs.Happenings.{IsStep}
use Rattle.ckpt_machine.specs.RecordReady.{IsRefusedWith}
use Rattle.world_core.specs.Alone.{ended_at}
use Rattle.world_core.specs.HandsState.{hand_at, set_at}
use Rattle.world_core.proofs.EventEnds.{refused_ends}
use Rattle.world_core.proofs.Held.{next_for}
use Rattle.world_core.proofs.RecordEvent.{refused_step}
use Rattle.world_core.proofs.world.World.refuse_step.Goals as goal

pub returns : goal.returns
returns c =
    let w = c.args.self.now in
    let hand = c.in-Some.hand in
    let held : hand_at w.hands c.args.who ≡ Some hand = c.at-slot.ensures.value ∙ c.in-Some.is in
    let next = next_for w c.args.who (Event c.args.step) hand held c.requires.next in
    let refused = refused_ends w c.args.who c.args.step hand held next c.requires.shown c.args.reply.now (c.requires.refused hand held) in
    let end_is : c.take_refusal-end.result ≡ Some refused.0 = c.take_refusal-end.ensures.outcome ∙ refused.1 in
    let gone : c.let_go.new.slot ≡ None = c.let_go.ensures ∙ ap (λ end. left end c.take_refusal-end.new.self) end_is in
    record {
      label = _;
      labels = c.push.ensures.labels;
      is = subst (λ (label : Label). IsStep c.args.who w c.end_alone.new.self label)
          (sym (c.stepped.ensures ∙ ap (λ end. Stepped hand.call c.word-op.result c.verb.result c.event_ckpt-ckpt.result c.event_node-node.result c.refusal_word.result end Nothing) end_is))
          (refused_step w c.args.who c.args.step hand held next c.requires.shown c.end_alone.new.self c.word-op.result c.verb.result c.event_ckpt-ckpt.result c.event_node-node.result c.refusal_word.result refused.0 c.requires.plain
          (subst (λ word. IsRefusedWith (event_refusal w.cluster c.args.step hand.driver) c.args.step word refused.0) (sym c.refusal_word.ensures) refused.2)
          (c.end_alone.ensures ∙ (λ i. ended_at c.args.who (end_is i) (record w { hands = set_at w.hands c.args.who (gone i) }))) c.event_ckpt-ckpt.ensures c.event_node-node.ensures c.word-op.ensures c.verb.ensures);
    }
