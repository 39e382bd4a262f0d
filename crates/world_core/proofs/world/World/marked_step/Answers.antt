use Rattle.std.proofs.Common.{◌≡◌, Some, sym, subst, ◌∙◌}
use Rattle.ckpt_types.specs.declared.answers.Answer.TheVariants.{Nothing}
use Rattle.node_msgs.specs.declared.replies.Reply.{Reply}
use Rattle.node_msgs.specs.declared.replies.Reply.TheVariants.{Done}
use Rattle.run_labels.specs.declared.labels.Label.{Label}
use Rattle.world_core.specs.Happenings.{IsStep}
use Rattle.world_core.specs.declared.world.World.{World}
use Rattle.world_core.specs.HandsState.{hand_at}
use Rattle.world_core.proofs.MarkedSteps.{marked_is, marked_there}
use Rattle.world_core.proofs.ServedSteps.{asks_of}
use Rattle.world_core.proofs.Stepping.{node_there}
use Rattle.world_core.proofs.Taking.{hand_ends, hand_keeps}
use Rattle.world_core.proofs.world.World.marked_step.Goals as goal

pub serve_marks-requires-clause-node : goal.serve_marks-requires-clause-node
serve_marks-requires-clause-node c = node_there c.args.self.now c.args.who c.args.r c.args.request.now c.in-Some.hand (c.at-slot.ensures.value ∙ c.in-Some.is) c.requires.next c.requires.shown

pub serve_marks-requires-clause-ready : goal.serve_marks-requires-clause-ready
serve_marks-requires-clause-ready c = marked_there c.args.self.now c.args.who c.args.r c.args.request.now c.in-Some.hand (c.at-slot.ensures.value ∙ c.in-Some.is) c.requires.next c.requires.shown c.requires.marks

pub returns : goal.returns
returns c =
    let w = c.args.self.now in
    let hand = c.in-Some.hand in
    let request = c.args.request.now in
    let reply : Reply = Done Nothing in
    let held : hand_at w.hands c.args.who ≡ Some hand = c.at-slot.ensures.value ∙ c.in-Some.is in
    let asks = asks_of w c.args.who c.args.r request hand held c.requires.next in
    record {
      label = _;
      labels = c.push.ensures.labels;
      is = subst (λ (z : World × Label). IsStep c.args.who w z.0 z.1) (λ i. (sym c.end_alone.ensures i, sym c.served.ensures i))
          (marked_is w c.args.who c.args.r request hand held c.requires.next c.requires.shown c.requires.marks c.serve_marks.new.nodes c.serve_marks.ensures c.take-end.new.self c.let_go.new.slot c.take-end.result c.word-op.result
          (c.take-end.ensures.new ∙ hand_keeps w.cluster reply c.args.r request hand asks) (c.take-end.ensures.outcome ∙ hand_ends w.cluster reply c.args.r request hand c.take-end.new.self asks c.take-end.ensures.new) c.let_go.ensures c.word-op.ensures);
    }
