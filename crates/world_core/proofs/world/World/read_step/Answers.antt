use Rattle.std.proofs.Common.{◌≡◌, Some, w64, to_z, of_z, rules, sym, subst, ◌∙◌}
use Rattle.std.proofs.lemmas.Int.{to_z-of_z}
use Rattle.node_msgs.specs.declared.requests.Request.{Request}
use Rattle.node_msgs.specs.declared.requests.Request.TheVariants.{Read}
use Rattle.run_labels.specs.declared.labels.Label.{Label}
use Rattle.world_core.specs.Happenings.{IsStep}
use Rattle.world_core.specs.declared.world.World.{World}
use Rattle.world_core.specs.HandsState.{hand_at}
use Rattle.world_core.proofs.HandLaws.{left_alone}
use Rattle.world_core.proofs.Reading.{read_is, reads_there}
use Rattle.world_core.proofs.ServedSteps.{asks_of}
use Rattle.world_core.proofs.Stepping.{node_there}
use Rattle.world_core.proofs.Taking.{hand_ends, hand_keeps}
use Rattle.world_core.proofs.world.World.read_step.Goals as goal

pub returns-in_err-read-clause-err : goal.returns-in_err-read-clause-err
returns-in_err-read-clause-err c = left_alone c.from_residual.result c.args.self.now c.args.who (Some c.in-Some.hand) c.args.log.now.labels (c.at-slot.ensures.value ∙ c.in-Some.is)

pub read-reply-requires-clause-node : goal.read-reply-requires-clause-node
read-reply-requires-clause-node c = node_there c.args.self.now c.args.who c.args.r (Read c.args.ckpt) c.in-Some.hand (c.at-slot.ensures.value ∙ c.in-Some.is) c.requires.next c.requires.shown

pub read-reply-requires-clause-there : goal.read-reply-requires-clause-there
read-reply-requires-clause-there c = reads_there c.args.self.now c.args.who c.args.r c.args.ckpt c.in-Some.hand (c.at-slot.ensures.value ∙ c.in-Some.is) c.requires.next c.requires.shown

pub returns-clause-ok : goal.returns-clause-ok
returns-clause-ok c =
    let w = c.args.self.now in
    let hand = c.in-Some.hand in
    let held : hand_at w.hands c.args.who ≡ Some hand = c.at-slot.ensures.value ∙ c.in-Some.is in
    let request : Request = Read c.args.ckpt in
    let moment : to_z w64 (of_z w64 c.now.result) ≡ c.now.result = search (rules, to_z-of_z) in
    let asks = asks_of w c.args.who c.args.r request hand held c.requires.next in
    record {
      label = _;
      labels = c.push.ensures.labels;
      is = subst (λ (z : World × Label). IsStep c.args.who w z.0 z.1) (λ i. (sym c.end_alone.ensures i, sym c.served.ensures i))
          (read_is w c.args.who c.args.r c.args.ckpt hand held c.requires.next c.requires.shown c.elements_in-elements.result.now c.elements_in-elements.ensures.is _ (moment ∙ c.now.ensures) c.read-reply.result c.read-reply.new.out c.read-reply.ensures.answer c.read-reply.ensures.pieces
          c.take-end.new.self c.let_go.new.slot c.take-end.result c.word-op.result c.told_read-details.result (c.take-end.ensures.new ∙ hand_keeps w.cluster c.read-reply.result c.args.r request hand asks)
          (c.take-end.ensures.outcome ∙ hand_ends w.cluster c.read-reply.result c.args.r request hand c.take-end.new.self asks c.take-end.ensures.new) c.let_go.ensures c.word-op.ensures c.told_read-details.ensures);
    }
