use Rattle.std.proofs.Common.{◌≡◌, Some, sym, ap, subst, ◌∙◌}
use Rattle.ckpt_types.specs.declared.identities.ActorName.TheVariants.{Node}
use Rattle.ckpt_types.specs.declared.identities.Who.TheVariants.{Actor}
use Rattle.ckpt_types.specs.OpWord.{word_of_op}
use Rattle.node_msgs.specs.declared.next.Next.TheVariants.{Event}
use Rattle.node_msgs.specs.declared.next.RecordStep.TheVariants.{Complete}
use Rattle.run_labels.specs.declared.labels.Label.{Label}
use Rattle.cluster_record.specs.RecordState.{swept}
use Rattle.world_core.specs.Happenings.{IsStep}
use Rattle.world_core.specs.declared.world.World.{World}
use Rattle.world_core.specs.HandsState.{hand_at, set_at}
use Rattle.world_core.proofs.CompleteSteps.{complete_can, complete_step}
use Rattle.world_core.proofs.HandLaws.{left_alone}
use Rattle.world_core.proofs.Held.{next_for}
use Rattle.world_core.proofs.world.World.copy_complete.Goals as goal

pub returns-in_err-update-clause-err : goal.returns-in_err-update-clause-err
returns-in_err-update-clause-err c = left_alone c.from_residual.result c.args.self.now (Actor (Node c.args.r)) (Some c.in-Some.hand) c.args.log.now.labels (c.at_node-slot.ensures.value ∙ c.in-Some.is)

pub complete-requires-2-clause-can : goal.complete-requires-2-clause-can
complete-requires-2-clause-can c =
    let w = c.args.self.now in
    let v = Actor (Node c.args.r) in
    let hand = c.in-Some.hand in
    let held : hand_at w.hands v ≡ Some hand = c.at_node-slot.ensures.value ∙ c.in-Some.is in
    complete_can w c.args.r c.args.ckpt c.args.moment hand held (next_for w v (Event (Complete c.args.ckpt c.args.r c.args.moment)) hand held c.requires.next) c.requires.shown c.requires.roomy
    c.sweep.new.self (c.sweep.ensures ∙ ap swept c.complete.ensures) c.free_gone.new.self c.free_gone.ensures.new c.take_done-end.new.self c.take_done-end.ensures.new c.snapshot.result.now c.snapshot.ensures

pub returns-clause-ok : goal.returns-clause-ok
returns-clause-ok c =
    let w = c.args.self.now in
    let v = Actor (Node c.args.r) in
    let hand = c.in-Some.hand in
    let held : hand_at w.hands v ≡ Some hand = c.at_node-slot.ensures.value ∙ c.in-Some.is in
    let new : World = record w { cluster = c.sweep.new.self; nodes = c.complete-2.new.nodes; snapshots = c.free_gone-2.new.self; hands = set_at w.hands v c.let_go_copy.new.slot } in
    record {
      label = _;
      labels = c.push.ensures.labels;
      is = subst (λ (label : Label). IsStep v w new label) (sym c.stepped.ensures)
          (complete_step w c.args.r c.args.ckpt c.args.moment hand held (next_for w v (Event (Complete c.args.ckpt c.args.r c.args.moment)) hand held c.requires.next) c.requires.shown c.requires.roomy
          c.sweep.new.self (c.sweep.ensures ∙ ap swept c.complete.ensures) c.free_gone.new.self c.free_gone.ensures.new c.take_done-end.new.self c.take_done-end.ensures.new c.snapshot.result.now c.snapshot.ensures
          c.take_done-end.result c.complete-2.new.nodes c.free_gone-2.new.self c.let_go_copy.new.slot c.call-call.result _ c.take_done-end.ensures.outcome c.complete-2.ensures c.free_gone-2.ensures c.let_go_copy.ensures c.call-call.ensures.value (sym (ap word_of_op c.call-call.ensures.copies.op)));
    }
