use Rattle.std.proofs.Common.{ap, ◌∙◌}
use Rattle.ckpt_machine.specs.Due.{ended_details}
use Rattle.world_core.proofs.CopyServed.{copy_fits, copy_served, copy_there}
use Rattle.world_core.proofs.HandLaws.{left_alone}
use Rattle.world_core.proofs.ServedSteps.{told_still}
use Rattle.std.specs.Prelude.{Some}
use Rattle.ckpt_types.specs.declared.identities.ActorName.TheVariants.{Node}
use Rattle.ckpt_types.specs.declared.identities.Who.TheVariants.{Actor}
use Rattle.world_core.proofs.world.World.copy_serve.Goals as goal

pub lend-requires : goal.lend-requires
lend-requires c = copy_there c.args.self.now c.args.r c.args.q c.args.request.now c.in-Some.hand (c.at_node-slot.ensures.value ∙ c.in-Some.is) c.call-call.ensures.copies c.requires.next c.requires.replica c.requires.shown

pub returns-in_err-lent-clause-err : goal.returns-in_err-lent-clause-err
returns-in_err-lent-clause-err c = left_alone c.from_residual.result c.args.self.now (Actor (Node c.args.r)) (Some c.in-Some.hand) c.args.log.now.labels (c.at_node-slot.ensures.value ∙ c.in-Some.is)

pub serve-reply-requires-clause-node : goal.serve-reply-requires-clause-node
serve-reply-requires-clause-node c = copy_there c.args.self.now c.args.r c.args.q c.args.request.now c.in-Some.hand (c.at_node-slot.ensures.value ∙ c.in-Some.is) c.call-call.ensures.copies c.requires.next c.requires.replica c.requires.shown

pub serve-reply-requires-clause-may : goal.serve-reply-requires-clause-may
serve-reply-requires-clause-may c =
    copy_fits c.args.self.now c.args.r c.args.q c.args.request.now c.in-Some.hand (c.at_node-slot.ensures.value ∙ c.in-Some.is) c.call-call.ensures.copies c.requires.next c.requires.replica c.requires.shown c.requires.roomy
    c.in_ok-lent.lent c.in_ok-lent.ensures.lent c.in_ok-lent.ensures.there c.in_ok-lent.ensures.iteration c.lend_snapshot.result c.lend_snapshot.ensures.lent

pub returns-clause-ok : goal.returns-clause-ok
returns-clause-ok c = record {
  label = _;
  labels = c.push.ensures.labels;
  is = copy_served c.args.self.now c.args.r c.args.q c.args.request.now c.in-Some.hand (c.at_node-slot.ensures.value ∙ c.in-Some.is) c.call-call.ensures.copies c.requires.next c.requires.replica c.requires.shown c.requires.roomy
      c.in_ok-lent.lent c.in_ok-lent.ensures.lent c.in_ok-lent.ensures.there c.in_ok-lent.ensures.iteration c.lend_snapshot.result c.lend_snapshot.ensures.lent
      c.serve-reply.result c.serve-reply.new.self c.serve-reply.new.lent c.keep_snapshot.new.self c.take-end.new.self c.let_go_copy.new.slot c.take-end.result c.told_details-details.result c.call-call.result c.served.result
      (record { there = c.serve-reply.ensures.there; may = c.serve-reply.ensures.reply; nodes_are = c.serve-reply.ensures.new; details = c.serve-reply.ensures.details; iteration = c.serve-reply.ensures.iteration; snapshot = c.serve-reply.ensures.snapshot })
      (c.keep_snapshot.ensures ∙ (λ i. record (c.lend_snapshot.ensures.new i) { snapshot = c.take.ensures.value i })) c.take-end.ensures.new c.take-end.ensures.outcome c.let_go_copy.ensures
      (c.told_details-details.ensures ∙ ap (ended_details c.take-end.result) (told_still c.serve-reply.result c.serve-reply.new.lent c.serve-reply.new.lent.iteration c.take.new.self)) c.call-call.ensures.value c.served.ensures;
}
