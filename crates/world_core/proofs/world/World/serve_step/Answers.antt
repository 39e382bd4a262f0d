use Rattle.std.proofs.Common.{Some, refl, sym, ap, subst, ◌∙◌}
use Rattle.node_msgs.specs.Requests.{ckpt_of}
use Rattle.node_msgs.specs.Steps.{verb_of, word_of}
use Rattle.cluster_record.specs.Calls.{left}
use Rattle.ckpt_machine.specs.Due.{ended_details}
use Rattle.run_labels.specs.declared.labels.Label.{Label}
use Rattle.world_core.specs.Happenings.{IsStep}
use Rattle.world_core.specs.declared.world.World.{World}
use Rattle.world_core.proofs.HandLaws.{left_alone}
use Rattle.world_core.proofs.Held.{hand_made}
use Rattle.world_core.proofs.ServedSteps.{asks_lent, fits_at, keeps_at, lends_at, step_is, told_still}
use Rattle.world_core.proofs.Stepping.{node_there}
use Rattle.world_core.proofs.Taking.{hand_ends, hand_keeps}
use Rattle.world_core.proofs.world.World.serve_step.Goals as goal

pub returns-in_err-lent-clause-err : goal.returns-in_err-lent-clause-err
returns-in_err-lent-clause-err c = left_alone c.from_residual.result c.args.self.now c.args.who (Some c.in-Some.hand) c.args.log.now.labels (c.at-slot.ensures.value ∙ c.in-Some.is)

pub lend_iteration-requires : goal.lend_iteration-requires
lend_iteration-requires c =
    record { can = lends_at c.args.self.now c.args.who c.args.r c.args.request.now c.in-Some.hand (c.at-slot.ensures.value ∙ c.in-Some.is) c.requires.next c.requires.shown c.client_by-c.result c.client_by-c.ensures _ c.at.ensures.value }

pub lend-requires : goal.lend-requires
lend-requires c = node_there c.args.self.now c.args.who c.args.r c.args.request.now c.in-Some.hand (c.at-slot.ensures.value ∙ c.in-Some.is) c.requires.next c.requires.shown

pub serve-reply-requires-clause-node : goal.serve-reply-requires-clause-node
serve-reply-requires-clause-node c = node_there c.args.self.now c.args.who c.args.r c.args.request.now c.in-Some.hand (c.at-slot.ensures.value ∙ c.in-Some.is) c.requires.next c.requires.shown

pub serve-reply-requires-clause-may : goal.serve-reply-requires-clause-may
serve-reply-requires-clause-may c = fits_at c.args.self.now c.args.who c.args.r c.args.request.now c.in-Some.hand (c.at-slot.ensures.value ∙ c.in-Some.is) c.requires.next c.requires.shown c.requires.roomy c.in_ok-lent.lent c.in_ok-lent.ensures.lent c.in_ok-lent.ensures.there c.client_by-c.result c.client_by-c.ensures
    _ c.lend_iteration.new.table c.at.ensures.value c.lend_iteration.new.hand (record c.lend_iteration.new.hand { snapshot = c.hand_over.new.from }) c.lend_iteration.result c.hand_over.new.to c.lend_iteration.ensures.hand (ap (λ copy. record c.lend_iteration.new.hand { snapshot = copy }) c.hand_over.ensures.from) c.lend_iteration.ensures.lent c.hand_over.ensures.to c.lend_iteration.ensures.table

pub keep_iteration-requires : goal.keep_iteration-requires
keep_iteration-requires c =
    record {
      can = keeps_at c.args.self.now c.args.who c.args.r c.args.request.now c.in-Some.hand (c.at-slot.ensures.value ∙ c.in-Some.is) c.requires.next c.requires.shown c.requires.roomy c.in_ok-lent.lent c.in_ok-lent.ensures.lent c.in_ok-lent.ensures.there c.client_by-c.result c.client_by-c.ensures
          _ c.lend_iteration.new.table c.at.ensures.value c.lend_iteration.new.hand (record c.lend_iteration.new.hand { snapshot = c.hand_over.new.from }) c.lend_iteration.result c.hand_over.new.to c.lend_iteration.ensures.hand (ap (λ copy. record c.lend_iteration.new.hand { snapshot = copy }) c.hand_over.ensures.from) c.lend_iteration.ensures.lent c.hand_over.ensures.to c.lend_iteration.ensures.table
          _ c.at-2.ensures.value;
    }

pub returns-clause-ok : goal.returns-clause-ok
returns-clause-ok c =
    let w = c.args.self.now in
    let hand = c.in-Some.hand in
    let request = c.args.request.now in
    let asks = asks_lent w c.args.who c.args.r request hand (c.at-slot.ensures.value ∙ c.in-Some.is) c.requires.next c.lend_iteration.new.hand c.lend_iteration.ensures.hand in
    record {
      label = _;
      labels = c.push.ensures.labels;
      is = subst (λ (z : World × Label). IsStep c.args.who w z.0 z.1) (λ i. (sym c.end_alone.ensures i, sym c.served.ensures i))
          (step_is w c.args.who c.args.r request hand (c.at-slot.ensures.value ∙ c.in-Some.is) c.requires.next c.requires.shown c.requires.roomy c.in_ok-lent.lent c.in_ok-lent.ensures.lent c.in_ok-lent.ensures.there c.client_by-c.result c.client_by-c.ensures
          _ c.lend_iteration.new.table c.at.ensures.value c.lend_iteration.new.hand (record c.lend_iteration.new.hand { snapshot = c.hand_over.new.from }) c.lend_iteration.result c.hand_over.new.to c.lend_iteration.ensures.hand (ap (λ copy. record c.lend_iteration.new.hand { snapshot = copy }) c.hand_over.ensures.from) c.lend_iteration.ensures.lent c.hand_over.ensures.to c.lend_iteration.ensures.table
          c.requires.client c.serve-reply.result c.serve-reply.new.self c.serve-reply.new.lent c.take.result c.hand_over-2.new.to _ c.keep_iteration.new.table c.take-end.new.self c.tell-details.new.self c.let_go.new.slot c.take-end.result c.word-op.result (verb_of request) (ckpt_of request) (word_of c.serve-reply.result) c.tell-details.result
          c.lend_iteration.ensures.valid (record { there = c.serve-reply.ensures.there; may = c.serve-reply.ensures.reply; nodes_are = c.serve-reply.ensures.new; details = c.serve-reply.ensures.details; iteration = c.serve-reply.ensures.iteration; snapshot = c.serve-reply.ensures.snapshot }) c.at-2.ensures.value c.take.ensures.value c.hand_over-2.ensures.to
          c.keep_iteration.ensures (c.take-end.ensures.new ∙ hand_keeps w.cluster c.serve-reply.result c.args.r request _ asks) (c.take-end.ensures.outcome ∙ hand_ends w.cluster c.serve-reply.result c.args.r request _ c.take-end.new.self asks c.take-end.ensures.new) (c.tell-details.ensures.made ∙ ap (λ told. left c.take-end.result (hand_made request c.serve-reply.result told c.take-end.new.self)) (told_still c.serve-reply.result c.serve-reply.new.lent c.take.new.self c.hand_over-2.new.from)) c.let_go.ensures c.word-op.ensures refl refl refl
          (c.tell-details.ensures.details ∙ ap (ended_details c.take-end.result) (told_still c.serve-reply.result c.serve-reply.new.lent c.take.new.self c.hand_over-2.new.from)));
    }
