use Rattle.std.proofs.Common.{◌≡◌, ℤ, Some, w64, to_z, of_z, refl, sym, ap, subst, ◌∙◌}
use Rattle.std.proofs.lemmas.Int.{to_z-of_z}
use Rattle.ckpt_types.specs.declared.answers.Answer.TheVariants as answers
use Rattle.ckpt_types.specs.declared.identities.ActorName.TheVariants.{Client}
use Rattle.ckpt_types.specs.declared.identities.Who.TheVariants.{Actor}
use Rattle.node_core.specs.StageReplies.{reply_told}
use Rattle.node_msgs.specs.declared.requests.Request.TheVariants.{Stage}
use Rattle.replica.specs.Replicas.{answer_unless, outcome_on, staged}
use Rattle.stage_slot.specs.Slots.{owner_of}
use Rattle.ckpt_types.specs.OpWord.{word_of_op}
use Rattle.ckpt_machine.specs.Taking.{AsksNode}
use Rattle.ckpt_machine.specs.Nodes.{replica_in, with_changed}
use Rattle.world_core.proofs.HandLaws.{left_alone}
use Rattle.world_core.proofs.ServedSteps.{asks_of}
use Rattle.node_core.specs.Fitting.{TakesUpdate}
use Rattle.ckpt_machine.proofs.LentReplicas.{has_one, holds_here, holds_there, left_as}
use Rattle.world_core.proofs.Staging.{takes, stage_is, stage_refused}
use Rattle.world_core.proofs.Stepping.{node_there}
use Rattle.world_core.proofs.world.World.stage_step.Goals as goal

pub returns-in_err-update-clause-err : goal.returns-in_err-update-clause-err
returns-in_err-update-clause-err c = left_alone c.from_residual.result c.args.self.now (Actor (Client c.args.c)) (Some c.in-Some.hand) c.args.log.now.labels (c.at_client-slot.ensures.value ∙ c.in-Some.is)

pub at-replica-requires-clause-node : goal.at-replica-requires-clause-node
at-replica-requires-clause-node c = node_there c.args.self.now (Actor (Client c.args.c)) c.args.r _ c.in-Some.hand (c.at_client-slot.ensures.value ∙ c.in-Some.is) c.requires.next c.requires.shown

pub at-replica-requires-clause-there : goal.at-replica-requires-clause-there
at-replica-requires-clause-there c = has_one (replica_in c.args.self.now.nodes c.args.ckpt c.args.r) TakesUpdate (takes c.args.self.now c.args.c c.args.r c.args.asked c.args.ckpt c.args.moment c.in-Some.hand (c.at_client-slot.ensures.value ∙ c.in-Some.is) c.requires.next c.requires.shown c.requires.roomy)

pub stage-requires-clause-room : goal.stage-requires-clause-room
stage-requires-clause-room c = (holds_here c.args.self.now.nodes c.args.ckpt c.args.r c.at-replica.result.now c.at-replica.ensures.value TakesUpdate (takes c.args.self.now c.args.c c.args.r c.args.asked c.args.ckpt c.args.moment c.in-Some.hand (c.at_client-slot.ensures.value ∙ c.in-Some.is) c.requires.next c.requires.shown c.requires.roomy)).room

pub stage-requires-clause-unmarked : goal.stage-requires-clause-unmarked
stage-requires-clause-unmarked c = (holds_here c.args.self.now.nodes c.args.ckpt c.args.r c.at-replica.result.now c.at-replica.ensures.value TakesUpdate (takes c.args.self.now c.args.c c.args.r c.args.asked c.args.ckpt c.args.moment c.in-Some.hand (c.at_client-slot.ensures.value ∙ c.in-Some.is) c.requires.next c.requires.shown c.requires.roomy)).unmarked

pub refuse_stage-requires-clause-node : goal.refuse_stage-requires-clause-node
refuse_stage-requires-clause-node c = node_there c.args.self.now (Actor (Client c.args.c)) c.args.r _ c.in-Some.hand (c.at_client-slot.ensures.value ∙ c.in-Some.is) c.requires.next c.requires.shown

pub refuse_stage-requires-clause-next : goal.refuse_stage-requires-clause-next
refuse_stage-requires-clause-next c h is =
    let moment : to_z w64 (of_z w64 c.args.moment) ≡ c.args.moment = to_z-of_z w64 c.args.moment (record { sfits = c.ranges.moment.sfits }) in
    subst (λ (t : ℤ). AsksNode c.args.self.now.cluster h.driver c.args.r (Stage c.args.asked c.args.ckpt t)) (sym moment)
    (asks_of c.args.self.now (Actor (Client c.args.c)) c.args.r (Stage c.args.asked c.args.ckpt c.args.moment) h (c.at_client-slot.ensures.value ∙ c.in-Some.is ∙ is) c.requires.next)

pub staged-requires-clause-node : goal.staged-requires-clause-node
staged-requires-clause-node c = node_there c.args.self.now (Actor (Client c.args.c)) c.args.r _ c.in-Some.hand (c.at_client-slot.ensures.value ∙ c.in-Some.is) c.requires.next c.requires.shown

pub returns-in-Err-clause-ok : goal.returns-in-Err-clause-ok
returns-in-Err-clause-ok c =
    let w = c.args.self.now in
    let hand = c.in-Some.hand in
    let update = c.in_ok-update.update in
    let moment : to_z w64 (of_z w64 c.args.moment) ≡ c.args.moment = to_z-of_z w64 c.args.moment (record { sfits = c.ranges.moment.sfits }) in
    let x = c.at-replica.result.now in
    let answer = holds_there w.nodes c.args.ckpt c.args.r x c.at-replica.ensures.value (λ x. c.stage.result ≡ answer_unless (owner_of x.slot) (outcome_on x update c.args.moment))
    (c.stage.ensures.answer ∙ ap (λ (t : ℤ). answer_unless (owner_of x.slot) (outcome_on x update t)) moment) in
    let nodes = left_as w.nodes c.args.ckpt c.args.r x c.at-replica.ensures.value (staged c.args.asked update c.args.moment) c.stage.new.self (c.stage.ensures.new ∙ ap (λ (t : ℤ). staged c.args.asked update t x) moment) in
    record {
      label = _;
      labels = c.refuse_stage.ensures.label hand refl;
      is = stage_refused w c.args.c c.args.r c.args.asked c.args.ckpt c.args.moment hand (c.at_client-slot.ensures.value ∙ c.in-Some.is) c.requires.next c.requires.shown update c.in_ok-update.ensures c.stage.result answer (with_changed c.args.ckpt c.args.r (λ z. c.stage.new.self) w.nodes) nodes (word_of_op hand.op) refl
          c.in-Err.refused c.refuse_stage.new.slot c.in-Err.is (c.refuse_stage.ensures.slot hand refl);
    }

pub returns-clause-ok : goal.returns-clause-ok
returns-clause-ok c =
    let w = c.args.self.now in
    let hand = c.in-Some.hand in
    let update = c.in_ok-update.update in
    let moment : to_z w64 (of_z w64 c.args.moment) ≡ c.args.moment = to_z-of_z w64 c.args.moment (record { sfits = c.ranges.moment.sfits }) in
    let x = c.at-replica.result.now in
    let answer = holds_there w.nodes c.args.ckpt c.args.r x c.at-replica.ensures.value (λ x. c.stage.result ≡ answer_unless (owner_of x.slot) (outcome_on x update c.args.moment))
    (c.stage.ensures.answer ∙ ap (λ (t : ℤ). answer_unless (owner_of x.slot) (outcome_on x update t)) moment) in
    let nodes = left_as w.nodes c.args.ckpt c.args.r x c.at-replica.ensures.value (staged c.args.asked update c.args.moment) c.stage.new.self (c.stage.ensures.new ∙ ap (λ (t : ℤ). staged c.args.asked update t x) moment) in
    record {
      label = _;
      labels = c.push.ensures.labels;
      is = stage_is w c.args.c c.args.r c.args.asked c.args.ckpt c.args.moment hand (c.at_client-slot.ensures.value ∙ c.in-Some.is) c.requires.next c.requires.shown update c.in_ok-update.ensures c.stage.result answer (with_changed c.args.ckpt c.args.r (λ z. c.stage.new.self) w.nodes) nodes c.word-op.result c.word-op.ensures
          c.staged.new.self _ (c.requires.update hand (c.at_client-slot.ensures.value ∙ c.in-Some.is)) (ap (reply_told answers.Nothing) c.in_default-stage.is) c.staged.ensures c.goes_on.ensures;
    }
