use Rattle.std.proofs.Common.{◌≡◌, Some, refl, sym, ap, subst, ◌∙◌}
use Rattle.std.specs.Prelude.{Bool, IsSome, OnOk, OnErr}
use Rattle.node_msgs.specs.declared.steps.StepReply.TheVariants as words
use Rattle.node_msgs.specs.declared.steps.Verb.TheVariants as verbs
use Rattle.node_msgs.specs.declared.details.Details.TheVariants as beside
use Rattle.run_labels.specs.declared.labels.Label.TheVariants.{Stepped}
use Rattle.ckpt_types.specs.declared.identities.ActorName.TheVariants.{Client}
use Rattle.ckpt_types.specs.declared.identities.Who.TheVariants.{Actor}
use Rattle.cluster_record.specs.Calls.{left}
use Rattle.world_core.specs.declared.world.World.{World}
use Rattle.world_core.specs.Happenings.{Adds, IsStep}
use Rattle.world_core.specs.HandsState.{hand_at}
use Rattle.world_core.specs.Shows.{IsShown}
use Rattle.cluster_record.specs.Ends.{ended_unless}
use Rattle.world_core.proofs.HandLaws.{same_world}
use Rattle.replica.specs.Replicas.{committed}
use Rattle.stage_slot.specs.Slots.{IsOwnedBy}
use Rattle.ckpt_machine.specs.Nodes.{replica_in, with_changed}
use Rattle.ckpt_machine.proofs.LentReplicas.{has_one, holds_here, left_as}
use Rattle.world_core.proofs.Staging.{owns, commit_is}
use Rattle.world_core.proofs.Stepping.{node_there}
use Rattle.world_core.proofs.world.World.commit_step.Goals as goal

-- a creation goes on as it was
pub driven_step-requires-clause-shown : goal.driven_step-requires-clause-shown
driven_step-requires-clause-shown c = subst IsShown (sym (same_world c.args.self.now (Actor (Client c.args.c)) (Some c.in-Some.hand) (c.at_client-slot.ensures.value ∙ c.in-Some.is))) c.requires.shown

pub driven_step-requires-clause-held : goal.driven_step-requires-clause-held
driven_step-requires-clause-held c =
    let held : hand_at c.args.self.now.hands (Actor (Client c.args.c)) ≡ Some c.in-Some.hand = c.at_client-slot.ensures.value ∙ c.in-Some.is in
    subst (λ (w : World). IsSome (hand_at w.hands (Actor (Client c.args.c)))) (sym (same_world c.args.self.now (Actor (Client c.args.c)) (Some c.in-Some.hand) held)) (subst IsSome (sym held) refl)

pub returns-then-creates-clause-ok : goal.returns-then-creates-clause-ok
returns-then-creates-clause-ok c =
    subst (λ (w : World). OnOk c.driven_step.result (Adds c.args.log.now c.driven_step.new.log (IsStep (Actor (Client c.args.c)) w c.driven_step.new.self))) (same_world c.args.self.now (Actor (Client c.args.c)) (Some c.in-Some.hand) (c.at_client-slot.ensures.value ∙ c.in-Some.is)) c.driven_step.ensures.ok

pub returns-then-creates-clause-err : goal.returns-then-creates-clause-err
returns-then-creates-clause-err c =
    subst (λ (w : World). OnErr c.driven_step.result ((c.driven_step.new.self ≡ w) × (c.driven_step.new.log.labels ≡ c.args.log.now.labels))) (same_world c.args.self.now (Actor (Client c.args.c)) (Some c.in-Some.hand) (c.at_client-slot.ensures.value ∙ c.in-Some.is)) c.driven_step.ensures.err

pub at-requires-clause-node : goal.at-requires-clause-node
at-requires-clause-node c = node_there c.args.self.now (Actor (Client c.args.c)) c.args.r _ c.in-Some.hand (c.at_client-slot.ensures.value ∙ c.in-Some.is) c.requires.next c.requires.shown

pub at-requires-clause-there : goal.at-requires-clause-there
at-requires-clause-there c = has_one (replica_in c.args.self.now.nodes c.args.ckpt c.args.r) (λ x. IsOwnedBy c.args.asked x.slot) (owns c.args.self.now c.args.c c.args.r c.args.asked c.args.ckpt c.in-Some.hand (c.at_client-slot.ensures.value ∙ c.in-Some.is) c.requires.next c.requires.shown)

pub commit-requires : goal.commit-requires
commit-requires c = record {
  own = holds_here c.args.self.now.nodes c.args.ckpt c.args.r c.at.result.now c.at.ensures.value (λ x. IsOwnedBy c.args.asked x.slot) (owns c.args.self.now c.args.c c.args.r c.args.asked c.args.ckpt c.in-Some.hand (c.at_client-slot.ensures.value ∙ c.in-Some.is) c.requires.next c.requires.shown);
}

pub committed-requires-clause-node : goal.committed-requires-clause-node
committed-requires-clause-node c = node_there c.args.self.now (Actor (Client c.args.c)) c.args.r _ c.in-Some.hand (c.at_client-slot.ensures.value ∙ c.in-Some.is) c.requires.next c.requires.shown

pub returns-then-committed-clause-ok : goal.returns-then-committed-clause-ok
returns-then-committed-clause-ok c =
    record {
      label = _;
      labels = c.push.ensures.labels;
      is = commit_is c.args.self.now c.args.c c.args.r c.args.asked c.args.ckpt c.in-Some.hand (c.at_client-slot.ensures.value ∙ c.in-Some.is) c.requires.next c.requires.shown (sym c.creates.ensures ∙ c.if-creates.false) (with_changed c.args.ckpt c.args.r (λ z. c.commit.new.self) c.args.self.now.nodes) (left_as c.args.self.now.nodes c.args.ckpt c.args.r c.at.result.now c.at.ensures.value (λ x. committed x x.slot) c.commit.new.self c.commit.ensures) c.word-op.result c.word-op.ensures
          c.committed.result c.committed.new.self (Some c.committed.new.self) _ (c.requires.update c.in-Some.hand (c.at_client-slot.ensures.value ∙ c.in-Some.is)) (c.committed.ensures.new, c.committed.ensures.end) (ap (λ (b : Bool). left (ended_unless b) c.committed.new.self) (sym c.if-committed.true))
          (c.goes_on.ensures ∙ ap (λ (b : Bool). Stepped c.in-Some.hand.call c.word-op.result verbs.Commit (Some c.args.ckpt) (Some c.args.r) words.Ok (ended_unless b) beside.Nothing) (sym c.if-committed.true));
    }

pub returns-else-committed-clause-ok : goal.returns-else-committed-clause-ok
returns-else-committed-clause-ok c =
    record {
      label = _;
      labels = c.push-else-committed.ensures.labels;
      is = commit_is c.args.self.now c.args.c c.args.r c.args.asked c.args.ckpt c.in-Some.hand (c.at_client-slot.ensures.value ∙ c.in-Some.is) c.requires.next c.requires.shown (sym c.creates.ensures ∙ c.if-creates.false) (with_changed c.args.ckpt c.args.r (λ z. c.commit.new.self) c.args.self.now.nodes) (left_as c.args.self.now.nodes c.args.ckpt c.args.r c.at.result.now c.at.ensures.value (λ x. committed x x.slot) c.commit.new.self c.commit.ensures) c.word-op.result c.word-op.ensures
          c.committed.result c.committed.new.self c.clear.new.slot _ (c.requires.update c.in-Some.hand (c.at_client-slot.ensures.value ∙ c.in-Some.is)) (c.committed.ensures.new, c.committed.ensures.end) (c.clear.ensures ∙ ap (λ (b : Bool). left (ended_unless b) c.committed.new.self) (sym c.if-committed.false))
          (c.done.ensures ∙ ap (λ (b : Bool). Stepped c.in-Some.hand.call c.word-op.result verbs.Commit (Some c.args.ckpt) (Some c.args.r) words.Ok (ended_unless b) beside.Nothing) (sym c.if-committed.false));
    }
