use Rattle.std.proofs.Common.{rules, ◌≡◌, ℕ, List, Option, Some, None, Result, Ok, Err, sym, ap, ◌∙◌, subst, w64}
use Rattle.std.proofs.lemmas.Int.{to_z-of_z}
use Rattle.ckpt_types.specs.declared.identities.CallId.{CallId}
use Rattle.ckpt_types.specs.Sections.{Section}
use Rattle.ckpt_types.specs.Updates.{Refusal}
use Rattle.stage_slot.specs.Slots.{owner_of}
use Rattle.update_rules.specs.declared.refused.Refused.{Refused}
use Rattle.update_rules.specs.Told.{answer_with}
use Rattle.replica.specs.declared.replica.StageRefused.TheVariants as refusals
use Rattle.replica.specs.ReplicaView.{replica_shown}
use Rattle.replica.specs.Replicas.{outcome_on, answer_unless}
use Rattle.replica.proofs.replica.Replica.stage.Goals as goal

-- what the rules refuse is answered so where no call holds it off
refused_by_rules : (first : ℕ) (after : Result (List Section) Refusal) (refused : Refused) (holder : Option CallId) → holder ≡ None → Err refused ≡ answer_with first after → Err (refusals.Rules refused) ≡ answer_unless holder after
refused_by_rules first after refused (Some call) none is = absurd (cc none)
refused_by_rules first (Ok sections) refused None none is = absurd (cc is)
refused_by_rules first (Err why) refused None none is = ap (λ r. Err (refusals.Rules r)) (cc is)

pub returns-in-Err-clause-answer : goal.returns-in-Err-clause-answer
returns-in-Err-clause-answer c =
    let x = replica_shown c.self.inside in
    let told = simp (to_z-of_z w64 c.args.moment c.ranges.moment, c.attributes.ensures.value, c.value.ensures) at c.in-Err.ensures in
    let none : owner_of x.slot ≡ None = sym c.owner.ensures ∙ c.in_default.is in
    subst (λ y. Err (refusals.Rules c.in-Err.refused) ≡ answer_unless (owner_of y.slot) (outcome_on y c.args.update c.args.moment)) c.self.view_is
    (refused_by_rules _ (outcome_on x c.args.update c.args.moment) c.in-Err.refused (owner_of x.slot) none told)

pub invariant_of-self : goal.invariant_of-self
invariant_of-self c = search rules
