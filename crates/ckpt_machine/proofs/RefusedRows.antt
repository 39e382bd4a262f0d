-- Worked examples of a refusal, by computation: a client that is not live closes a handle.
use Rattle.std.proofs.Common.{◌≡◌, inl, List, [], ◌∷◌, ◌++◌, None, Some, refl}
use Rattle.ckpt_types.specs.declared.ais_error.AisError.TheVariants as errors
use Rattle.ckpt_types.specs.declared.answers.Cause.TheVariants.{Plain}
use Rattle.ckpt_types.specs.declared.answers.Outcome.TheVariants.{Refused}
use Rattle.ckpt_types.specs.declared.identities.ActorName.TheVariants.{Client}
use Rattle.ckpt_types.specs.declared.identities.CallId.{CallId}
use Rattle.ckpt_types.specs.declared.identities.Who.TheVariants.{Actor}
use Rattle.node_msgs.specs.declared.details.Details.TheVariants as beside
use Rattle.ckpt_types.specs.declared.operation.Op.TheVariants as ops
use Rattle.ckpt_types.specs.declared.update.Update.TheVariants as updates
use Rattle.run_labels.specs.declared.labels.Label.{Label}
use Rattle.run_labels.specs.declared.labels.Label.TheVariants as labels
use Rattle.ckpt_machine.specs.Machine.{Applied, empty_cluster}
use Rattle.ckpt_machine.specs.Owned.{HasEffect}
use Rattle.ckpt_machine.specs.Refusals.{IsRefusal}
use Rattle.ckpt_machine.specs.Runs.{last}

abbrev first : CallId
first = record { actor = Client 0; number = 1 }

abbrev up : List Label
up = labels.Nodes 1 ∷ []

abbrev refusal_label : Label
refusal_label = labels.Began first (ops.Close 0) (Some (Refused errors.BadHandle Plain)) beside.Nothing

is_refusal : IsRefusal refusal_label
is_refusal = tt

-- its number is number_is_taken, and no other's
number_is_taken : (last (up ++ refusal_label ∷ [])).next (Client 0) ≡ 2
number_is_taken = refl

others : (last (up ++ refusal_label ∷ [])).next (Client 1) ≡ 1
others = refl

-- it is in hand no more
call_has_ended : (last (up ++ refusal_label ∷ [])).in_hand (Actor (Client 0)) ≡ None
call_has_ended = refl

-- the record is as it was
recorded : (last (up ++ refusal_label ∷ [])).cluster ≡ (last up).cluster
recorded = refl

-- an effect is of the call that it names
effect : HasEffect first (Applied first updates.Nothing empty_cluster.cluster.moment ∷ [])
effect = inl refl
