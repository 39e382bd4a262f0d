-- What is next for a call that has a deadline.
use Rattle.std.proofs.Common.{◌≡◌, true, false, cond, Option, Some, None, ℤ, refl}
use Rattle.moment_rules.specs.Times.{is_reached}
use Rattle.ckpt_types.specs.declared.ais_error.AisError.TheVariants.{Timeout}
use Rattle.ckpt_types.specs.declared.answers.Cause.TheVariants.{Deadline}
use Rattle.ckpt_types.specs.declared.answers.Outcome.{Outcome}
use Rattle.ckpt_types.specs.declared.answers.Outcome.TheVariants.{Refused}
use Rattle.node_msgs.specs.declared.next.Next.{Next}
use Rattle.node_msgs.specs.declared.next.Next.TheVariants.{End}
use Rattle.cluster_record.specs.DueOpen.{in_time, IsBefore}

-- it is too late, or what is next is so before the deadline
pub in_time-cases : (P : Next → Type 0) (deadline : Option ℤ) (moment : ℤ) (next : Next) → ((d : ℤ) → deadline ≡ Some d → is_reached d moment ≡ true → P (End (Refused Timeout (Deadline d moment)))) → (IsBefore moment deadline → P next) → P (in_time deadline moment next)
in_time-cases P None moment next late early = early tt
in_time-cases P (Some d) moment next late early =
    elim (is_reached d moment) as (λ b. is_reached d moment ≡ b → P (cond b (End (Refused Timeout (Deadline d moment))) next)) [
      | true ↦ λ is. late d refl is
      | false ↦ λ is. early is
    ] refl

-- so what holds of every end, and of what is next, holds either way
pub in_time-either : (P : Next → Type 0) (deadline : Option ℤ) (moment : ℤ) (next : Next) → ((o : Outcome) → P (End o)) → P next → P (in_time deadline moment next)
in_time-either P deadline moment next ends goes = in_time-cases P deadline moment next (λ d is late. ends (Refused Timeout (Deadline d moment))) (λ before. goes)
