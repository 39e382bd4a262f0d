-- A hold, and the setting of an active, leave the identity of a checkpoint as it is.
use Rattle.std.proofs.Common.{◌≡◌, ℕ, Some, None, true, false, cond, refl}
use Rattle.ckpt_types.specs.declared.identities.CallId.{CallId}
use Rattle.cluster_record.specs.RecordState.{can_be_held, with_hold, can_lead, generation_under, with_active}
use Rattle.cluster_record.proofs.IdentityLaws.{KeepsIdentity}

-- a hold leaves the identity as it is
pub with_hold-identity : (call : CallId) → KeepsIdentity (with_hold call)
with_hold-identity call e = elim (can_be_held e) as (λ b. (cond b (record e { hold = Some call }) e).identity ≡ e.identity) [ true ↦ refl | false ↦ refl ]

-- so does an active
pub with_active-identity : (r : ℕ) → KeepsIdentity (with_active r)
with_active-identity r e = elim (can_lead r e) as (λ b. (cond b (record e { active = Some r; generation = generation_under r e; hold = None }) e).identity ≡ e.identity) [ true ↦ refl | false ↦ refl ]
