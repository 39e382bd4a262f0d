-- An iteration that was in its place is out once it is lent.
use Rattle.std.proofs.Common.{◌≡◌, ℕ, sym, ap, subst}
use Rattle.std.specs.Prelude.{Option, Some, None, IfSome, Ok}
use Rattle.std.specs.Option.{ok_or}
use Rattle.ckpt_types.specs.declared.ais_error.AisError.TheVariants.{BadHandle}
use Rattle.client_handles.specs.ClientState.{ClientState, kept_at, lent, IsLent}
use Rattle.client_handles.proofs.IterationLaws.{IsLent-lent}
use Rattle.section_iter.specs.KeptIds.{KeptIds}

pub IsLent-where_kept : (place : ℕ) (s t : ClientState) (kept : Option KeptIds) → kept ≡ kept_at place s → t ≡ lent place s → IfSome kept (λ (k : KeptIds). IsLent place t)
IsLent-where_kept place s t None there is = tt
IsLent-where_kept place s t (Some kept) there is = subst (IsLent place) (sym is) (IsLent-lent place s kept (ap (λ (o : Option KeptIds). ok_or o BadHandle) there))
