-- That an update is among the effects of a replica.
use Rattle.std.proofs.Common.{inl, inr, List, [], ◌∷◌, ◌++◌}
use Rattle.ckpt_types.specs.declared.identities.CallId.{CallId}
use Rattle.ckpt_types.specs.declared.update.Update.{Update}
use Rattle.ckpt_machine.specs.Machine.{Effect}
use Rattle.ckpt_machine.specs.Owned.{IsUpdateBy, HasUpdate}

-- one effect more takes none away
pub has_more : (d : CallId) (u : Update) (xs ys : List Effect) → HasUpdate d u xs → HasUpdate d u (xs ++ ys)
has_more d u [] ys has = absurd has
has_more d u (x ∷ xs) ys (inl is) = inl is
has_more d u (x ∷ xs) ys (inr has) = inr (has_more d u xs ys has)

-- the new one is there
pub has_new : (d : CallId) (u : Update) (xs : List Effect) (new : Effect) → IsUpdateBy d u new → HasUpdate d u (xs ++ new ∷ [])
has_new d u [] new is = inl is
has_new d u (x ∷ xs) new is = inr (has_new d u xs new is)
