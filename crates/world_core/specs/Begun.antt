-- A call as it is in hand from its beginning.
use Rattle.std.specs.Prelude.{◌≡◌}
use Rattle.ckpt_types.specs.declared.identities.CallId.{CallId}
use Rattle.ckpt_types.specs.declared.operation.Op.{Op}
use Rattle.ckpt_machine.specs.Driving.{Kept}
use Rattle.client_calls.specs.declared.in_hand.InHand.{InHand}
use Rattle.world_core.specs.HandsState.{HandsState, HasAlone, with_alone}
use Rattle.client_calls.specs.HandBegun.{IsHandBegun}

-- so an asynchronous call is, beside all others
pub record IsPutAlone (call : CallId) (op : Op) (kept : Kept) (old new : HandsState) : Type 0 where
  pub hand : InHand
  pub begun : IsHandBegun call op kept hand
  pub there : HasAlone hand.call.actor old
  pub hands : new ≡ with_alone hand old
