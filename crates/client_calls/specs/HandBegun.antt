-- A call as it is in hand from its beginning.
use Rattle.std.specs.Prelude.{◌≡◌, Some, None}
use Rattle.ckpt_types.specs.declared.identities.CallId.{CallId}
use Rattle.ckpt_types.specs.declared.operation.Op.{Op}
use Rattle.ckpt_types.specs.Asks.{asked}
use Rattle.ckpt_machine.specs.Driving.{Kept, driver_start}
use Rattle.client_calls.specs.declared.in_hand.InHand.{InHand}
use Rattle.client_calls.specs.HandRooms.{room_for, copy_room_for}

-- a call is in hand as it begins, with the room that it takes, and with what drives it
pub record IsHandBegun (call : CallId) (op : Op) (kept : Kept) (hand : InHand) : Type 0 where
  pub call_is : hand.call ≡ call
  pub op_is : hand.op ≡ op
  pub iteration : hand.iteration ≡ room_for (asked op) kept.room
  pub snapshot : hand.snapshot ≡ copy_room_for (asked op) kept.declares
  pub made : hand.made ≡ None
  pub driven : driver_start call (asked op) kept ≡ Some hand.driver
