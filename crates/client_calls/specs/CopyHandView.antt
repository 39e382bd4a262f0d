-- How the copying of a node is kept in hand.
use Rattle.std.specs.Prelude.{◌≡◌, None}
use Rattle.ckpt_types.specs.declared.operation.Op.TheVariants as ops
use Rattle.ckpt_types.specs.declared.update.Update.TheVariants as updates
use Rattle.ckpt_machine.specs.Drivers as drivers
use Rattle.client_calls.specs.declared.copy_hand.CopyHand.TheInside.{Inside}
use Rattle.client_calls.specs.declared.in_hand.InHand.{InHand}

-- as a call in hand, like those of clients: it has no room for an iteration, and makes no section
abbrev pub copy_hand_shown : Inside → InHand
copy_hand_shown h = record { call = h.call; op = ops.Copy; driver = drivers.Copy h.driver; iteration = None; snapshot = h.snapshot; made = None }

-- its update changes nothing
abbrev pub ChangesNothing : Inside → Type 0
ChangesNothing h = h.update ≡ updates.Nothing
