-- How the calls in hand are kept: by client the one that it waits for, and its asynchronous ones in the order of their beginning; and by node its copying.
use Rattle.std.specs.Prelude.{◌≡◌, length}
use Rattle.ckpt_types.specs.Limits.{client_numbers}
use Rattle.world_core.specs.declared.hands.Hands.TheInside.{Inside}
use Rattle.world_core.specs.HandsState.{HandsState}

-- the calls in hand as contracts see them
abbrev pub hands_shown : Inside → HandsState
hands_shown hands = record { clients = hands.clients.items; alone = hands.alone.items; nodes = hands.nodes }

-- each client has its place, and its list
pub record HasEachPlace (hands : Inside) : Type 0 where
  pub clients : length hands.clients.items ≡ client_numbers
  pub alone : length hands.alone.items ≡ client_numbers
