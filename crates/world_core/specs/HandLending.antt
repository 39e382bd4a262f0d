-- What is left of the calls in hand where the place of a name is lent.
use Rattle.std.specs.Prelude.{Option}
use Rattle.std.specs.Borrow.{Lends, MutBor, Fml}
use Rattle.std.specs.contracts.option.Option.{the_row as option_row}
use Rattle.ckpt_types.specs.declared.identities.Who.{Who}
use Rattle.world_core.specs.contracts.hands.Hands.{the_row}
use Rattle.client_calls.specs.contracts.copy_hand.CopyHand.{the_row as copy_row}
use Rattle.client_calls.specs.contracts.in_hand.InHand.{the_row as hand_row}
use Rattle.client_calls.specs.declared.in_hand.InHand.{InHand}
use Rattle.world_core.specs.HandsState.{HandsState, set_at}

-- the calls in hand end with the place of a name set to what is left in it
abbrev pub LendsHand : MutBor HandsState → Who → MutBor (Option InHand) → Fml
LendsHand hands v place = Lends the_row (option_row hand_row) hands place (set_at hands.now v)

-- the same where the place of a node's copying is lent
abbrev pub LendsCopy : MutBor HandsState → Who → MutBor (Option InHand) → Fml
LendsCopy hands v place = Lends the_row (option_row copy_row) hands place (set_at hands.now v)
