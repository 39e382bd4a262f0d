-- What is left of the asynchronous calls of one client where the place of one is lent.
use Rattle.std.specs.Prelude.{List, Option}
use Rattle.std.specs.Borrow.{Lends, MutBor, Fml}
use Rattle.std.specs.contracts.option.Option.{the_row as option_row}
use Rattle.ckpt_types.specs.declared.identities.CallId.{CallId}
use Rattle.client_calls.specs.contracts.alone.AloneCalls.{the_row as alone_row}
use Rattle.client_calls.specs.contracts.in_hand.InHand.{the_row as hand_row}
use Rattle.client_calls.specs.declared.in_hand.InHand.{InHand}
use Rattle.client_calls.specs.AlonePlaces.{changed_alone}

-- the asynchronous calls of a client end with that of a name set to what is left in its place
abbrev pub LendsAlone : MutBor (List (Option InHand)) → CallId → MutBor (Option InHand) → Fml
LendsAlone calls call place = Lends alone_row (option_row hand_row) calls place (λ o. changed_alone call o calls.now)
