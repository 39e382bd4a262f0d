-- What becomes of the snapshot that a call has in hand.
use Rattle.std.specs.Prelude.{List, Option}
use Rattle.std.specs.Option.{option_and_then, option_map}
use Rattle.snap_copy.specs.Snapshots.{Snapshot}
use Rattle.client_seats.specs.SeatState.{KeptCall, KeptSeat}

-- a call with another snapshot in hand, and other room for copies
abbrev pub call_holding : Option Snapshot → List Snapshot → KeptCall → KeptCall
call_holding snapshot copies c = record c { hand = record c.hand { snapshot = snapshot }; copies = copies }

-- a seat with its call changed, if it has one
abbrev pub with_call : (KeptCall → KeptCall) → KeptSeat → KeptSeat
with_call change s = record s { call = option_map change s.call }

-- the snapshot in hand
abbrev pub snapshot_held : KeptSeat → Option Snapshot
snapshot_held s = option_and_then (λ (c : KeptCall). c.hand.snapshot) s.call
