-- How a seat is kept.
use Rattle.client_seats.specs.SeatState.{KeptCall, KeptSeat}
use Rattle.client_seats.specs.Seats.{IsSeatOf}
use Rattle.client_seats.specs.declared.held.SeatCall.TheInside as held
use Rattle.client_seats.specs.declared.seat.ClientSeat.TheInside as seats

-- a call in hand, without the room of its list
abbrev pub call_shown : held.Inside → KeptCall
call_shown c = record { hand = c.hand; home = c.home; steps = c.steps; work = c.work; copies = c.copies.items }

-- a seat
abbrev pub seat_shown : seats.Inside → KeptSeat
seat_shown s = record {
  client = s.client;
  table = s.table;
  busy = s.busy;
  made = s.made;
  calls = s.calls;
  call = s.call;
  trail = s.trail;
  tickets = s.tickets;
}

-- its client's numbers last for all its calls, and its call in hand is one of its client's
abbrev pub IsSeated : seats.Inside → Type 0
IsSeated s = IsSeatOf (seat_shown s)
