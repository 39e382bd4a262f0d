use Rattle.std.proofs.Common.{rules}
use Rattle.client_seats.proofs.seat.ClientSeat.call_next.Goals as goal

pub returns : goal.returns
returns c = search rules
