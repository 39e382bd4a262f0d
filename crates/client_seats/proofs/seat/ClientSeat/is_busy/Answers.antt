use Rattle.std.proofs.Common.{rules}
use Rattle.client_seats.proofs.seat.ClientSeat.is_busy.Goals as goal

pub returns-in-None : goal.returns-in-None
returns-in-None c = search rules
