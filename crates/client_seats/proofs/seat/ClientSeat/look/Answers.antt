use Rattle.std.proofs.Common.{◌≡◌, sym, ap, subst, ◌∙◌}
use Rattle.std.specs.Prelude.{Option, Some, None, IfSome}
use Rattle.client_calls.specs.TableState.{TableState}
use Rattle.client_seats.specs.SeatState.{KeptCall}
use Rattle.client_seats.specs.SeatView.{seat_shown}
use Rattle.client_seats.specs.Seats.{IsSeatOf, IsUnderWay}
use Rattle.client_seats.proofs.TellLaws.{looked_seat}
use Rattle.client_seats.proofs.seat.ClientSeat.look.Goals as goal

pub invariant_of-self-2 : goal.invariant_of-self-2
invariant_of-self-2 c =
    let s = seat_shown c.self.inside in
    subst (λ (k : Option KeptCall). IsSeatOf (record s { table = c.end_table.new.table; call = k })) (sym c.clear.ensures)
    (subst (λ (t : TableState). IsSeatOf (record s { table = t; call = None })) (sym c.end_table.ensures) (looked_seat s _ _ c.self.invariant))
