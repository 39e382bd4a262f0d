use Rattle.std.proofs.Common.{◌-◌, ◌<◌, sym, subst}
use Rattle.std.specs.Prelude.{Option, None, Some}
use Rattle.ckpt_types.specs.declared.operation.Op.{Op}
use Rattle.ckpt_types.specs.Asks.{asked}
use Rattle.client_calls.specs.TableState.{TableState}
use Rattle.client_seats.specs.Racing.{MayRace}
use Rattle.client_seats.specs.SeatState.{KeptCall, KeptSeat}
use Rattle.client_seats.specs.SeatView.{seat_shown}
use Rattle.client_seats.specs.Seats.{IsSeatOf}
use Rattle.client_seats.proofs.BegunCalls.{can_begin, seat_behind}
use Rattle.client_seats.proofs.seat.ClientSeat.begin_ended.Goals as goal

pub begin-requires-clause-can : goal.begin-requires-clause-can
begin-requires-clause-can c = can_begin (Some c.args.end) c.args.call c.into_op-op.result c.self.inside.table (subst (λ (op : Op). MayRace (asked op)) (sym c.into_op-op.ensures) c.requires.may)

pub invariant_of-self : goal.invariant_of-self
invariant_of-self c =
    let s : KeptSeat = seat_shown c.self.inside in
    let op = c.into_op-op.result in
    let may = subst (λ (op : Op). MayRace (asked op)) (sym c.into_op-op.ensures) c.requires.may in
    let some = subst (λ (s : KeptSeat). 0 < s.calls) (sym c.self.view_is) c.requires.call in
    subst (λ (z : TableState × Option KeptCall). IsSeatOf (record s { table = z.0; calls = s.calls - 1; call = z.1 })) (λ i. (sym c.begin.ensures i, sym c.clear.ensures i))
    (seat_behind s some c.self.invariant (Some c.args.end) c.args.call op c.args.handle.now s.trail None may tt)
