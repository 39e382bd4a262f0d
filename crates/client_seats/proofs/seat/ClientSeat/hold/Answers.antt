use Rattle.std.proofs.Common.{◌≡◌, ◌-◌, ◌<◌, refl, sym, subst}
use Rattle.std.specs.Prelude.{Option}
use Rattle.ckpt_types.specs.declared.identities.ActorName.TheVariants.{Client}
use Rattle.ckpt_types.specs.Limits.{client_numbers}
use Rattle.ckpt_machine.specs.Due.{kept_at_beginning}
use Rattle.client_calls.specs.HandBegun.{IsHandBegun}
use Rattle.client_calls.specs.TableState.{TableState}
use Rattle.client_seats.specs.Begun.{call_next, handle_of, IsTakenUp}
use Rattle.client_seats.specs.SeatState.{KeptCall, KeptSeat}
use Rattle.client_seats.specs.SeatView.{seat_shown}
use Rattle.client_seats.specs.Seats.{IsSeatOf}
use Rattle.client_seats.proofs.BegunCalls.{held_seat}
use Rattle.client_seats.proofs.seat.ClientSeat.hold.Goals as goal

pub invariant_of-self : goal.invariant_of-self
invariant_of-self c =
    let s : KeptSeat = seat_shown c.self.inside in
    let R = c.args.seen.now in
    let work = c.args.work in
    let call : KeptCall = record { hand = c.args.taken.hand; home = c.home_of-home.result; steps = 0; work = work; copies = c.args.taken.copies.items } in
    let (some, client, next, handle, hand)
    = subst (λ (s : KeptSeat). (0 < s.calls) × (s.client < client_numbers) × (c.args.call ≡ call_next s) × (c.args.handle.now ≡ handle_of s work.op) × IsHandBegun (call_next s) work.op (kept_at_beginning R (Client s.client) (handle_of s work.op)) call.hand) (sym c.self.view_is) (c.requires.call, c.requires.client, c.requires.next, c.requires.handle, c.requires.hand) in
    let taken : IsTakenUp R s work call = record { hand = hand; home = c.home_of-home.ensures.node; steps = refl; work_is = refl; copies = c.requires.copies } in
    subst (λ (z : TableState × Option KeptCall). IsSeatOf (record s { table = z.0; calls = s.calls - 1; call = z.1 })) (λ i. (sym c.begin.ensures i, sym c.take_place.ensures i))
    (held_seat s some c.self.invariant R c.args.call work c.args.taken.op c.args.handle.now call client c.requires.may c.requires.built next c.requires.told handle taken)
