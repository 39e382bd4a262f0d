-- What a step of the record asks of a seat, and what it makes of it.
use Rattle.std.proofs.Common.{◌≡◌, ◌≢◌, ℕ, ◌+◌, ◌-◌, ◌<◌, ◌≤◌, ◌^◌, Bool, true, false, cond, refl, sym, ap, subst, ◌∙◌, arith}
use Rattle.std.specs.Prelude.{Option, Some, None, IsSome, IfSome, if◌then◌else◌, ◌==◌}
use Rattle.std.proofs.lemmas.Bool.{eq-eqb}
use Rattle.ckpt_types.specs.declared.answers.Outcome.TheVariants.{Astray, Done}
use Rattle.client_calls.specs.Taking.{hand_outcome}
use Rattle.cluster_record.specs.Ends.{named_told, open_told_by}
use Rattle.ckpt_types.specs.declared.answers.Outcome.{Outcome}
use Rattle.ckpt_types.specs.declared.operation.Op.{Op}
use Rattle.ckpt_types.specs.Asks.{Ask, asked}
use Rattle.ckpt_types.specs.Asks as asks
use Rattle.client_calls.specs.TableSettling.{table_settled, MayGive}
use Rattle.client_calls.specs.TableState.{TableState}
use Rattle.client_handles.specs.ClientState.{ClientState, has_handle_room}
use Rattle.cluster_record.specs.DueOpen.{OpenState, making_ckpt, open_next}
use Rattle.cluster_record.specs.LookUps.{creation_flags_of}
use Rattle.cluster_record.specs.Makings.{makings_of}
use Rattle.cluster_record.specs.Opening.{open_answer}
use Rattle.cluster_record.specs.RecordState.{RecordState, entry_of, is_up}
use Rattle.cluster_record.specs.declared.calls.Making.{Making}
use Rattle.ckpt_machine.specs.Drivers.{Driver}
use Rattle.ckpt_machine.specs.Drivers as drivers
use Rattle.ckpt_machine.specs.Driving.{driver_next, event_refusal, making_in, open_refusal, refusal_in}
use Rattle.ckpt_machine.specs.Taking.{driver_told}
use Rattle.ckpt_machine.specs.Tables.{closing, handle_given, registering, rooms_in, tables_given}
use Rattle.node_msgs.specs.declared.next.Next.{Next}
use Rattle.node_msgs.specs.declared.next.Next.TheVariants.{Serve, Event, End}
use Rattle.node_msgs.specs.declared.next.RecordStep.{RecordStep}
use Rattle.node_msgs.specs.declared.next.RecordStep.TheVariants as events
use Rattle.node_msgs.specs.declared.replies.Reply.{Reply}
use Rattle.node_msgs.specs.declared.replies.Reply.TheVariants as replies
use Rattle.client_seats.specs.Dues.{due_by, due_in, due_of, next_of}
use Rattle.cluster_record.specs.Calls.{left}
use Rattle.client_seats.specs.Ending.{end_at}
use Rattle.client_seats.specs.Looked.{table_ended_by}
use Rattle.client_seats.specs.SeatState.{KeptCall, KeptSeat}
use Rattle.client_seats.specs.Seats.{IsSeatOf, IsUnderWay, OpensBy}
use Rattle.client_seats.specs.Told.{call_told, driver_by, event_outcome, table_told, table_without, IsDueEvent, IsDueFor, IsGranted, MayGiveBy, MayGiveFor, MayGiveIn}
use Rattle.client_seats.specs.declared.due.Due.TheVariants as dues
use Rattle.client_seats.proofs.OpenGiving.{HasRoomAt, open_has_room, has_room-has_place}

-- ---- what is due

event_of : (next : Next) (step : RecordStep) → due_by next ≡ dues.Event step → next ≡ Event step
event_of (Event other) step due = let same : other ≡ step = cc due in ap Event same
event_of (Serve r request) step due = absurd (cc due)
event_of (End o) step due = absurd (cc due)

event_if_up : (up : Bool) (next : Next) (step : RecordStep) → cond up (due_by next) dues.Gone ≡ dues.Event step → next ≡ Event step
event_if_up true next step due = event_of next step due
event_if_up false next step due = absurd (cc due)

-- the step that is due is the call's next one
pub event_due : (R : RecordState) (s : KeptSeat) (c : KeptCall) (step : RecordStep) → due_in R s ≡ dues.Event step → s.call ≡ Some c → next_of R s c ≡ Event step
event_due R s c step due held = event_if_up (is_up c.home R) (next_of R s c) step (subst (λ (o : Option KeptCall). due_of R s o ≡ dues.Event step) held due)

-- ---- room for a handle

-- the room that the next step of an open has
open_room_at : (R : RecordState) (s : KeptSeat) (c : KeptCall) (o : OpenState) (step : RecordStep) → next_of R s c ≡ Event step → c.hand.driver ≡ drivers.Open o
    → HasRoomAt o.making (rooms_in (makings_of s.client R.entries) s.table.client).handles (refusal_in (open_answer R o.ask)) (Event step)
open_room_at R s c o step next is =
    let rooms = rooms_in (makings_of s.client R.entries) s.table.client in
    let at : open_next R rooms.handles o ≡ Event step = sym (ap (driver_next R rooms) is) ∙ next in
    subst (HasRoomAt o.making rooms.handles (refusal_in (open_answer R o.ask))) at (open_has_room R rooms.handles o)

gives : (s : KeptSeat) (c : KeptCall) → IsSeatOf s → IsUnderWay s.client s.calls s.table c → has_handle_room s.table.client ≡ true → MayGive c.hand.op s.table
gives s c seat under room = record { built = under.built; roomy = seat.roomy; room = room; number = (let few = under.handles in omega (arith, few)) }

-- an open may get its handle, where it has room
for_ask : (op : Op) (t : TableState) (ask : Ask) (x : Driver) → OpensBy ask x → ((o : OpenState) → x ≡ drivers.Open o → MayGive op t) → MayGiveFor op ask t
for_ask op t (asks.Open place name flags timeout a) (drivers.Open o) opens give = give o refl
for_ask op t (asks.Open place name flags timeout a) x opens give = absurd opens
for_ask op t ask x opens give = tt

pub may_give : (s : KeptSeat) (c : KeptCall) (step : RecordStep) (reply : Option Reply) → IsSeatOf s → IsUnderWay s.client s.calls s.table c → s.call ≡ Some c → IsDueEvent s c step reply → MayGiveBy c.hand.op step reply s.table
may_give s c events.Open (Some (replies.Done answer)) seat under held due =
    for_ask c.hand.op s.table (asked c.hand.op) c.hand.driver under.opens (λ o is.
    let granted : refusal_in (open_answer due.before o.ask) ≡ None = sym (ap (open_refusal due.before) is) ∙ due.granted in
    gives s c seat under (has_room-has_place _ s.table.client (open_room_at due.before s c o events.Open (event_due due.before s c events.Open due.due held) is granted)))
may_give s c events.Finish (Some (replies.Done answer)) seat under held due =
    for_ask c.hand.op s.table (asked c.hand.op) c.hand.driver under.opens (λ o is.
    gives s c seat under (under.room (subst (λ (x : Driver). IsSome (making_in x)) (sym is) (open_room_at due.before s c o events.Finish (event_due due.before s c events.Finish due.due held) is))))
may_give s c step (Some (replies.Done answer)) seat under held due = tt
may_give s c step reply seat under held due = tt

-- ---- what becomes of the client's table

-- the room and the next call stay, at most one number of a handle is given, and none of an iteration
pub record KeepsNumbers (t u : TableState) : Type 0 where
  pub roomy : u.roomy ≡ t.roomy
  pub next : u.next ≡ t.next
  pub handles : u.client.last_number ≤ t.client.last_number + 1
  pub iterations : u.client.last_iteration ≡ t.client.last_iteration

keeps_same : (t : TableState) → KeepsNumbers t t
keeps_same t = record { roomy = refl; next = refl; handles = omega arith; iterations = refl }

-- the same of handles and iterations alone
record KeepsClient (t u : ClientState) : Type 0 where
  handles : u.last_number ≤ t.last_number + 1
  iterations : u.last_iteration ≡ t.last_iteration

client_same : (t : ClientState) → KeepsClient t t
client_same t = record { handles = omega arith; iterations = refl }

closing_keeps : (ask : Ask) (t : ClientState) → KeepsClient t (closing ask t)
closing_keeps (asks.Close place) t = record { handles = omega arith; iterations = refl }
closing_keeps ask t = client_same t

closing_same : (ask : Ask) (t : ClientState) → (closing ask t).last_number ≡ t.last_number
closing_same (asks.Close place) t = refl
closing_same ask t = refl

registering_keeps : (ask : Ask) (t : ClientState) → KeepsClient t (registering ask t)
registering_keeps (asks.Enter r version callbacks) t = record { handles = omega arith; iterations = refl }
registering_keeps ask t = client_same t

given_keeps : (ask : Ask) (k flags : ℕ) (t : ClientState) → KeepsClient t (handle_given ask k flags t)
given_keeps (asks.Open place name flags (Some timeout) a) k creation_flags t = record { handles = omega arith; iterations = refl }
given_keeps (asks.Open place name flags None a) k creation_flags t = record { handles = omega arith; iterations = refl }
given_keeps ask k creation_flags t = client_same t

tables_given_keep : (R : RecordState) (ask : Ask) (k : Option ℕ) (t : ClientState) → KeepsClient t (tables_given R ask k t)
tables_given_keep R ask None t = client_same t
tables_given_keep R ask (Some k) t = given_keeps ask k (creation_flags_of (entry_of k R.entries)) t

settled_keeps : (R : RecordState) (op : Op) (step : RecordStep) (ckpt : Option ℕ) (t : TableState) → KeepsNumbers t (table_settled R op step ckpt (table_without step op t))
settled_keeps R op events.Enter ckpt t = let k = registering_keeps (asked op) t.client in record { roomy = refl; next = refl; handles = k.handles; iterations = k.iterations }
settled_keeps R op events.Open ckpt t = let k = tables_given_keep R (asked op) ckpt t.client in record { roomy = refl; next = refl; handles = k.handles; iterations = k.iterations }
settled_keeps R op events.Finish ckpt t = let k = tables_given_keep R (asked op) ckpt t.client in record { roomy = refl; next = refl; handles = k.handles; iterations = k.iterations }
settled_keeps R op events.Close ckpt t = let k = closing_keeps (asked op) t.client in record { roomy = refl; next = refl; handles = k.handles; iterations = k.iterations }
settled_keeps R op events.Leave ckpt t = record { roomy = refl; next = refl; handles = omega arith; iterations = refl }
settled_keeps R op step ckpt t = record { roomy = refl; next = refl; handles = omega arith; iterations = refl }

told_keeps : (R : RecordState) (op : Op) (step : RecordStep) (ckpt : Option ℕ) (reply : Option Reply) (end : Outcome) (t : TableState) → KeepsNumbers t (table_told R op step ckpt reply (Some end) t)
told_keeps R op step ckpt (Some (replies.Done answer)) end t = settled_keeps R op step ckpt t
told_keeps R op step ckpt reply end t = keeps_same t

told_on : (R : RecordState) (op : Op) (step : RecordStep) (ckpt : Option ℕ) (reply : Option Reply) (t : TableState) → table_told R op step ckpt reply None t ≡ t
told_on R op step ckpt (Some (replies.Done answer)) t = refl
told_on R op step ckpt reply t = refl

-- ---- what becomes of the seat

-- a seat whose call has ended
pub ended_seat : (s : KeptSeat) (c : KeptCall) (t : TableState) → IsSeatOf s → IsUnderWay s.client s.calls s.table c → KeepsNumbers s.table t → IsSeatOf (record s { table = t; call = None })
ended_seat s c t seat under keeps =
    let next = keeps.next in
    let handles = keeps.handles in
    let iterations = keeps.iterations in
    let numbers = seat.numbers in
    let few_handles = under.handles in
    let few_iterations = under.iterations in
    record {
      roomy = keeps.roomy ∙ seat.roomy;
      numbers = omega (arith, next, numbers);
      handles = omega (arith, handles, few_handles);
      iterations = omega (arith, iterations, few_iterations);
      call = tt;
    }

-- an open that is making nothing has room where a step of it is done
none_room : (R : RecordState) (o : OpenState) (room : Bool) (step : RecordStep) → o.making ≡ None → HasRoomAt o.making room (refusal_in (open_answer R o.ask)) (Event step) → event_refusal R step (drivers.Open o) ≡ None → room ≡ true
none_room R o room events.Open none at granted = at granted
none_room R o room events.Create none at granted = at
none_room R o room step none at granted = absurd (let some = subst (λ (m : Option Making). IsSome (making_ckpt m)) none at in cc some)

-- what it is making behind an answer was made by a step that is done
none_told : (s : KeptSeat) (c : KeptCall) (R : RecordState) (step : RecordStep) (reply : Reply) (o : OpenState) → s.call ≡ Some c → IsDueEvent s c step (Some reply) → c.hand.driver ≡ drivers.Open o → o.making ≡ None
    → IsSome (making_ckpt (named_told R reply o).making) → has_handle_room s.table.client ≡ true
none_told s c R step (replies.Done answer) o held due is none making =
    let rooms = rooms_in (makings_of s.client due.before.entries) s.table.client in
    let granted : event_refusal due.before step (drivers.Open o) ≡ None = sym (ap (event_refusal due.before step) is) ∙ due.granted in
    has_room-has_place _ s.table.client (none_room due.before o rooms.handles step none (open_room_at due.before s c o step (event_due due.before s c step due.due held) is) granted)
none_told s c R step reply o held due is none making = absurd (let some = subst (λ (m : Option Making). IsSome (making_ckpt m)) none making in cc some)

-- an open that is making a checkpoint behind an answer has room for its handle
making_room : (s : KeptSeat) (c : KeptCall) (R : RecordState) (step : RecordStep) (reply : Reply) (x : Driver) → IsUnderWay s.client s.calls s.table c → s.call ≡ Some c → IsDueEvent s c step (Some reply) → c.hand.driver ≡ x
    → IsSome (making_in (driver_told R reply x)) → has_handle_room s.table.client ≡ true
making_room s c R step reply (drivers.Open o) under held due is making = by_making o.making refl
  where
    by_making : (m : Option Making) → o.making ≡ m → has_handle_room s.table.client ≡ true
    by_making (Some m) made = under.room (subst (λ (x : Driver). IsSome (making_in x)) (sym is) (subst (λ (m : Option Making). IsSome (making_ckpt m)) (sym made) refl))
    by_making None none = none_told s c R step reply o held due is none (subst (λ (m : Option Making). IsSome (making_ckpt (open_told_by R reply o m).making)) none making)
making_room s c R step reply x under held due is making = absurd (cc making)

opens_told : (R : RecordState) (reply : Reply) (ask : Ask) (x : Driver) → OpensBy ask x → OpensBy ask (driver_told R reply x)
opens_told R reply (asks.Open place name flags timeout a) (drivers.Open o) opens = tt
opens_told R reply (asks.Open place name flags timeout a) x opens = absurd opens
opens_told R reply ask x opens = tt

-- a call that goes on has a step left
pub goes_on : (n : ℕ) (o : Option Outcome) → end_at n o ≡ None → n ≢ 512
goes_on n (Some end) e = absurd (cc e)
goes_on n None e = λ same. (let last : end_at n None ≡ Some Astray = ap (λ b. if b then Some Astray else None) (eq-eqb n 512 same) in let no : Some Astray ≡ None = sym last ∙ e in absurd (cc no))

under_told : (R : RecordState) (s : KeptSeat) (c : KeptCall) (step : RecordStep) (reply : Reply) → IsUnderWay s.client s.calls s.table c → s.call ≡ Some c → IsDueEvent s c step (Some reply) → c.steps + 1 ≢ 512
    → IsUnderWay s.client s.calls s.table (call_told R (Some reply) c)
under_told R s c step reply under held due left = record {
  named = under.named;
  actor = under.actor;
  built = under.built;
  may = under.may;
  work = under.work;
  steps = (let few = under.steps in omega (arith, few, left));
  alike = under.alike;
  handles = under.handles;
  iterations = under.iterations;
  opens = opens_told R reply (asked c.hand.op) c.hand.driver under.opens;
  room = making_room s c R step reply c.hand.driver under held due refl;
}

-- WHAT A STEP OF THE RECORD LEAVES is a seat again
pub told_seat : (R : RecordState) (s : KeptSeat) (c : KeptCall) (step : RecordStep) (ckpt : Option ℕ) (reply : Option Reply) (end : Option Outcome) → IsSeatOf s → IsUnderWay s.client s.calls s.table c → s.call ≡ Some c → IsDueEvent s c step reply
    → end ≡ event_outcome R reply c → IsSeatOf (record s { table = table_told R c.hand.op step ckpt reply end s.table; call = left end (call_told R reply c) })
told_seat R s c step ckpt reply (Some end) seat under held due is = ended_seat s c (table_told R c.hand.op step ckpt reply (Some end) s.table) seat under (told_keeps R c.hand.op step ckpt reply end s.table)
told_seat R s c step ckpt None None seat under held due is = absurd (cc is)
told_seat R s c step ckpt (Some reply) None seat under held due is =
    let left = goes_on (c.steps + 1) (hand_outcome R reply c.hand) (sym is) in
    subst (λ (t : TableState). IsSeatOf (record s { table = t; call = Some (call_told R (Some reply) c) })) (sym (told_on R c.hand.op step ckpt (Some reply) s.table)) (record {
      roomy = seat.roomy;
      numbers = seat.numbers;
      handles = seat.handles;
      iterations = seat.iterations;
      call = under_told R s c step reply under held due left;
    })

-- what a look leaves is a seat again
pub looked_seat : (s : KeptSeat) (end : Outcome) (op : Op) → IsSeatOf s → IsSeatOf (record s { table = table_ended_by end op s.table; call = None })
looked_seat s (Done answer) op seat =
    let keeps = closing_keeps (asked op) s.table.client in
    let same : (closing (asked op) s.table.client).last_number ≡ s.table.client.last_number = closing_same (asked op) s.table.client in
    let iterations = keeps.iterations in
    let few_handles = seat.handles in
    let few_iterations = seat.iterations in
    record { roomy = seat.roomy; numbers = seat.numbers; handles = omega (arith, same, few_handles); iterations = omega (arith, iterations, few_iterations); call = tt }
looked_seat s end op seat = record { roomy = seat.roomy; numbers = seat.numbers; handles = seat.handles; iterations = seat.iterations; call = tt }
