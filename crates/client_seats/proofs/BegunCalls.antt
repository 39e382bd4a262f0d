-- What holds of the beginning of a call of a seat.
use Rattle.std.proofs.Common.{◌≡◌, ℕ, ◌+◌, ◌-◌, ◌<◌, ◌≤◌, List, Bool, true, false, Option, Some, None, refl, sym, ap, subst, ◌∙◌, arith}
use Rattle.std.specs.Prelude.{◌^◌, IfSome, is_some}
use Rattle.std.specs.Option.{option_and_then}
use Rattle.std.proofs.lemmas.List.Elements.{All-nil, All-replicate}
use Rattle.ckpt_types.specs.declared.answers.Outcome.{Outcome}
use Rattle.ckpt_types.specs.declared.answers.Outcome.TheVariants as outcomes
use Rattle.ckpt_types.specs.declared.identities.ActorName.TheVariants.{Client}
use Rattle.ckpt_types.specs.declared.identities.CallId.{CallId}
use Rattle.ckpt_types.specs.declared.operation.Op.{Op}
use Rattle.ckpt_types.specs.declared.operation.Op.TheVariants as ops
use Rattle.ckpt_types.specs.Asks.{Ask, asked, IsBuilt}
use Rattle.ckpt_types.specs.Asks as asks
use Rattle.ckpt_types.specs.Limits.{client_numbers, nodes_max}
use Rattle.ckpt_types.specs.OpWord.{is_async, word_of_op}
use Rattle.call_dispatch.specs.PendingCalls.{PendingCalls}
use Rattle.client_handles.specs.ClientState.{ClientState}
use Rattle.client_handles.specs.declared.handle_view.HandleView.{HandleView}
use Rattle.cluster_record.specs.RecordState.{RecordState}
use Rattle.cluster_record.specs.declared.calls.ActiveKind.{ActiveKind}
use Rattle.ckpt_machine.specs.Drivers.{Driver}
use Rattle.ckpt_machine.specs.Drivers as drivers
use Rattle.ckpt_machine.specs.Driving.{Kept, change_start, driver_start, making_in, on_kept}
use Rattle.ckpt_machine.specs.Due.{kept_at_beginning}
use Rattle.ckpt_machine.specs.Tables.{ended_at_once}
use Rattle.client_calls.specs.TableState.{TableState, begun_with, CanBegin}
use Rattle.shared_nodes.specs.Trails.{KeptTrail}
use Rattle.shared_nodes.specs.Works.{KeptWork}
use Rattle.snap_copy.specs.Snapshots.{Snapshot}
use Rattle.client_seats.specs.Begun.{call_next, copies_for, handle_of, IsTakenUp}
use Rattle.client_seats.specs.Racing.{MayRace}
use Rattle.client_seats.specs.SeatState.{KeptCall, KeptSeat}
use Rattle.client_seats.specs.Seats.{AreAlike, IsSeatOf, IsUnderWay, OpensBy}

-- ---- which operations race

-- no client asks for what goes on by itself there
not_async : (op : Op) → MayRace (asked op) → is_async (word_of_op op) ≡ false
not_async (ops.OpenAsync place invocation name flags a) may = absurd may
not_async (ops.SyncAsync place invocation) may = absurd may
not_async op may = refl

pub can_begin : (end : Option Outcome) (call : CallId) (op : Op) (t : TableState) → MayRace (asked op) → CanBegin end call op t
can_begin (Some (outcomes.Done answer)) call op t may = λ async. absurd (let both = sym (not_async op may) ∙ async in cc both)
can_begin end call op t may = tt

-- ---- what drives an open

opens_start : (call : CallId) (ask : Ask) (kept : Kept) (x : Driver) → driver_start call ask kept ≡ Some x → OpensBy ask x
opens_start call (asks.Open place name flags timeout a) kept (drivers.Open o) is = tt
opens_start call (asks.Open place name flags timeout a) kept x is = absurd (cc is)
opens_start call ask kept x is = tt

-- ---- what drives one

-- a call on a checkpoint, whose driver makes none
kept_makes_none : (ckpt : Option ℕ) (start : ℕ → Driver) → ((k : ℕ) → making_in (start k) ≡ None) → option_and_then making_in (on_kept ckpt start) ≡ None
kept_makes_none None start none = refl
kept_makes_none (Some k) start none = none k

change_makes_none : (call : CallId) (all : Bool) (kind : ActiveKind) (ckpt : Option ℕ) → option_and_then making_in (change_start call all kind ckpt) ≡ None
change_makes_none call true kind ckpt = kept_makes_none ckpt _ (λ k. refl)
change_makes_none call false kind ckpt = kept_makes_none ckpt _ (λ k. refl)

start_makes_none : (call : CallId) (ask : Ask) (kept : Kept) → option_and_then making_in (driver_start call ask kept) ≡ None
start_makes_none call (asks.Change place update) kept = change_makes_none call kept.all _ kept.ckpt
start_makes_none call (asks.Read place elements) kept = kept_makes_none kept.ckpt _ (λ k. refl)
start_makes_none call (asks.Status place) kept = kept_makes_none kept.ckpt _ (λ k. refl)
start_makes_none call (asks.Iterate iteration place chosen time) kept = kept_makes_none kept.ckpt _ (λ k. refl)
start_makes_none call (asks.Next iteration) kept = kept_makes_none kept.ckpt _ (λ k. refl)
start_makes_none call (asks.Close place) kept = kept_makes_none kept.ckpt _ (λ k. refl)
start_makes_none call (asks.Retain place duration) kept = kept_makes_none kept.ckpt _ (λ k. refl)
start_makes_none call (asks.Synchronize place timeout) kept = kept_makes_none kept.ckpt _ (λ k. refl)
start_makes_none call (asks.SetActive place) kept = kept_makes_none kept.ckpt _ (λ k. refl)
start_makes_none call ask kept = refl

-- no call is making a checkpoint at its beginning
makes_none : (call : CallId) (ask : Ask) (kept : Kept) (d : Driver) → driver_start call ask kept ≡ Some d → making_in d ≡ None
makes_none call ask kept d driven = ap (option_and_then making_in) (sym driven) ∙ start_makes_none call ask kept

-- ---- room for snapshots

copies_alike : (ask : Ask) (room : Option Snapshot) → AreAlike room (copies_for ask room)
copies_alike ask None = tt
copies_alike (asks.Synchronize place timeout) (Some s) = All-replicate (λ (room : Snapshot). room.attributes ≡ s.attributes) nodes_max s refl
copies_alike (asks.SetActive place) (Some s) = All-replicate (λ (room : Snapshot). room.attributes ≡ s.attributes) 1 s refl
copies_alike ask (Some s) = All-nil (λ (room : Snapshot). room.attributes ≡ s.attributes)

-- ---- the seat

-- what is answered at once gives no number of a handle or of an iteration
same_numbers : (end : Option Outcome) (ask : Ask) (p : PendingCalls) (t : ClientState) → MayRace ask → ((ended_at_once end ask p t).last_number ≡ t.last_number) × ((ended_at_once end ask p t).last_iteration ≡ t.last_iteration)
same_numbers (Some (outcomes.Done answer)) (asks.Dispatch flags) p t may = absurd may
same_numbers (Some (outcomes.Done answer)) (asks.EndIteration iteration) p t may = (refl, refl)
same_numbers end ask p t may = (refl, refl)

module _ (s : KeptSeat) (some : 0 < s.calls) (seat : IsSeatOf s) where
  -- the call in hand is under way
  pub under_way : (R : RecordState) (work : KeptWork) (c : KeptCall) → s.client < client_numbers → MayRace (asked work.op) → IsBuilt work.op → IsTakenUp R s work c → IsUnderWay s.client (s.calls - 1) (begun_with None (call_next s) work.op (handle_of s work.op) s.table) c
  under_way R work c client may built taken =
      let handles : s.table.client.last_number + s.calls ≤ 2 ^ 32 - 1 = seat.handles in
      let iterations : s.table.client.last_iteration + s.calls ≤ 2 ^ 32 - 1 = seat.iterations in
      let hand = taken.hand in
      record {
        named = client;
        actor = ap (λ (call : CallId). call.actor) hand.call_is;
        built = subst (λ (op : Op). IsBuilt op) (sym hand.op_is) built;
        may = subst (λ (op : Op). MayRace (asked op)) (sym hand.op_is) may;
        work = ap (λ (w : KeptWork). w.op) taken.work_is ∙ sym hand.op_is;
        steps = subst (λ (n : ℕ). n < 512) (sym taken.steps) (omega arith);
        alike = subst (λ (copies : List Snapshot). AreAlike c.hand.snapshot copies) (sym taken.copies) (copies_alike (asked work.op) c.hand.snapshot);
        handles = omega (arith, handles, some);
        iterations = omega (arith, iterations, some);
        opens = subst (λ (op : Op). OpensBy (asked op) c.hand.driver) (sym hand.op_is) (opens_start (call_next s) (asked work.op) (kept_at_beginning R (Client s.client) (handle_of s work.op)) c.hand.driver hand.driven);
        room = λ making. absurd (let both : false ≡ true = sym (ap is_some (makes_none (call_next s) (asked work.op) (kept_at_beginning R (Client s.client) (handle_of s work.op)) c.hand.driver hand.driven)) ∙ making in cc both);
      }

  -- and the seat's numbers last for the calls that are left
  pub seat_behind : (end : Option Outcome) (call : CallId) (op : Op) (h : Option HandleView) (trail : KeptTrail) (o : Option KeptCall) → MayRace (asked op) → IfSome o (IsUnderWay s.client (s.calls - 1) (begun_with end call op h s.table))
      → IsSeatOf (record s { table = begun_with end call op h s.table; calls = s.calls - 1; call = o; trail = trail })
  seat_behind end call op h trail o may under =
      let same = same_numbers end (asked op) s.table.pending s.table.client may in
      let a : (ended_at_once end (asked op) s.table.pending s.table.client).last_number ≡ s.table.client.last_number = same.0 in
      let b : (ended_at_once end (asked op) s.table.pending s.table.client).last_iteration ≡ s.table.client.last_iteration = same.1 in
      let numbers : s.table.next + s.calls ≤ 2 ^ 32 - 1 = seat.numbers in
      let handles : s.table.client.last_number + s.calls ≤ 2 ^ 32 - 1 = seat.handles in
      let iterations : s.table.client.last_iteration + s.calls ≤ 2 ^ 32 - 1 = seat.iterations in
      record {
        roomy = seat.roomy;
        numbers = omega (arith, numbers, some);
        handles = omega (arith, a, handles, some);
        iterations = omega (arith, b, iterations, some);
        call = under;
      }

  -- a call that was taken up is in hand, and the seat is one still
  pub held_seat : (R : RecordState) (call : CallId) (work : KeptWork) (op : Op) (h : Option HandleView) (c : KeptCall) → s.client < client_numbers → MayRace (asked work.op) → IsBuilt work.op → call ≡ call_next s → op ≡ work.op → h ≡ handle_of s work.op → IsTakenUp R s work c
      → IsSeatOf (record s { table = begun_with None call op h s.table; calls = s.calls - 1; call = Some c })
  held_seat R call work op h c client may built next told handle taken =
      seat_behind None call op h s.trail (Some c) (subst (λ (op : Op). MayRace (asked op)) (sym told) may)
      (subst (λ (z : CallId × Op × Option HandleView). IsUnderWay s.client (s.calls - 1) (begun_with None z.0 z.1 z.2 s.table) c) (λ i. (sym next i, sym told i, sym handle i)) (under_way R work c client may built taken))
