-- Where a call opens, or starts an iteration, there is room for it.
use Rattle.std.proofs.Common.{◌≡◌, ℕ, ℤ, Bool, true, false, cond, refl, subst}
use Rattle.std.specs.Prelude.{◌&&◌, ◌==◌, Option, Some, None, not, nat_le, length}
use Rattle.ckpt_types.specs.declared.answers.Outcome.{Outcome}
use Rattle.ckpt_types.specs.declared.attributes.CreationAttributes.{CreationAttributes}
use Rattle.ckpt_types.specs.declared.identities.CallId.{CallId}
use Rattle.ckpt_types.specs.declared.sections.Choice.{Choice}
use Rattle.node_msgs.specs.declared.next.Next.{Next}
use Rattle.node_msgs.specs.declared.next.Next.TheVariants.{Event, End, Serve}
use Rattle.node_msgs.specs.declared.next.RecordStep.TheVariants as events
use Rattle.node_msgs.specs.declared.requests.Request.TheVariants as requests
use Rattle.cluster_record.specs.declared.calls.ActiveKind.{ActiveKind}
use Rattle.cluster_record.specs.declared.calls.ActiveKind.TheVariants as kinds
use Rattle.cluster_record.specs.declared.calls.Making.{Making}
use Rattle.cluster_record.specs.declared.entries.Entry.{Entry}
use Rattle.cluster_record.specs.DueActive.{ActiveState, unless_changed, unless_on_hold, is_update, on_active, active_on, weak_request, request_by, starts_iteration}
use Rattle.cluster_record.specs.declared.calls.MarksMade.{MarksMade}
use Rattle.cluster_record.specs.DueOpen.{OpenState, accepts, create_next, entry_by, entry_next, on_named, reserve_or_finish, targets_of, on_making, by_making, open_next}
use Rattle.cluster_record.specs.Opening.{answer_by, answer_named, open_answer}
use Rattle.cluster_record.specs.RecordState.{RecordState, entry_of, named, home_of}
use Rattle.cluster_record.specs.StepDone.{first_lacking}
use Rattle.ckpt_machine.specs.Drivers.{Driver, Rooms}
use Rattle.ckpt_machine.specs.Drivers as drivers
use Rattle.ckpt_machine.specs.Driving.{driver_next, refusal_in}
use Rattle.ckpt_machine.proofs.Deadlines.{in_time-either}
use Rattle.ckpt_machine.proofs.NextOf.{OfAsked, OfCopying, next_of}
use Rattle.ckpt_machine.proofs.OptionLemmas.{IfSome-from}

-- ---- where an open gives a handle

-- an opening that is next, and that the record does not refuse, has room
abbrev HasRoomFor : Option Outcome → Bool → Next → Type 0
HasRoomFor refusal room (Event events.Open) = refusal ≡ None → room ≡ true
HasRoomFor refusal room next = Unit {0}

room_create : (refusal : Option Outcome) (room a b : Bool) (x y : Outcome) → HasRoomFor refusal room (cond a (End x) (cond b (End y) (Event events.Create)))
room_create refusal room true b x y = tt
room_create refusal room false true x y = tt
room_create refusal room false false x y = tt

room_open : (refusal : Option Outcome) (b room : Bool) (x y : Outcome) → HasRoomFor refusal room (cond b (End x) (cond (not room) (End y) (Event events.Open)))
room_open refusal true room x y = tt
room_open refusal false true x y = λ granted. refl
room_open refusal false false x y = tt

-- what is in the making is refused
room_entry : (room : Bool) (a : Option CreationAttributes) (opener : ℕ) (e : Entry) (making : Option CallId) → HasRoomFor (refusal_in (answer_by making a opener e)) room (entry_by making room a e)
room_entry room a opener e (Some call) = λ granted. absurd (cc granted)
room_entry room a opener e None = room_open (refusal_in (answer_by None a opener e)) (not (accepts a e)) room _ _

room_named : (R : RecordState) (room : Bool) (deadline : Option ℤ) (a : Option CreationAttributes) (opener : ℕ) (e : Option Entry) → HasRoomFor (refusal_in (answer_named R a opener e)) room (on_named R room deadline a e)
room_named R room deadline None opener None = tt
room_named R room deadline (Some a) opener None =
    let refusal = refusal_in (answer_named R (Some a) opener None) in
    in_time-either (HasRoomFor refusal room) deadline R.moment (create_next R room) (λ o. tt) (room_create refusal room (not room) (nat_le 16 (length R.entries)) _ _)
room_named R room deadline a opener (Some e) = in_time-either (HasRoomFor (refusal_in (answer_named R a opener (Some e))) room) deadline R.moment (entry_next room a e) (λ o. tt) (room_entry room a opener e e.making)

room_making : (R : RecordState) (room : Bool) (o : OpenState) (m : Option Making) → HasRoomFor (refusal_in (open_answer R o.ask)) room (by_making R room o m)
room_making R room o None = room_named R room o.deadline o.ask.attrs (home_of o.ask.client R) (named o.ask.name R.entries)
room_making R room o (Some m) = in_time-either (HasRoomFor (refusal_in (open_answer R o.ask)) room) o.deadline R.moment (on_making R o.ask m) (λ o. tt) (by_test m.refused (first_lacking 0 (targets_of o.ask R) m.reserved)) where
  by_test : (b : Bool) (r : Option ℕ) → HasRoomFor (refusal_in (open_answer R o.ask)) room (cond b (Event events.Undo) (reserve_or_finish m.ckpt r))
  by_test true r = tt
  by_test false None = tt
  by_test false (Some r) = tt

pub open_room : (R : RecordState) (room : Bool) (o : OpenState) → open_next R room o ≡ Event events.Open → refusal_in (open_answer R o.ask) ≡ None → room ≡ true
open_room R room o next = subst (HasRoomFor (refusal_in (open_answer R o.ask)) room) next (room_making R room o o.making)

-- ---- where a call starts an iteration, there is room for it

-- the active is asked to start one only where there is
abbrev HasPlaceFor : Bool → Next → Type 0
HasPlaceFor room (Serve r (requests.Iterate call k choice)) = room ≡ true
HasPlaceFor room next = Unit {0}

-- unless its marks are gone, in which case it ends
place_marks : (room : Bool) (marks : Option MarksMade) (generation : ℕ) (next : Next) → HasPlaceFor room next → HasPlaceFor room (unless_changed marks generation next)
place_marks room None generation next has = has
place_marks room (Some marks) generation next has = by_generation (marks.generation == generation) _ where
  by_generation : (b : Bool) (o : Outcome) → HasPlaceFor room (cond b next (End o))
  by_generation true o = has
  by_generation false o = tt

place_weak : (room : Bool) (call : CallId) (k r : ℕ) (marks : Option MarksMade) → HasPlaceFor room (Serve r (weak_request call k marks))
place_weak room call k r None = tt
place_weak room call k r (Some marks) = by_left (marks.left == 0) where
  by_left : (b : Bool) → HasPlaceFor room (Serve r (cond b (requests.Unmark call k) (requests.Element call k)))
  by_left true = tt
  by_left false = tt

-- behind a hold, where it is no update
place_hold : (room : Bool) (kind : ActiveKind) (hold : Option CallId) (next : Next) → HasPlaceFor room next → HasPlaceFor room (unless_on_hold kind hold next)
place_hold room kind None next place = place
place_hold room kind (Some holder) next place = by_update (is_update kind) _ where
  by_update : (b : Bool) (x : Outcome) → HasPlaceFor room (cond b (End x) next)
  by_update true x = tt
  by_update false x = place

place_kind : (room : Bool) (call : CallId) (k : ℕ) (kind : ActiveKind) (hold : Option CallId) (marks : Option MarksMade) (generation : ℕ) (x : Outcome) (r : ℕ) →
    HasPlaceFor room (cond (starts_iteration kind && not room) (End x) (unless_on_hold kind hold (unless_changed marks generation (Serve r (request_by call k kind marks)))))
place_kind true call k (kinds.Iterate choice) hold marks generation x r = place_hold true (kinds.Iterate choice) hold _ (place_marks true marks generation (Serve r (requests.Iterate call k choice)) refl)
place_kind false call k (kinds.Iterate choice) hold marks generation x r = tt
place_kind room call k (kinds.Weak n) hold marks generation x r = place_hold room (kinds.Weak n) hold _ (place_marks room marks generation (Serve r (weak_request call k marks)) (place_weak room call k r marks))
place_kind room call k kind hold marks generation x r = place_hold room kind hold _ (place_marks room marks generation (Serve r (request_by call k kind marks)) tt)

place_active : (room : Bool) (a : ActiveState) (e : Option Entry) → HasPlaceFor room (active_on room a e)
place_active room a None = tt
place_active room a (Some e) = at e.generation e.hold e.active where
  at : (generation : ℕ) (hold : Option CallId) (r : Option ℕ) → HasPlaceFor room (on_active room a generation hold r)
  at generation hold None = tt
  at generation hold (Some r) = place_kind room a.call a.ckpt a.kind hold a.marks generation _ r

open_place_of : (R : RecordState) (room : Rooms) (x : Driver) → OfAsked (HasPlaceFor room.iterations) x → HasPlaceFor room.iterations (driver_next R room x)
open_place_of R room x asks = next_of (HasPlaceFor room.iterations) (λ o. tt) (λ step none. tt) (λ r k. tt) R room x asks

place_next : (R : RecordState) (room : Rooms) (x : Driver) → HasPlaceFor room.iterations (driver_next R room x)
place_next R room (drivers.Once x) = open_place_of R room (drivers.Once x) tt
place_next R room (drivers.Open o) = open_place_of R room (drivers.Open o) tt
place_next R room (drivers.Update u) = open_place_of R room (drivers.Update u) (λ r t. tt, λ r. tt, λ r. tt, λ r. tt)
place_next R room (drivers.Active a) = place_active room.iterations a (entry_of a.ckpt R.entries)
place_next R room (drivers.Sync u) = open_place_of R room (drivers.Sync u) (λ r. tt, λ r. tt, λ r. tt, λ r. tt)
place_next R room (drivers.Copy c) = open_place_of R room (drivers.Copy c) (IfSome-from c.copying (OfCopying (HasPlaceFor room.iterations) c) (λ at some. record { update = (λ r t. tt, λ r. tt, λ r. tt, λ r. tt); pulls = λ r. tt; completes = λ moment. tt }))

pub iterate_room : (R : RecordState) (room : Rooms) (x : Driver) (r : ℕ) (call : CallId) (k : ℕ) (choice : Choice) → driver_next R room x ≡ Serve r (requests.Iterate call k choice) → room.iterations ≡ true
iterate_room R room x r call k choice e = subst (HasPlaceFor room.iterations) e (place_next R room x)
