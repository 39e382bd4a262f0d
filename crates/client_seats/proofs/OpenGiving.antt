-- An open that gets a handle by its next step has room for it.
use Rattle.std.proofs.Common.{◌≡◌, ℕ, ℤ, Bool, true, false, cond, refl, sym, ap, subst, ◌∙◌, arith}
use Rattle.std.specs.Prelude.{Option, Some, None, IsSome, not, nat_le, nat_lt, length, if◌then◌else◌}
use Rattle.ckpt_types.specs.declared.answers.Outcome.{Outcome}
use Rattle.ckpt_types.specs.declared.attributes.CreationAttributes.{CreationAttributes}
use Rattle.ckpt_types.specs.declared.identities.CallId.{CallId}
use Rattle.client_handles.specs.ClientState.{ClientState, has_handle_room}
use Rattle.cluster_record.specs.DueOpen.{OpenState, accepts, create_next, entry_by, entry_next, on_named, reserve_or_finish, targets_of, on_making, by_making, making_ckpt, open_next}
use Rattle.cluster_record.specs.Opening.{answer_by, answer_named, open_answer}
use Rattle.cluster_record.specs.RecordState.{RecordState, named, home_of}
use Rattle.cluster_record.specs.StepDone.{first_lacking}
use Rattle.cluster_record.specs.declared.calls.Making.{Making}
use Rattle.cluster_record.specs.declared.entries.Entry.{Entry}
use Rattle.ckpt_machine.proofs.Deadlines.{in_time-either}
use Rattle.ckpt_machine.specs.Driving.{refusal_in}
use Rattle.ckpt_machine.specs.Tables.{has_place}
use Rattle.node_msgs.specs.declared.next.Next.{Next}
use Rattle.node_msgs.specs.declared.next.Next.TheVariants.{Event, End, Serve}
use Rattle.node_msgs.specs.declared.next.RecordStep.TheVariants as events

-- an opening that the record does not refuse, and a creation, have room; at any other step something is in the making
abbrev pub HasRoomAt : Option Making → Bool → Option Outcome → Next → Type 0
HasRoomAt making room refusal (Event events.Open) = refusal ≡ None → room ≡ true
HasRoomAt making room refusal (Event events.Create) = room ≡ true
HasRoomAt making room refusal (Event step) = IsSome (making_ckpt making)
HasRoomAt making room refusal next = Unit {0}

create_has : (making : Option Making) (refusal : Option Outcome) (room b : Bool) (x y : Outcome) → HasRoomAt making room refusal (cond (not room) (End x) (cond b (End y) (Event events.Create)))
create_has making refusal false b x y = tt
create_has making refusal true true x y = tt
create_has making refusal true false x y = refl

open_has : (making : Option Making) (refusal : Option Outcome) (b room : Bool) (x y : Outcome) → HasRoomAt making room refusal (cond b (End x) (cond (not room) (End y) (Event events.Open)))
open_has making refusal true room x y = tt
open_has making refusal false true x y = λ granted. refl
open_has making refusal false false x y = tt

entry_has : (m : Option Making) (room : Bool) (a : Option CreationAttributes) (opener : ℕ) (e : Entry) (making : Option CallId) → HasRoomAt m room (refusal_in (answer_by making a opener e)) (entry_by making room a e)
entry_has m room a opener e (Some call) = λ granted. absurd (cc granted)
entry_has m room a opener e None = open_has m (refusal_in (answer_by None a opener e)) (not (accepts a e)) room _ _

named_has : (m : Option Making) (R : RecordState) (room : Bool) (deadline : Option ℤ) (a : Option CreationAttributes) (opener : ℕ) (e : Option Entry) → HasRoomAt m room (refusal_in (answer_named R a opener e)) (on_named R room deadline a e)
named_has m R room deadline None opener None = tt
named_has m R room deadline (Some a) opener None =
    let refusal = refusal_in (answer_named R (Some a) opener None) in
    in_time-either (HasRoomAt m room refusal) deadline R.moment (create_next R room) (λ o. tt) (create_has m refusal room (nat_le 16 (length R.entries)) _ _)
named_has m R room deadline a opener (Some e) = in_time-either (HasRoomAt m room (refusal_in (answer_named R a opener (Some e)))) deadline R.moment (entry_next room a e) (λ o. tt) (entry_has m room a opener e e.making)

making_has : (R : RecordState) (room : Bool) (o : OpenState) (m : Option Making) → HasRoomAt m room (refusal_in (open_answer R o.ask)) (by_making R room o m)
making_has R room o None = named_has None R room o.deadline o.ask.attrs (home_of o.ask.client R) (named o.ask.name R.entries)
making_has R room o (Some m) = in_time-either (HasRoomAt (Some m) room (refusal_in (open_answer R o.ask))) o.deadline R.moment (on_making R o.ask m) (λ o. tt) (by_test m.refused (first_lacking 0 (targets_of o.ask R) m.reserved)) where
  by_test : (b : Bool) (r : Option ℕ) → HasRoomAt (Some m) room (refusal_in (open_answer R o.ask)) (cond b (Event events.Undo) (reserve_or_finish m.ckpt r))
  by_test true r = refl
  by_test false None = refl
  by_test false (Some r) = tt

pub open_has_room : (R : RecordState) (room : Bool) (o : OpenState) → HasRoomAt o.making room (refusal_in (open_answer R o.ask)) (open_next R room o)
open_has_room R room o = making_has R room o o.making

-- where each checkpoint in the making has a place, and one more has, so has one more alone
pub has_room-has_place : (making : ℕ) (t : ClientState) → has_place making t ≡ true → has_handle_room t ≡ true
has_room-has_place making t has = grind (arith)
