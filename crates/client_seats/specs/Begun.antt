-- How a call of a seat begins.
use Rattle.std.specs.Prelude.{◌≡◌, ◌⊎◌, ℕ, ◌-◌, List, [], ◌∷◌, replicate, Option, Some, None, IfSome, Bool, IsTrue, true, false}
use Rattle.ckpt_types.specs.declared.answers.Outcome.{Outcome}
use Rattle.ckpt_types.specs.declared.answers.Outcome.TheVariants.{Busy, NoMemory}
use Rattle.ckpt_types.specs.declared.identities.ActorName.TheVariants.{Client}
use Rattle.ckpt_types.specs.declared.identities.CallId.{CallId}
use Rattle.ckpt_types.specs.declared.identities.Who.TheVariants.{Actor}
use Rattle.ckpt_types.specs.declared.operation.Op.{Op}
use Rattle.ckpt_types.specs.Asks.{Ask, asked}
use Rattle.ckpt_types.specs.Asks as asks
use Rattle.ckpt_types.specs.Limits.{nodes_max}
use Rattle.ckpt_types.specs.OpWord.{word_of_op}
use Rattle.client_calls.specs.HandBegun.{IsHandBegun}
use Rattle.client_calls.specs.Standings.{standing}
use Rattle.client_calls.specs.TableState.{begun_with}
use Rattle.client_handles.specs.declared.handle_view.HandleView.{HandleView}
use Rattle.ckpt_machine.specs.Beginning.{begin_end}
use Rattle.ckpt_machine.specs.Due.{is_unrefused, kept_at_beginning}
use Rattle.ckpt_machine.specs.Tables.{handle_asked}
use Rattle.cluster_record.specs.RecordState.{RecordState, home_of, is_live_client, is_up}
use Rattle.node_msgs.specs.declared.details.Details.TheVariants as beside
use Rattle.run_labels.specs.declared.labels.Label.{Label}
use Rattle.run_labels.specs.declared.labels.Label.TheVariants as labels
use Rattle.run_labels.specs.declared.words.LineWord.TheVariants as linewords
use Rattle.run_labels.specs.declared.words.Said.TheVariants as saids
use Rattle.shared_nodes.specs.Works.{KeptWork}
use Rattle.snap_copy.specs.Snapshots.{Snapshot}
use Rattle.client_seats.specs.SeatState.{KeptCall, KeptSeat}
use Rattle.client_seats.specs.Seats.{with_label}

-- its client had a call in hand before, whose node is up
abbrev pub is_busy_on : RecordState → Option ℕ → Bool
is_busy_on R None = false
is_busy_on R (Some r) = is_up r R

-- no call is in hand, but one whose client's node is not up
abbrev pub IsFree : RecordState → KeptSeat → Type 0
IsFree R s = IfSome s.call (λ (c : KeptCall). is_up c.home R ≡ false)

-- the next call of the seat's client
abbrev pub call_next : KeptSeat → CallId
call_next s = record { actor = Client s.client; number = s.table.next }

-- the handle that an operation is about
abbrev pub handle_of : KeptSeat → Op → Option HandleView
handle_of s op = handle_asked (asked op) s.table.client

-- what a call of it answers at once; nothing where it goes on
abbrev pub due_at_beginning : RecordState → KeptSeat → Op → Option Outcome
due_at_beginning R s op = begin_end (standing (is_live_client s.client R) (handle_of s op) s.table) (asked op)

-- it answers so; one that is not refused may be refused its memory
abbrev pub IsBegunEnd : Option Outcome → Option Outcome → Type 0
IsBegunEnd due end = (end ≡ due) ⊎ (IsTrue (is_unrefused due) × (end ≡ Some NoMemory))

-- room for the snapshots of which journals keep copies: of a synchronisation one for each node, of the setting of an active one
abbrev pub copies_of : Ask → Snapshot → List Snapshot
copies_of (asks.Synchronize place timeout) s = replicate nodes_max s
copies_of (asks.SetActive place) s = s ∷ []
copies_of ask s = []

-- where the call has room for one in hand
abbrev pub copies_for : Ask → Option Snapshot → List Snapshot
copies_for ask None = []
copies_for ask (Some s) = copies_of ask s

-- a call is in hand from its beginning
pub record IsTakenUp (R : RecordState) (s : KeptSeat) (work : KeptWork) (c : KeptCall) : Type 0 where
  pub hand : IsHandBegun (call_next s) work.op (kept_at_beginning R (Client s.client) (handle_of s work.op)) c.hand
  pub home : c.home ≡ home_of s.client R
  pub steps : c.steps ≡ 0
  pub work_is : c.work ≡ work
  pub copies : c.copies ≡ copies_for (asked work.op) c.hand.snapshot

-- a call that goes on is in hand; one that has answered is not
abbrev pub IsHeld : RecordState → KeptSeat → KeptWork → Option Outcome → Option KeptCall → Type 0
IsHeld R s work (Some end) call = call ≡ None
IsHeld R s work None None = ⊥
IsHeld R s work None (Some c) = IsTakenUp R s work c

-- the label of a beginning
abbrev pub began_label : KeptSeat → Op → Option Outcome → Label
began_label s op end = labels.Began (call_next s) op end beside.Nothing

-- a call begins, and answers at once or goes on
pub record BeginsCall (R : RecordState) (work : KeptWork) (ticket : ℕ) (old new : KeptSeat) (end : Option Outcome) : Type 0 where
  pub answer : IsBegunEnd (due_at_beginning R old work.op) end
  pub held : IsHeld R old work end new.call
  pub seat : new ≡ record old {
    table = begun_with end (call_next old) work.op (handle_of old work.op) old.table;
    calls = old.calls - 1;
    call = new.call;
    trail = with_label ticket (began_label old work.op end) old.trail;
  }

-- the label of a word
abbrev pub busy_label : KeptSeat → Op → Label
busy_label s op = labels.Word (Actor (Client s.client)) (linewords.Op (word_of_op op)) saids.Busy

-- its client is busy, and the call does not begin
pub record SaysBusy (work : KeptWork) (ticket : ℕ) (old new : KeptSeat) (end : Option Outcome) : Type 0 where
  pub answer : end ≡ Some Busy
  pub seat : new ≡ record old { calls = old.calls - 1; call = None; trail = with_label ticket (busy_label old work.op) old.trail }

-- a word answers where its client is busy, and a call begins where it is not
abbrev pub BeginsIf : Bool → RecordState → KeptWork → ℕ → KeptSeat → KeptSeat → Option Outcome → Type 0
BeginsIf true R work ticket old new end = SaysBusy work ticket old new end
BeginsIf false R work ticket old new end = BeginsCall R work ticket old new end

-- A CALL OF A SEAT BEGINS
abbrev pub Begins : RecordState → KeptWork → ℕ → KeptSeat → KeptSeat → Option Outcome → Type 0
Begins R work ticket old new end = BeginsIf (is_busy_on R old.busy) R work ticket old new end
