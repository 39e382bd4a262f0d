-- How a call is told what the record has answered to its step.
use Rattle.std.specs.Prelude.{◌≡◌, ℕ, ◌+◌, Option, Some, None}
use Rattle.ckpt_types.specs.declared.answers.Answer.TheVariants as answers
use Rattle.ckpt_types.specs.declared.answers.Outcome.{Outcome}
use Rattle.ckpt_types.specs.declared.answers.Outcome.TheVariants.{Astray}
use Rattle.ckpt_types.specs.declared.operation.Op.{Op}
use Rattle.ckpt_types.specs.Asks.{Ask, asked}
use Rattle.ckpt_types.specs.Asks as asks
use Rattle.ckpt_types.specs.OpWord.{word_of_op}
use Rattle.ckpt_machine.specs.Driving.{event_node, event_refusal}
use Rattle.client_calls.specs.TableSettling.{table_settled, MayGive}
use Rattle.client_calls.specs.TableState.{TableState}
use Rattle.ckpt_machine.specs.Drivers.{Driver}
use Rattle.ckpt_machine.specs.Taking.{driver_told}
use Rattle.client_calls.specs.Taking.{hand_outcome}
use Rattle.cluster_record.specs.RecordState.{RecordState}
use Rattle.node_msgs.specs.Steps.{event_verb}
use Rattle.node_msgs.specs.declared.details.Details.TheVariants as beside
use Rattle.node_msgs.specs.declared.next.Next.TheVariants.{Event}
use Rattle.node_msgs.specs.declared.next.RecordStep.{RecordStep}
use Rattle.node_msgs.specs.declared.next.RecordStep.TheVariants as events
use Rattle.node_msgs.specs.declared.replies.Reply.{Reply}
use Rattle.node_msgs.specs.declared.replies.Reply.TheVariants as replies
use Rattle.node_msgs.specs.declared.steps.StepReply.{StepReply}
use Rattle.node_msgs.specs.declared.steps.StepReply.TheVariants as words
use Rattle.run_labels.specs.declared.labels.Label.{Label}
use Rattle.run_labels.specs.declared.labels.Label.TheVariants as labels
use Rattle.client_seats.specs.Dues.{due_in}
use Rattle.client_seats.specs.Looked.{without_syncs}
use Rattle.client_seats.specs.SeatState.{KeptCall, KeptSeat}
use Rattle.client_seats.specs.Seats.{with_label}
use Rattle.cluster_record.specs.Calls.{left}
use Rattle.client_seats.specs.Ending.{end_at}
use Rattle.client_seats.specs.declared.due.Due.TheVariants as dues

-- what the record answers to a step: it is done, it is kept off by a call, or its memory is refused; nothing where it was not done
abbrev pub IsEventReply : Option Reply → Type 0
IsEventReply None = Unit {0}
IsEventReply (Some (replies.Done answers.Nothing)) = Unit {0}
IsEventReply (Some (replies.Held by)) = Unit {0}
IsEventReply (Some replies.NoMemory) = Unit {0}
IsEventReply (Some reply) = ⊥

-- the record grants a step that is done
abbrev pub IsGranted : RecordState → KeptCall → RecordStep → Option Reply → Type 0
IsGranted R c step (Some (replies.Done answer)) = event_refusal R step c.hand.driver ≡ None
IsGranted R c step reply = Unit {0}

-- the record in front of the step, in which it is due, and which grants it where it is done
pub record IsDueEvent (s : KeptSeat) (c : KeptCall) (step : RecordStep) (reply : Option Reply) : Type 0 where
  pub before : RecordState
  pub due : due_in before s ≡ dues.Event step
  pub granted : IsGranted before c step reply

-- there is one, where a call is in hand
abbrev pub IsDueFor : KeptSeat → Option KeptCall → RecordStep → Option Reply → Type 0
IsDueFor s None step reply = ⊥
IsDueFor s (Some c) step reply = IsDueEvent s c step reply

-- how a label tells a call that keeps a step off: a hold by that call, an open as refused
abbrev pub held_word : RecordStep → StepReply → StepReply
held_word (events.Hold r) word = word
held_word step word = words.Refused

-- how a label tells the answer
abbrev pub event_word : RecordStep → Option Reply → StepReply
event_word step (Some (replies.Done answer)) = words.Ok
event_word step (Some (replies.Held by)) = held_word step (words.Held by)
event_word step (Some replies.NoMemory) = words.Memory
event_word step reply = words.Refused

-- how the call ends by it; what was not done leads it astray
abbrev pub event_outcome : RecordState → Option Reply → KeptCall → Option Outcome
event_outcome R None c = Some Astray
event_outcome R (Some reply) c = end_at (c.steps + 1) (hand_outcome R reply c.hand)

-- what drives the call behind it; what was not done is not taken
abbrev pub driver_by : RecordState → Option Reply → Driver → Driver
driver_by R None x = x
driver_by R (Some reply) x = driver_told R reply x

-- the call behind it
abbrev pub call_told : RecordState → Option Reply → KeptCall → KeptCall
call_told R reply c = record c { hand = record c.hand { driver = driver_by R reply c.hand.driver }; steps = c.steps + 1 }

-- what goes with a handle that is closed
abbrev pub table_without : RecordStep → Op → TableState → TableState
table_without events.Close op t = without_syncs op t
table_without step op t = t

-- the client's table behind it: a step that is done changes it, where the call ends by that
abbrev pub table_told : RecordState → Op → RecordStep → Option ℕ → Option Reply → Option Outcome → TableState → TableState
table_told R op step ckpt (Some (replies.Done answer)) (Some end) t = table_settled R op step ckpt (table_without step op t)
table_told R op step ckpt reply end t = t

-- an open that gets a handle by a step has room for it
abbrev pub MayGiveFor : Op → Ask → TableState → Type 0
MayGiveFor op (asks.Open place name flags timeout a) t = MayGive op t
MayGiveFor op ask t = Unit {0}

abbrev pub MayGiveIn : Op → RecordStep → TableState → Type 0
MayGiveIn op events.Open t = MayGiveFor op (asked op) t
MayGiveIn op events.Finish t = MayGiveFor op (asked op) t
MayGiveIn op step t = Unit {0}

-- where it is done
abbrev pub MayGiveBy : Op → RecordStep → Option Reply → TableState → Type 0
MayGiveBy op step (Some (replies.Done answer)) t = MayGiveIn op step t
MayGiveBy op step reply t = Unit {0}

-- the label of the step
abbrev pub event_label : KeptCall → RecordStep → Option ℕ → Option Reply → Option Outcome → Label
event_label c step ckpt reply end =
    labels.Stepped c.hand.call (word_of_op c.hand.op) (event_verb step) ckpt (event_node c.hand.driver step) (event_word step reply) end beside.Nothing

-- A STEP OF THE RECORD OF THE CALL IN HAND, behind which the record is R
pub record IsTold (R : RecordState) (step : RecordStep) (ckpt : Option ℕ) (reply : Option Reply) (ticket : ℕ) (old new : KeptSeat) (end : Option Outcome) : Type 0 where
  pub call : KeptCall
  pub in_hand : old.call ≡ Some call
  pub answer : end ≡ event_outcome R reply call
  pub seat : new ≡ record old {
    table = table_told R call.hand.op step ckpt reply end old.table;
    call = left end (call_told R reply call);
    trail = with_label ticket (event_label call step ckpt reply end) old.trail;
  }
