-- How a look at the record ends a call.
use Rattle.std.specs.Prelude.{◌≡◌, ℕ, Some, None}
use Rattle.ckpt_types.specs.declared.answers.Outcome.{Outcome}
use Rattle.ckpt_types.specs.declared.answers.Outcome.TheVariants.{Done}
use Rattle.ckpt_types.specs.declared.operation.Op.{Op}
use Rattle.ckpt_types.specs.Asks.{asked}
use Rattle.ckpt_types.specs.OpWord.{word_of_op}
use Rattle.ckpt_machine.specs.After.{left_over}
use Rattle.ckpt_machine.specs.Due.{look_word}
use Rattle.ckpt_machine.specs.Tables.{handle_closed}
use Rattle.client_calls.specs.MadeIds.{looked_details, looked_end}
use Rattle.client_calls.specs.TableSettling.{table_looked}
use Rattle.client_calls.specs.TableState.{TableState, with_calls}
use Rattle.cluster_record.specs.RecordState.{RecordState}
use Rattle.node_msgs.specs.declared.next.Next.TheVariants.{End}
use Rattle.node_msgs.specs.declared.steps.Verb.TheVariants as verbs
use Rattle.run_labels.specs.declared.labels.Label.{Label}
use Rattle.run_labels.specs.declared.labels.Label.TheVariants as labels
use Rattle.client_seats.specs.Dues.{next_of}
use Rattle.client_seats.specs.SeatState.{KeptCall, KeptSeat}
use Rattle.client_seats.specs.Seats.{with_label}

-- the asynchronous synchronisations over the handle go that a call closes
abbrev pub without_syncs : Op → TableState → TableState
without_syncs op t = with_calls (left_over (handle_closed (asked op) t.client)) t

-- the table of the client behind a look that ends its call so
abbrev pub table_ended_by : Outcome → Op → TableState → TableState
table_ended_by (Done answer) op t = table_looked (Done answer) op (without_syncs op t)
table_ended_by end op t = t

-- the label of a look
abbrev pub looked_label : KeptCall → Outcome → Label
looked_label c end = labels.Stepped c.hand.call (word_of_op c.hand.op) verbs.Look None None (look_word end) (Some end) (looked_details end c.hand.made)

-- THE RECORD ALONE ENDS THE CALL IN HAND
pub record Looks (R : RecordState) (ticket : ℕ) (old new : KeptSeat) (end : Outcome) : Type 0 where
  pub call : KeptCall
  pub due : Outcome
  pub in_hand : old.call ≡ Some call
  pub next_is : next_of R old call ≡ End due
  pub answer : end ≡ looked_end call.hand.op due
  pub seat : new ≡ record old { table = table_ended_by end call.hand.op old.table; call = None; trail = with_label ticket (looked_label call end) old.trail }
