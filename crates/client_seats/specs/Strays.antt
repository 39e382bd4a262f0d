-- How a call goes astray whose node's step cannot be done, and how its snapshot goes out of its hand.
use Rattle.std.specs.Prelude.{◌≡◌, ℕ, List, [], ◌∷◌, Option, Some, None}
use Rattle.std.specs.Option.{option_map}
use Rattle.ckpt_types.specs.declared.answers.Outcome.TheVariants.{Astray}
use Rattle.ckpt_types.specs.OpWord.{word_of_op}
use Rattle.cluster_record.specs.RecordState.{RecordState}
use Rattle.node_msgs.specs.Requests.{ckpt_of}
use Rattle.node_msgs.specs.Steps.{verb_of}
use Rattle.node_msgs.specs.declared.details.Details.TheVariants as beside
use Rattle.node_msgs.specs.declared.next.Next.TheVariants.{Serve}
use Rattle.node_msgs.specs.declared.requests.Request.{Request}
use Rattle.node_msgs.specs.declared.steps.StepReply.TheVariants as words
use Rattle.run_labels.specs.declared.labels.Label.{Label}
use Rattle.run_labels.specs.declared.labels.Label.TheVariants as labels
use Rattle.snap_copy.specs.Snapshots.{Snapshot}
use Rattle.client_seats.specs.Dues.{next_of}
use Rattle.client_seats.specs.SeatState.{KeptCall, KeptSeat}
use Rattle.client_seats.specs.Seats.{with_label}

-- the label of a node's step that is not done
abbrev pub astray_label : KeptCall → ℕ → Request → Label
astray_label c r request = labels.Stepped c.hand.call (word_of_op c.hand.op) (verb_of request) (Some (ckpt_of request)) (Some r) words.Refused (Some Astray) beside.Nothing

-- the step of the call in hand that this node is to do is not done, and the call goes astray
pub record GoesAstray (R : RecordState) (r ticket : ℕ) (old new : KeptSeat) : Type 0 where
  pub call : KeptCall
  pub request : Request
  pub in_hand : old.call ≡ Some call
  pub next_is : next_of R old call ≡ Serve r request
  pub seat : new ≡ record old { call = None; trail = with_label ticket (astray_label call r request) old.trail }
