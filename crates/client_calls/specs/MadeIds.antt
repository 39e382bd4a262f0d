-- What a creation keeps of its commits: the identifier of the section that it makes, told where it ends by a look.
use Rattle.std.specs.Prelude.{ℕ, List, Option, Some, None, if◌then◌else◌}
use Rattle.ckpt_types.specs.declared.answers.Answer.TheVariants as answers
use Rattle.ckpt_types.specs.declared.answers.Outcome.{Outcome}
use Rattle.ckpt_types.specs.declared.answers.Outcome.TheVariants.{Done}
use Rattle.ckpt_types.specs.declared.operation.Op.{Op}
use Rattle.ckpt_types.specs.Asks.{update_of}
use Rattle.node_msgs.specs.declared.details.Details.{Details}
use Rattle.node_msgs.specs.declared.details.Details.TheVariants as beside
use Rattle.node_msgs.specs.declared.replies.Reply.{Reply}
use Rattle.node_msgs.specs.declared.replies.Reply.TheVariants as replies
use Rattle.node_msgs.specs.declared.requests.Request.{Request}
use Rattle.node_msgs.specs.declared.requests.Request.TheVariants as requests
use Rattle.node_core.specs.Serving.{update_answer}
use Rattle.client_calls.specs.UpdateSteps.{is_creation}

-- what is kept, told beside an end
abbrev pub made_told : Option (List (List ℕ)) → Details
made_told None = beside.Nothing
made_told (Some pieces) = beside.Pieces pieces

-- the pieces that are told, if some are
abbrev pub pieces_of : Details → Option (List (List ℕ))
pieces_of (beside.Pieces pieces) = Some pieces
pieces_of details = None

-- what a call keeps behind the reply to a request: a creation keeps what its commit tells
abbrev pub made_behind : Op → Request → Reply → Details → Option (List (List ℕ)) → Option (List (List ℕ))
made_behind op (requests.Commit call k) (replies.Done answers.Created) details before = if is_creation (update_of op) then pieces_of details else before
made_behind op request reply details before = before

-- how a look ends a call: where nothing is left of an update, by what that answers
abbrev pub looked_end : Op → Outcome → Outcome
looked_end op (Done answers.Nothing) = Done (update_answer (update_of op))
looked_end op o = o

-- and what is told beside it: of a creation what it has kept
abbrev pub looked_details : Outcome → Option (List (List ℕ)) → Details
looked_details (Done answers.Created) made = made_told made
looked_details o made = beside.Nothing
