-- What the label of a read tells.
use Rattle.ckpt_types.specs.declared.answers.Answer.TheVariants as answers
use Rattle.ckpt_types.specs.Buffer.{Buffer}
use Rattle.node_msgs.specs.declared.details.Details.{Details}
use Rattle.node_msgs.specs.declared.details.Details.TheVariants as beside
use Rattle.node_msgs.specs.declared.replies.Reply.{Reply}
use Rattle.node_msgs.specs.declared.replies.Reply.TheVariants as replies

-- what comes beside the reply to a read: the pieces in its buffer, where it was done
abbrev pub read_told : Reply → Buffer → Details
read_told (replies.Done answers.Pieces) read = beside.Pieces read.pieces
read_told reply read = beside.Nothing
