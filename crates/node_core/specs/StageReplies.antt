-- How a reply tells whether an update is staged, applied or begun, and why it is not.
use Rattle.std.specs.Prelude.{Result, Ok, Err}
use Rattle.ckpt_types.specs.declared.answers.Answer.{Answer}
use Rattle.node_msgs.specs.declared.replies.Reply.{Reply}
use Rattle.node_msgs.specs.declared.replies.Reply.TheVariants as replies
use Rattle.replica.specs.declared.replica.StageRefused.{StageRefused}
use Rattle.replica.specs.declared.replica.StageRefused.TheVariants as refusals

-- another call holds the update off, or the sections refuse it
abbrev pub reply_refused : StageRefused → Reply
reply_refused (refusals.Held holder) = replies.Held holder
reply_refused (refusals.Rules refused) = replies.Refused refused.error refused.index

-- it is done, with this answer, or is not
abbrev pub reply_told : Answer → Result (Unit {0}) StageRefused → Reply
reply_told answer (Ok done) = replies.Done answer
reply_told answer (Err refused) = reply_refused refused
