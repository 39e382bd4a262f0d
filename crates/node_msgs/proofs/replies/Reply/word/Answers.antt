use Rattle.std.proofs.Common.{rules}
use Rattle.node_msgs.proofs.replies.Reply.word.Goals as goal

pub returns-in-Older : goal.returns-in-Older
returns-in-Older c = search rules
