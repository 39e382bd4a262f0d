use Rattle.std.proofs.Common.{rules}
use Rattle.node_msgs.proofs.requests.Request.verb.Goals as goal

pub returns-in-Iterate : goal.returns-in-Iterate
returns-in-Iterate c = search rules
