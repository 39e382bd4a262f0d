use Rattle.std.proofs.Common.{rules}
use Rattle.node_msgs.proofs.requests.Request.ckpt.Goals as goal

pub returns-in-Install : goal.returns-in-Install
returns-in-Install c = search rules

pub returns-in-Claim : goal.returns-in-Claim
returns-in-Claim c = search rules
