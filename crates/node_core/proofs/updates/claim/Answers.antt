use Rattle.std.proofs.Common.{rules}
use Rattle.node_core.proofs.updates.claim.Goals as goal

pub returns-in-Err-clause-reply : goal.returns-in-Err-clause-reply
returns-in-Err-clause-reply c = search rules
