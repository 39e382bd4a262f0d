use Rattle.std.proofs.Common.{rules}
use Rattle.node_core.proofs.seen.attributes_seen.Goals as goal

pub returns-in-Some : goal.returns-in-Some
returns-in-Some c = search rules
