use Rattle.std.proofs.Common.{rules}
use Rattle.node_core.proofs.updates.commit_lent.Goals as goal

pub returns-clause-details : goal.returns-clause-details
returns-clause-details c = search rules
