use Rattle.std.proofs.Common.{rules}
use Rattle.node_core.proofs.snapshots.install_lent.Goals as goal

pub returns-clause-reply : goal.returns-clause-reply
returns-clause-reply c = search rules

pub returns-clause-new : goal.returns-clause-new
returns-clause-new c = search rules
