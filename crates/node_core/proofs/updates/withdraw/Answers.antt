use Rattle.std.proofs.Common.{rules}
use Rattle.node_core.proofs.updates.withdraw.Goals as goal

pub returns-clause-new : goal.returns-clause-new
returns-clause-new c = search rules
