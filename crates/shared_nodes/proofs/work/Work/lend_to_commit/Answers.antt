use Rattle.std.proofs.Common.{rules}
use Rattle.shared_nodes.proofs.work.Work.lend_to_commit.Goals as goal

pub returns-clause-lent : goal.returns-clause-lent
returns-clause-lent c = search rules
