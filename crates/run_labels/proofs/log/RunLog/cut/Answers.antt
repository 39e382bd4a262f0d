use Rattle.std.proofs.Common.{rules}
use Rattle.run_labels.proofs.log.RunLog.cut.Goals as goal

pub returns-clause-labels : goal.returns-clause-labels
returns-clause-labels c = search rules
