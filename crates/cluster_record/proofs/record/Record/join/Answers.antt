use Rattle.std.proofs.Common.{rules}
use Rattle.cluster_record.proofs.record.Record.join.Goals as goal

pub returns-clause-new : goal.returns-clause-new
returns-clause-new c = search rules

pub returns-clause-incarnation : goal.returns-clause-incarnation
returns-clause-incarnation c = search rules
