use Rattle.std.proofs.Common.{rules}
use Rattle.outside_io.proofs.sure_source.SureSourceSource.read.Goals as goal

pub returns-clause-cause : goal.returns-clause-cause
returns-clause-cause c = search rules

pub returns-clause-sure : goal.returns-clause-sure
returns-clause-sure c = search rules
