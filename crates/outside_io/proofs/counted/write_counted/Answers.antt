use Rattle.std.proofs.Common.{rules}
use Rattle.outside_io.proofs.counted.write_counted.Goals as goal

pub returns-in-Ok-clause-takes_some : goal.returns-in-Ok-clause-takes_some
returns-in-Ok-clause-takes_some g c = search rules
