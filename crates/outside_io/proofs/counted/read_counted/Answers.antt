use Rattle.std.proofs.Common.{rules}
use Rattle.outside_io.proofs.counted.read_counted.Goals as goal

pub returns-in-Err-clause-consumes : goal.returns-in-Err-clause-consumes
returns-in-Err-clause-consumes g c = search rules
