use Rattle.std.proofs.Common.{rules}
use Rattle.replica.proofs.replica.Replica.pull.Goals as goal

pub returns-in-Some-clause-snap : goal.returns-in-Some-clause-snap
returns-in-Some-clause-snap c = search rules
