use Rattle.std.proofs.Common.{rules}
use Rattle.replica.proofs.replica.Replica.weak_begin.Goals as goal

pub invariant_of-self : goal.invariant_of-self
invariant_of-self c = search rules

pub returns-clause-new : goal.returns-clause-new
returns-clause-new c = search rules
