use Rattle.std.proofs.Common.{rules}
use Rattle.replica.proofs.replica.Replica.apply_now.Goals as goal

pub returns-clause-new : goal.returns-clause-new
returns-clause-new c = search rules

pub invariant_of-self : goal.invariant_of-self
invariant_of-self c = search rules

pub returns-clause-answer : goal.returns-clause-answer
returns-clause-answer c = search rules
