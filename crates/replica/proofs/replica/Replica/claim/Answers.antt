use Rattle.std.proofs.Common.{rules}
use Rattle.replica.proofs.replica.Replica.claim.Goals as goal

pub returns-clause-answer : goal.returns-clause-answer
returns-clause-answer c = search rules

pub invariant_of-self : goal.invariant_of-self
invariant_of-self c = search rules
