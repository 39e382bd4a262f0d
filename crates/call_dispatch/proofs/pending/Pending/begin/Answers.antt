use Rattle.std.proofs.Common.{rules}
use Rattle.call_dispatch.proofs.pending.Pending.begin.Goals as goal

pub push_reserved-requires : goal.push_reserved-requires
push_reserved-requires c = search rules

pub invariant_of-self : goal.invariant_of-self
invariant_of-self c = search rules

pub returns-clause-answer : goal.returns-clause-answer
returns-clause-answer c = search rules
