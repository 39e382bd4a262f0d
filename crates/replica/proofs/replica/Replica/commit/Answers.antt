use Rattle.std.proofs.Common.{rules}
use Rattle.replica.proofs.replica.Replica.commit.Goals as goal

pub apply_plan-requires-clause-accepted : goal.apply_plan-requires-clause-accepted
apply_plan-requires-clause-accepted c = search rules

pub apply_plan-requires-clause-planned : goal.apply_plan-requires-clause-planned
apply_plan-requires-clause-planned c = search rules

pub apply-requires : goal.apply-requires
apply-requires c = search rules

pub returns : goal.returns
returns c = search rules

pub invariant_of-self : goal.invariant_of-self
invariant_of-self c = search rules
