use Rattle.std.proofs.Common.{rules}
use Rattle.moment_rules.proofs.times.expired.Goals as goal

pub returns-clause-value : goal.returns-clause-value
returns-clause-value c = search rules

pub returns-clause-exact : goal.returns-clause-exact
returns-clause-exact c = search rules

pub returns-clause-never_expires : goal.returns-clause-never_expires
returns-clause-never_expires c = search rules
