use Rattle.std.proofs.Common.{rules}
use Rattle.moment_rules.proofs.times.reached.Goals as goal

pub returns-then-deadline-now-clause-value : goal.returns-then-deadline-now-clause-value
returns-then-deadline-now-clause-value c = search rules

pub returns-then-deadline-now-clause-exact : goal.returns-then-deadline-now-clause-exact
returns-then-deadline-now-clause-exact c = search rules

pub returns-then-deadline-now-clause-at_moment : goal.returns-then-deadline-now-clause-at_moment
returns-then-deadline-now-clause-at_moment c = search rules

pub returns-else-deadline-now-clause-value : goal.returns-else-deadline-now-clause-value
returns-else-deadline-now-clause-value c = search rules

pub returns-else-deadline-now-clause-exact : goal.returns-else-deadline-now-clause-exact
returns-else-deadline-now-clause-exact c = search rules

pub returns-else-deadline-now-clause-at_moment : goal.returns-else-deadline-now-clause-at_moment
returns-else-deadline-now-clause-at_moment c = search rules

pub returns-then-deadline-now-clause-never_reached : goal.returns-then-deadline-now-clause-never_reached
returns-then-deadline-now-clause-never_reached c = search rules
