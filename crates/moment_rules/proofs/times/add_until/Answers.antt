use Rattle.std.proofs.Common.{rules}
use Rattle.moment_rules.proofs.times.add_until.Goals as goal

pub returns-clause-value : goal.returns-clause-value
returns-clause-value c = search rules

pub returns-clause-fits : goal.returns-clause-fits
returns-clause-fits c = search rules

pub returns-clause-stops : goal.returns-clause-stops
returns-clause-stops c = search rules

pub returns-clause-later : goal.returns-clause-later
returns-clause-later c = search rules
