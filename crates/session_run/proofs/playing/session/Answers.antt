use Rattle.std.proofs.Common.{rules}
use Rattle.session_run.proofs.playing.session.Goals as goal

pub returns-clause-promises : goal.returns-clause-promises
returns-clause-promises g c = c.machine_law.ensures.promises c.play.new.log.labels c.play.ensures.run.run

pub returns-clause-follows : goal.returns-clause-follows
returns-clause-follows g c = search rules

pub returns-clause-front : goal.returns-clause-front
returns-clause-front g c = search rules
