use Rattle.world_core.proofs.world.WorldCluster.event.Goals as goal

pub returns-clause-promises : goal.returns-clause-promises
returns-clause-promises c = c.machine_law.ensures.promises c.run_on.new.log.labels c.run_on.ensures.run.run
