use Rattle.world_core.proofs.New.{new_run}
use Rattle.world_core.proofs.Running.{few_left}
use Rattle.world_core.proofs.law.world_law.Goals as goal

pub returns-clause-begins : goal.returns-clause-begins
returns-clause-begins c = new_run

pub returns-clause-few : goal.returns-clause-few
returns-clause-few c = few_left c.machine_law.ensures.runs c.machine_law.ensures.few
