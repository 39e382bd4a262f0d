use Rattle.ckptsim.proofs.running.ckpt_run.Goals as goal

pub returns-clause-refused : goal.returns-clause-refused
returns-clause-refused g c = (c.machine_law.ensures.promises c.run_command.new.log.labels c.run_command.ensures.run.run).refused

pub returns-clause-all_or_none : goal.returns-clause-all_or_none
returns-clause-all_or_none g c = (c.machine_law.ensures.promises c.run_command.new.log.labels c.run_command.ensures.run.run).all_or_none

pub returns-clause-acknowledged : goal.returns-clause-acknowledged
returns-clause-acknowledged g c = (c.machine_law.ensures.promises c.run_command.new.log.labels c.run_command.ensures.run.run).acknowledged

pub returns-clause-effects : goal.returns-clause-effects
returns-clause-effects g c = (c.machine_law.ensures.promises c.run_command.new.log.labels c.run_command.ensures.run.run).effects

pub returns-clause-order : goal.returns-clause-order
returns-clause-order g c = (c.machine_law.ensures.promises c.run_command.new.log.labels c.run_command.ensures.run.run).order

pub returns-clause-stay : goal.returns-clause-stay
returns-clause-stay g c = (c.machine_law.ensures.promises c.run_command.new.log.labels c.run_command.ensures.run.run).stay

pub returns-clause-corrupted : goal.returns-clause-corrupted
returns-clause-corrupted g c = (c.machine_law.ensures.promises c.run_command.new.log.labels c.run_command.ensures.run.run).corrupted

pub returns-clause-synchronized : goal.returns-clause-synchronized
returns-clause-synchronized g c = (c.machine_law.ensures.promises c.run_command.new.log.labels c.run_command.ensures.run.run).synchronized

pub returns-clause-asked : goal.returns-clause-asked
returns-clause-asked g c = (c.machine_law.ensures.promises c.run_command.new.log.labels c.run_command.ensures.run.run).asked

pub returns-clause-owners : goal.returns-clause-owners
returns-clause-owners g c = (c.machine_law.ensures.promises c.run_command.new.log.labels c.run_command.ensures.run.run).owners

pub returns-clause-copies : goal.returns-clause-copies
returns-clause-copies g c = (c.machine_law.ensures.promises c.run_command.new.log.labels c.run_command.ensures.run.run).copies

pub returns-clause-actives : goal.returns-clause-actives
returns-clause-actives g c = (c.machine_law.ensures.promises c.run_command.new.log.labels c.run_command.ensures.run.run).actives

pub returns-clause-ends : goal.returns-clause-ends
returns-clause-ends g c = (c.machine_law.ensures.promises c.run_command.new.log.labels c.run_command.ensures.run.run).ends

pub returns-clause-causes : goal.returns-clause-causes
returns-clause-causes g c = (c.machine_law.ensures.promises c.run_command.new.log.labels c.run_command.ensures.run.run).causes

pub returns-clause-references : goal.returns-clause-references
returns-clause-references g c = (c.machine_law.ensures.promises c.run_command.new.log.labels c.run_command.ensures.run.run).references

pub returns-clause-callbacks : goal.returns-clause-callbacks
returns-clause-callbacks g c = (c.machine_law.ensures.promises c.run_command.new.log.labels c.run_command.ensures.run.run).callbacks
