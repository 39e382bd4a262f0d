use Rattle.std.proofs.lemmas.Grind.{common_steps}
use Rattle.std.proofs.Common.{rules, arith}
use Rattle.outside_io.proofs.mem_source.MemSourceSource.read.Goals as goal

pub returns-clause-consumes : goal.returns-clause-consumes
returns-clause-consumes c = search rules

pub returns-clause-end : goal.returns-clause-end
returns-clause-end c = search rules

pub returns-clause-fills : goal.returns-clause-fills
returns-clause-fills c = search rules

pub returns-clause-after : goal.returns-clause-after
returns-clause-after c = grind (arith, common_steps)

pub returns-then-fails-clause-fails : goal.returns-then-fails-clause-fails
returns-then-fails-clause-fails c = search rules

pub returns-clause-fails : goal.returns-clause-fails
returns-clause-fails c = search rules

pub returns-then-fails-clause-cause : goal.returns-then-fails-clause-cause
returns-then-fails-clause-cause c = search rules

pub returns-then-fails-clause-after : goal.returns-then-fails-clause-after
returns-then-fails-clause-after c = search rules

pub returns-clause-cause : goal.returns-clause-cause
returns-clause-cause c = search rules
