use Rattle.std.proofs.lemmas.Grind.{common_steps}
use Rattle.std.proofs.Common.{arith}
use Rattle.update_rules.proofs.reads.check_read.Goals as goal

pub returns-in_default : goal.returns-in_default
returns-in_default g c = grind (arith, common_steps)

pub returns-then-element-size : goal.returns-then-element-size
returns-then-element-size g c = grind (arith, common_steps)
