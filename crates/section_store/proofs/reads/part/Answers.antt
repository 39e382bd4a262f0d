use Rattle.std.proofs.lemmas.Grind.{common_steps}
use Rattle.std.proofs.Common.{arith}
use Rattle.section_store.proofs.reads.part.Goals as goal

pub returns-then-len-rest : goal.returns-then-len-rest
returns-then-len-rest c = grind (arith, common_steps)

pub returns-else-len-rest : goal.returns-else-len-rest
returns-else-len-rest c = grind (arith, common_steps)
