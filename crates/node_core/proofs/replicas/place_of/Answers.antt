use Rattle.std.proofs.lemmas.Grind.{common_steps}
use Rattle.std.proofs.Common.{arith}
use Rattle.node_core.proofs.replicas.place_of.Goals as goal

pub returns-then-ckpt-clause-place : goal.returns-then-ckpt-clause-place
returns-then-ckpt-clause-place c = grind (arith, common_steps)
