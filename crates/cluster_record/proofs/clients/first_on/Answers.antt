use Rattle.std.proofs.lemmas.Grind.{common_steps}
use Rattle.std.proofs.Common.{arith}
use Rattle.cluster_record.proofs.clients.first_on.Goals as goal

pub loop-live-preserved : goal.loop-live-preserved
loop-live-preserved c = grind (arith, common_steps)
