use Rattle.std.specs.Prelude.{is_some}
use Rattle.ckpt_machine.specs.Nodes.{replica_in}
use Rattle.ckpt_machine.proofs.Reserving.{reserve_answers}
use Rattle.world_core.proofs.copying.reserve_on.Goals as goal

pub returns-clause-reply : goal.returns-clause-reply
returns-clause-reply c = reserve_answers (is_some (replica_in c.args.nodes.now c.args.ckpt c.args.r)) c.serve.result c.serve.ensures.reply
