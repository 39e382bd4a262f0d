use Rattle.std.proofs.Common.{sym}
use Rattle.ckpt_machine.proofs.NodeLists.{list_again}
use Rattle.world_core.proofs.copying.reserve.Goals as goal

pub returns-in_default-reserve-clause-nodes : goal.returns-in_default-reserve-clause-nodes
returns-in_default-reserve-clause-nodes c = sym (list_again c.args.nodes.now c.args.r)
