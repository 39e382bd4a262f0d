use Rattle.world_core.proofs.HandLaws.{none_over}
use Rattle.world_core.proofs.steps.forget_syncs.Goals as goal

pub returns-in_default : goal.returns-in_default
returns-in_default c = none_over c.args.closed c.args.c c.args.table.now.pending c.in_default.ensures c.args.hands.now
