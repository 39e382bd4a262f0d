use Rattle.world_core.proofs.StepCopy.{copies_within}
use Rattle.world_core.proofs.world.World.copy_next.Goals as goal

pub copy_look-requires-clause-node : goal.copy_look-requires-clause-node
copy_look-requires-clause-node c = copies_within c.args.self.now c.args.r c.requires.shown c.args.next c.requires.next
