use Rattle.node_msgs.specs.declared.next.Next.TheVariants.{Serve}
use Rattle.world_core.proofs.StepCopy.{copies_within}
use Rattle.world_core.proofs.world.World.copy_at.Goals as goal

pub copy_serve-requires-clause-node : goal.copy_serve-requires-clause-node
copy_serve-requires-clause-node c = copies_within c.args.self.now c.args.r c.requires.shown (Serve c.args.q c.args.request.now) c.requires.next

pub copy_reserve-requires-clause-node : goal.copy_reserve-requires-clause-node
copy_reserve-requires-clause-node c = copies_within c.args.self.now c.args.r c.requires.shown (Serve c.args.q c.args.request.now) c.requires.next
