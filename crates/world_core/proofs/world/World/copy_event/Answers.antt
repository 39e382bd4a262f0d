use Rattle.node_msgs.specs.declared.next.Next.TheVariants.{Event}
use Rattle.world_core.proofs.StepCopy.{completes_own, copies_within, no_other}
use Rattle.world_core.proofs.world.World.copy_event.Goals as goal

pub unreachable-requires : goal.unreachable-requires
unreachable-requires c = no_other c.args.self.now c.args.r c.args.step c.requires.shown c.requires.next c.in_default.not-Complete

pub copy_complete-requires-clause-next : goal.copy_complete-requires-clause-next
copy_complete-requires-clause-next c = completes_own c.args.self.now c.args.r c.args.step c.requires.shown c.requires.next c.in-Complete.ckpt c.in-Complete.field-1 c.in-Complete.moment c.in-Complete.is

pub copy_complete-requires-clause-node : goal.copy_complete-requires-clause-node
copy_complete-requires-clause-node c = copies_within c.args.self.now c.args.r c.requires.shown (Event c.args.step) c.requires.next
