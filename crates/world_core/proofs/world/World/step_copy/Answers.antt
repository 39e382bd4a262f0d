use Rattle.ckpt_types.specs.declared.identities.ActorName.TheVariants.{Node}
use Rattle.ckpt_types.specs.declared.identities.Who.TheVariants.{Actor}
use Rattle.world_core.proofs.Named.{by_step}
use Rattle.world_core.proofs.StepCopy.{copying_next}
use Rattle.world_core.proofs.world.World.step_copy.Goals as goal

pub copy_next-requires-clause-next : goal.copy_next-requires-clause-next
copy_next-requires-clause-next c = copying_next c.args.self.now c.args.r c.in-Some.hand.now c.next-next.result c.in-Some.ensures c.next-next.ensures.next

pub returns-clause-ok : goal.returns-clause-ok
returns-clause-ok c = by_step c.copy_next.result c.args.log.now c.copy_next.new.log (Actor (Node c.args.r)) c.args.finish c.args.self.now c.copy_next.new.self c.copy_next.ensures.ok
