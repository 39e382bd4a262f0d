use Rattle.ckpt_types.specs.declared.identities.ActorName.TheVariants.{Client}
use Rattle.ckpt_types.specs.declared.identities.Who.TheVariants.{Actor}
use Rattle.world_core.proofs.Named.{by_step}
use Rattle.world_core.proofs.world.World.step.Goals as goal

pub returns-then-settles-clause-ok : goal.returns-then-settles-clause-ok
returns-then-settles-clause-ok c = by_step c.driven_step-then-settles.result c.args.log.now c.driven_step-then-settles.new.log (Actor (Client c.args.c)) c.args.finish c.args.self.now c.driven_step-then-settles.new.self c.driven_step-then-settles.ensures.ok

pub returns-clause-ok : goal.returns-clause-ok
returns-clause-ok c = by_step c.update_step.result c.args.log.now c.update_step.new.log (Actor (Client c.args.c)) c.args.finish c.args.self.now c.update_step.new.self c.update_step.ensures.ok

pub returns-in_default-kind : goal.returns-in_default-kind
returns-in_default-kind c = record {
  ok = by_step c.driven_step.result c.args.log.now c.driven_step.new.log (Actor (Client c.args.c)) c.args.finish c.args.self.now c.driven_step.new.self c.driven_step.ensures.ok;
  err = c.driven_step.ensures.err;
}
