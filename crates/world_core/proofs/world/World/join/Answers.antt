use Rattle.world_core.proofs.JoinedWorld.{joins}
use Rattle.world_core.proofs.world.World.join.Goals as goal

pub returns : goal.returns
returns c = record {
  label = _;
  labels = c.push.ensures.labels;
  is = joins c.args.self.now c.args.r _ c.come_up-incarnation.new.self c.requires.node c.come_up-incarnation.ensures.answer c.come_up-incarnation.ensures.new;
}
