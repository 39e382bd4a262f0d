use Rattle.std.proofs.Common.{refl}
use Rattle.world_core.proofs.Words.{nodes_done}
use Rattle.world_core.proofs.world.World.bring_up.Goals as goal

pub returns : goal.returns
returns c = record {
  label = _;
  labels = c.push.ensures.labels;
  is = record { label_is = refl; hands = refl; does = nodes_done c.args.self.now c.args.n c.bring_up.new.self c.requires.some c.requires.few c.requires.empty c.bring_up.ensures };
}
