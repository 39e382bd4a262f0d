use Rattle.world_core.proofs.Listings.{tells}
use Rattle.world_core.proofs.world.World.show.Goals as goal

pub returns-clause-ok : goal.returns-clause-ok
returns-clause-ok c = record { label = _; labels = c.push.ensures.labels; is = tells c.args.self.now c.args.ckpt c.in_ok-replicas.replicas c.in_ok-replicas.ensures }
