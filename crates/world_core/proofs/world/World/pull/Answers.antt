use Rattle.world_core.proofs.Pulling.{can_pull_shown, pull_done}
use Rattle.world_core.proofs.world.World.pull.Goals as goal

pub take_snapshot-reply-requires : goal.take_snapshot-reply-requires
take_snapshot-reply-requires c = can_pull_shown c.args.self.now c.args.ckpt c.requires.shown

pub returns : goal.returns
returns c =
    record {
      label = _;
      labels = c.push.ensures.labels;
      is = pull_done c.args.self.now c.args.ckpt c.take_snapshot-reply.result c.take_snapshot-reply.new.snapshots c.take_snapshot-reply.ensures.reply c.take_snapshot-reply.ensures.new;
    }
