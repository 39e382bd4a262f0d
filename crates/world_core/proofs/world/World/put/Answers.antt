use Rattle.world_core.proofs.Putting.{can_put_shown, put_done}
use Rattle.world_core.proofs.world.World.put.Goals as goal

pub put_snapshot-reply-requires-clause-can : goal.put_snapshot-reply-requires-clause-can
put_snapshot-reply-requires-clause-can c = can_put_shown c.args.self.now c.args.ckpt c.args.r c.requires.shown

pub returns : goal.returns
returns c =
    record {
      label = _;
      labels = c.push.ensures.labels;
      is = put_done c.args.self.now c.args.ckpt c.args.r c.put_snapshot-reply.result c.put_snapshot-reply.new.nodes c.put_snapshot-reply.ensures.reply c.put_snapshot-reply.ensures.new;
    }
