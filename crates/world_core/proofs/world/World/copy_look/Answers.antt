use Rattle.std.proofs.Common.{◌∙◌}
use Rattle.world_core.proofs.LookCopy.{looked_step}
use Rattle.world_core.proofs.world.World.copy_look.Goals as goal

pub returns : goal.returns
returns c = record {
  label = _;
  labels = c.push.ensures.labels;
  is = looked_step c.args.self.now c.args.r c.args.end c.in-Some.hand (c.at_node-slot.ensures.value ∙ c.in-Some.is) c.requires.next c.call-call.ensures.copies
      c.call-call.result c.clear_copy.new.slot c.look_word-reply.result _ c.call-call.ensures.value c.clear_copy.ensures c.look_word-reply.ensures c.looked.ensures;
}
