use Rattle.std.proofs.Common.{◌∙◌}
use Rattle.world_core.proofs.ReserveCopy.{asks_may, asks_node, asks_well_formed, reserved_step}
use Rattle.world_core.proofs.world.World.copy_reserve.Goals as goal

pub reserve-reply-requires-clause-node : goal.reserve-reply-requires-clause-node
reserve-reply-requires-clause-node c = asks_node c.args.self.now c.args.r c.args.q c.args.ckpt c.in-Some.hand (c.at_node-slot.ensures.value ∙ c.in-Some.is) c.requires.next c.requires.shown

pub reserve-reply-requires-clause-well_formed : goal.reserve-reply-requires-clause-well_formed
reserve-reply-requires-clause-well_formed c = asks_well_formed c.args.self.now c.args.r c.args.q c.args.ckpt c.in-Some.hand (c.at_node-slot.ensures.value ∙ c.in-Some.is) c.requires.next c.requires.shown

pub reserve-reply-requires-clause-may : goal.reserve-reply-requires-clause-may
reserve-reply-requires-clause-may c = asks_may c.args.self.now c.args.r c.args.q c.args.ckpt c.in-Some.hand (c.at_node-slot.ensures.value ∙ c.in-Some.is) c.requires.next c.requires.shown

pub returns : goal.returns
returns c =
    let w = c.args.self.now in
    let held = c.at_node-slot.ensures.value ∙ c.in-Some.is in
    record {
      label = _;
      labels = c.push.ensures.labels;
      is = reserved_step w c.args.r c.args.q c.args.ckpt c.in-Some.hand c.reserve-reply.result held c.requires.next c.call-call.ensures.copies c.reserve-reply.ensures.reply c.reserve-reply.ensures.eight (asks_node w c.args.r c.args.q c.args.ckpt c.in-Some.hand held c.requires.next c.requires.shown)
          c.call-call.result c.reserve-reply.new.hand c.take-end.new.self c.take-end.result c.let_go_copy.new.slot c.reserve-reply.new.nodes _ c.call-call.ensures.value c.reserve-reply.ensures.hand c.take-end.ensures.new c.take-end.ensures.outcome c.let_go_copy.ensures c.reserve-reply.ensures.nodes c.served.ensures;
    }
