use Rattle.std.proofs.Common.{sym, refl, subst}
use Rattle.node_msgs.specs.declared.next.Next.TheVariants.{Event}
use Rattle.node_msgs.specs.declared.next.RecordStep.TheVariants.{Enter}
use Rattle.world_core.specs.declared.world.World.{World}
use Rattle.world_core.specs.Happenings.{IsStep}
use Rattle.world_core.specs.Shows.{IsShown, HasNumbersLeft}
use Rattle.world_core.proofs.TableSteps.{world_stays}
use Rattle.world_core.proofs.TakenRoom.{keeps_taken}
use Rattle.world_core.proofs.world.World.enter_step.Goals as goal

pub record_step-requires-clause-next : goal.record_step-requires-clause-next
record_step-requires-clause-next c = (keeps_taken c.args.self.now c.args.who c.client_by.result _ c.take_room.new.self c.client_by.ensures c.at.ensures.value c.in-Ok.ensures.taken).next (Event Enter) c.requires.next

pub record_step-requires-clause-has_room : goal.record_step-requires-clause-has_room
record_step-requires-clause-has_room c is = (keeps_taken c.args.self.now c.args.who c.client_by.result _ c.take_room.new.self c.client_by.ensures c.at.ensures.value c.in-Ok.ensures.taken).has_room

pub record_step-requires-clause-shown : goal.record_step-requires-clause-shown
record_step-requires-clause-shown c = (keeps_taken c.args.self.now c.args.who c.client_by.result _ c.take_room.new.self c.client_by.ensures c.at.ensures.value c.in-Ok.ensures.taken).shown c.requires.shown

pub record_step-requires-clause-roomy : goal.record_step-requires-clause-roomy
record_step-requires-clause-roomy c = (keeps_taken c.args.self.now c.args.who c.client_by.result _ c.take_room.new.self c.client_by.ensures c.at.ensures.value c.in-Ok.ensures.taken).roomy c.requires.roomy

pub refuse_step-requires-clause-refused : goal.refuse_step-requires-clause-refused
refuse_step-requires-clause-refused c hand held = refl

pub refuse_step-requires-clause-shown : goal.refuse_step-requires-clause-shown
refuse_step-requires-clause-shown c = subst IsShown (sym (world_stays c.args.self.now c.client_by.result _ c.take_room.new.self c.at.ensures.value c.in-Err.ensures.unchanged)) c.requires.shown

pub refuse_step-requires-clause-roomy : goal.refuse_step-requires-clause-roomy
refuse_step-requires-clause-roomy c = subst HasNumbersLeft (sym (world_stays c.args.self.now c.client_by.result _ c.take_room.new.self c.at.ensures.value c.in-Err.ensures.unchanged)) c.requires.roomy

pub returns-in-Err : goal.returns-in-Err
returns-in-Err c =
    let refused = c.refuse_step.ensures in
    record {
      label = refused.label;
      labels = refused.labels;
      is = subst (λ (w : World). IsStep c.args.who w c.refuse_step.new.self refused.label) (world_stays c.args.self.now c.client_by.result _ c.take_room.new.self c.at.ensures.value c.in-Err.ensures.unchanged) refused.is;
    }

pub returns-in-Ok : goal.returns-in-Ok
returns-in-Ok c =
    let entered = c.record_step.ensures in
    record {
      label = entered.label;
      labels = entered.labels;
      is = (keeps_taken c.args.self.now c.args.who c.client_by.result _ c.take_room.new.self c.client_by.ensures c.at.ensures.value c.in-Ok.ensures.taken).step c.record_step.new.self entered.label entered.is;
    }
