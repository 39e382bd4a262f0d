use Rattle.std.proofs.Common.{◌≡◌}
use Rattle.node_msgs.specs.declared.next.RecordStep.TheVariants.{Complete}
use Rattle.world_core.proofs.NoCompletion.{no_completion}
use Rattle.world_core.proofs.world.World.take_next.Goals as goal

pub unreachable-requires : goal.unreachable-requires
unreachable-requires c =
    let step = c.in-Event-Complete in
    let completes : step.field-0 ≡ Complete step.field-0-0 step.field-0-1 step.field-0-2 = rw step.is at step.field-0-is in
    no_completion c.args.self.now c.args.who c.args.next step.field-0 step.field-0-0 step.field-0-1 step.field-0-2 step.is completes c.requires.next c.requires.client c.requires.shown
