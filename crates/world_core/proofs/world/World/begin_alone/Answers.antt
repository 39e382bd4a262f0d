use Rattle.std.proofs.Common.{Some, refl, ap, ◌∙◌}
use Rattle.ckpt_types.specs.declared.answers.Outcome.TheVariants as outcomes
use Rattle.world_core.specs.HandsState.{HandsState}
use Rattle.world_core.specs.TablesState.{at_client}
use Rattle.client_calls.specs.TableState.{begun_with}
use Rattle.world_core.proofs.Answered.{can_alone}
use Rattle.world_core.proofs.Begin.{answered_begins}
use Rattle.world_core.proofs.Waits.{goes_alone, lacks_memory}
use Rattle.world_core.proofs.world.World.begin_alone.Goals as goal

-- the memory for it is refused
pub returns-in_default : goal.returns-in_default
returns-in_default c =
    let w = c.args.self.now in
    answered_begins w c.args.c c.args.call c.args.op.now c.args.handle.now outcomes.NoMemory _ c.begin_ended.new.self c.requires.shown (lacks_memory w c.args.c c.args.call c.args.op.now c.args.handle.now c.requires.begins c.requires.alone) refl refl
    (c.begin_ended.ensures ∙ ap (λ (hands : HandsState). record w { tables = at_client c.args.c (begun_with (Some outcomes.NoMemory) c.args.call c.args.op.now c.args.handle.now) w.tables; hands = hands }) c.in_default.ensures.err)

pub begin_ended-requires-2-clause-can : goal.begin_ended-requires-2-clause-can
begin_ended-requires-2-clause-can c = can_alone c.args.self.now c.args.c c.args.call c.args.op.now c.args.handle.now c.requires.shown c.requires.begins c.requires.alone

pub returns : goal.returns
returns c =
    let w = c.args.self.now in
    let put = c.in-Ok.ensures.ok in
    goes_alone w c.args.c c.args.call c.args.op.now c.args.handle.now put.hand _ c.begin_ended-2.new.self c.requires.shown c.requires.begins c.requires.alone put.begun put.there put.hands c.begin_ended-2.ensures
