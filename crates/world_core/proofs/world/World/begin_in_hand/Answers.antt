use Rattle.std.proofs.Common.{sym, ap, subst, ◌∙◌}
use Rattle.std.specs.Prelude.{Option, None, slice_set}
use Rattle.ckpt_types.specs.declared.identities.ActorName.TheVariants.{Client}
use Rattle.ckpt_types.specs.declared.identities.Who.TheVariants.{Actor}
use Rattle.node_msgs.specs.declared.details.Details.TheVariants.{Nothing}
use Rattle.run_labels.specs.declared.labels.Label.TheVariants.{Began}
use Rattle.ckpt_machine.specs.Due.{kept_at_beginning}
use Rattle.client_calls.specs.declared.in_hand.InHand.{InHand}
use Rattle.world_core.specs.Happenings.{Begins}
use Rattle.world_core.specs.HandsState.{set_at}
use Rattle.client_calls.specs.TableState.{begun_with}
use Rattle.world_core.proofs.TableSteps.{changed_is}
use Rattle.world_core.proofs.Waits.{hand_begun, waits}
use Rattle.world_core.proofs.world.World.begin_in_hand.Goals as goal

pub returns-clause-ok : goal.returns-clause-ok
returns-clause-ok c =
    let w = c.args.self.now in
    let call = c.args.call in
    let handle = c.args.handle.now in
    let hand = c.in_ok-hand.hand in
    let begun = hand_begun call c.args.op (kept_at_beginning w.cluster call.actor handle) hand c.args.rooms.iteration c.args.rooms.snapshot c.in_ok-hand.ensures.hand c.requires.iteration c.requires.snapshot c.in_ok-hand.ensures.driver in
    let tables_are = ap (slice_set w.tables c.args.c) c.begin.ensures ∙ changed_is w.tables c.args.c c.at.result.now c.at.ensures.value (begun_with None call c.args.op handle) in
    record {
      label = _;
      labels = c.push.ensures.labels;
      is = subst (λ (o : Option InHand). Begins (Client c.args.c) c.args.op w (record w { tables = slice_set w.tables c.args.c c.begin.new.self; hands = set_at w.hands (Actor (Client c.args.c)) o }) (Began call c.args.op None Nothing)) (sym c.take_place.ensures)
          (waits w c.args.c call c.args.op handle hand (slice_set w.tables c.args.c c.begin.new.self) c.requires.begins begun c.at_client-slot.ensures.there tables_are);
    }
