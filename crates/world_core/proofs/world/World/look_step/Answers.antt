use Rattle.std.proofs.Common.{◌≡◌, sym, subst, ap, ◌∙◌}
use Rattle.std.specs.Prelude.{Option, Some, None, slice_set}
use Rattle.node_msgs.specs.declared.next.Next.TheVariants.{End}
use Rattle.run_labels.specs.declared.labels.Label.{Label}
use Rattle.ckpt_types.specs.Asks.{asked}
use Rattle.ckpt_machine.specs.Driving.{making_in}
use Rattle.ckpt_machine.specs.Tables.{handle_closed}
use Rattle.client_calls.specs.TableSettling.{table_looked}
use Rattle.client_calls.specs.declared.in_hand.InHand.{InHand}
use Rattle.world_core.specs.Alone.{ended_at, going_with_look, gone_with}
use Rattle.world_core.specs.Happenings.{IsStep}
use Rattle.world_core.specs.HandsState.{set_at}
use Rattle.world_core.specs.Settling.{without_making_of}
use Rattle.world_core.proofs.Held.{next_for}
use Rattle.world_core.proofs.Look.{look_is}
use Rattle.world_core.proofs.TableSteps.{kept_is, looked_is}
use Rattle.world_core.proofs.world.World.look_step.Goals as goal

pub returns : goal.returns
returns c =
    let w = c.args.self.now in
    let hand = c.in-Some.hand in
    let held = c.at-slot.ensures.value ∙ c.in-Some.is in
    let n = c.client_by-c.result in
    let t = c.at-table.result.now in
    let there = c.at-table.ensures.value in
    let tables = slice_set w.tables n c.settle_look.new.table in
    let end = c.look-end.result.0 in
    let taken : c.look-end.new.self ≡ record hand { made = None } = c.look-end.ensures.new in
    record {
      label = _;
      labels = c.push.ensures.labels;
      is = subst (λ (label : Label). IsStep c.args.who w c.end_alone.new.self label) (sym c.looked.ensures)
          (look_is w c.args.who c.requires.client c.args.due hand held (next_for w c.args.who (End c.args.due) hand held c.requires.next) c.end_alone.new.self c.making-making.result tables n c.handle_closed-closed.result c.word-op.result c.look_word-reply.result end c.look-end.result.1
          c.requires.shown (c.making-making.ensures ∙ ap (λ (h : InHand). making_in h.driver) taken) c.client_by-c.ensures
          (c.handle_closed-closed.ensures ∙ (λ i. handle_closed (asked (taken i).op) (sym (kept_is w.tables n t there) i)))
          (ap (slice_set w.tables n) (c.settle_look.ensures ∙ ap (λ (h : InHand). table_looked end h.op t) taken) ∙ looked_is w.tables n t there end hand.op) c.word-op.ensures c.look_word-reply.ensures c.look-end.ensures.end c.look-end.ensures.details
          (c.end_alone.ensures ∙ ap (ended_at c.args.who (Some end)) (c.unmake.ensures ∙ ap (without_making_of c.making-making.result)
          (c.let_go_with_look.ensures ∙ ap (λ (place : Option InHand). gone_with (going_with_look end) n c.handle_closed-closed.result (record w { tables = tables; hands = set_at w.hands c.args.who place })) c.clear.ensures))));
    }
