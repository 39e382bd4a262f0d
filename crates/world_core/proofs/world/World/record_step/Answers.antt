use Rattle.std.proofs.Common.{◌≡◌, length, Some, sym, ap, subst, ◌∙◌}
use Rattle.std.specs.Prelude.{Option, slice_set}
use Rattle.ckpt_types.specs.Asks.{asked}
use Rattle.ckpt_types.specs.declared.answers.Outcome.{Outcome}
use Rattle.node_msgs.specs.declared.replies.Reply.TheVariants.{Held, NoMemory}
use Rattle.run_labels.specs.declared.labels.Label.{Label}
use Rattle.world_core.specs.declared.world.World.{World}
use Rattle.world_core.specs.Happenings.{IsNext, IsStep}
use Rattle.world_core.specs.Shows.{IsShown, HasNumbersLeft}
use Rattle.world_core.specs.Settling.{CanSettle}
use Rattle.ckpt_machine.specs.RecordReady.{IsRefusedAs}
use Rattle.client_calls.specs.declared.in_hand.InHand.{InHand}
use Rattle.ckpt_machine.specs.Granting.{event_granted}
use Rattle.node_msgs.specs.declared.next.Next.TheVariants.{Event}
use Rattle.ckpt_machine.specs.Driving.{event_refusal}
use Rattle.ckpt_machine.specs.Tables.{handle_closed}
use Rattle.ckpt_machine.specs.RecordAfter.{event_after, nodes_behind}
use Rattle.world_core.specs.Backgrounds.{snapshots_behind}
use Rattle.world_core.specs.HandsState.{hand_at}
use Rattle.world_core.specs.Alone.{ended_at}
use Rattle.world_core.specs.Freeing.{freed_world}
use Rattle.world_core.proofs.EventEnds.{done_ends, done_keeps, granted_at, kept_off_as}
use Rattle.ckpt_machine.proofs.Granted.{granted_ok}
use Rattle.ckpt_machine.proofs.Going.{length-behind, plain_completes}
use Rattle.world_core.proofs.HandLaws.{as_it_was, same_world, when_not_ok}
use Rattle.world_core.proofs.Held.{next_for}
use Rattle.world_core.proofs.NoneGone.{none_freed}
use Rattle.world_core.proofs.RecordEvent.{can_add, can_settle, is_found, is_ready, event_step}
use Rattle.world_core.proofs.TableSteps.{kept_is, may_settle, settled_is}
use Rattle.world_core.proofs.world.World.record_step.Goals as goal

-- another call is making the checkpoint that it would open; the place comes back as it was
pub refuse_step-requires-clause-next : goal.refuse_step-requires-clause-next
refuse_step-requires-clause-next c = subst (λ (w : World). IsNext w c.args.who (Event c.args.step)) (sym (same_world c.args.self.now c.args.who (Some c.in-Some.hand) (c.at-slot.ensures.value ∙ c.in-Some.is))) c.requires.next

pub refuse_step-requires-clause-refused : goal.refuse_step-requires-clause-refused
refuse_step-requires-clause-refused c =
    let w = c.args.self.now in
    let held : hand_at w.hands c.args.who ≡ Some c.in-Some.hand = c.at-slot.ensures.value ∙ c.in-Some.is in
    subst (λ (w : World). (hand : InHand) → hand_at w.hands c.args.who ≡ Some hand → IsRefusedAs (event_refusal w.cluster c.args.step hand.driver) c.args.step (Held c.in-Err.maker)) (sym (same_world w c.args.who (Some c.in-Some.hand) held))
    (λ hand is.
    let both : Some c.in-Some.hand ≡ Some hand = sym held ∙ is in
    let one : c.in-Some.hand ≡ hand = cc both in
    kept_off_as w c.args.who c.args.step hand is (next_for w c.args.who (Event c.args.step) hand is c.requires.next) c.requires.shown c.event_granted.result (c.event_granted.ensures ∙ ap (λ (h : InHand). event_granted w.cluster h.driver c.args.step) one) c.in-Err.maker c.in-Err.is)

pub refuse_step-requires-clause-shown : goal.refuse_step-requires-clause-shown
refuse_step-requires-clause-shown c = subst IsShown (sym (same_world c.args.self.now c.args.who (Some c.in-Some.hand) (c.at-slot.ensures.value ∙ c.in-Some.is))) c.requires.shown

pub refuse_step-requires-clause-roomy : goal.refuse_step-requires-clause-roomy
refuse_step-requires-clause-roomy c = subst HasNumbersLeft (sym (same_world c.args.self.now c.args.who (Some c.in-Some.hand) (c.at-slot.ensures.value ∙ c.in-Some.is))) c.requires.roomy

pub returns-in-Err : goal.returns-in-Err
returns-in-Err c =
    let refused = c.refuse_step.ensures in
    record {
      label = refused.label;
      labels = refused.labels;
      is = subst (λ (w : World). IsStep c.args.who w c.refuse_step.new.self refused.label) (same_world c.args.self.now c.args.who (Some c.in-Some.hand) (c.at-slot.ensures.value ∙ c.in-Some.is)) refused.is;
    }

pub apply-requires-clause-ready : goal.apply-requires-clause-ready
apply-requires-clause-ready c =
    let w = c.args.self.now in
    let hand = c.in-Some.hand in
    let held : hand_at w.hands c.args.who ≡ Some hand = c.at-slot.ensures.value ∙ c.in-Some.is in
    let granted = granted_ok w.cluster hand.driver c.args.step c.event_granted.result c.in-Ok.ckpt c.in-Ok.is (granted_at w c.args.who c.args.step hand held (next_for w c.args.who (Event c.args.step) hand held c.requires.next) c.requires.shown c.event_granted.result c.event_granted.ensures) in
    is_ready w c.args.who c.args.step hand held (next_for w c.args.who (Event c.args.step) hand held c.requires.next) c.requires.shown granted.0 c.requires.roomy

pub apply-requires-clause-free : goal.apply-requires-clause-free
apply-requires-clause-free c =
    let w = c.args.self.now in
    let hand = c.in-Some.hand in
    let held : hand_at w.hands c.args.who ≡ Some hand = c.at-slot.ensures.value ∙ c.in-Some.is in
    let granted = granted_ok w.cluster hand.driver c.args.step c.event_granted.result c.in-Ok.ckpt c.in-Ok.is (granted_at w c.args.who c.args.step hand held (next_for w c.args.who (Event c.args.step) hand held c.requires.next) c.requires.shown c.event_granted.result c.event_granted.ensures) in
    can_add w c.args.who c.args.step hand held (next_for w c.args.who (Event c.args.step) hand held c.requires.next) c.requires.shown granted.0

pub apply-requires-clause-found : goal.apply-requires-clause-found
apply-requires-clause-found c =
    let w = c.args.self.now in
    let hand = c.in-Some.hand in
    let held : hand_at w.hands c.args.who ≡ Some hand = c.at-slot.ensures.value ∙ c.in-Some.is in
    let granted = granted_ok w.cluster hand.driver c.args.step c.event_granted.result c.in-Ok.ckpt c.in-Ok.is (granted_at w c.args.who c.args.step hand held (next_for w c.args.who (Event c.args.step) hand held c.requires.next) c.requires.shown c.event_granted.result c.event_granted.ensures) in
    is_found w c.args.who c.args.step hand held (next_for w c.args.who (Event c.args.step) hand held c.requires.next) c.requires.shown c.in-Ok.ckpt granted.0 c.requires.roomy granted.1

pub settle-requires : goal.settle-requires
settle-requires c =
    let w = c.args.self.now in
    let hand = c.in-Some.hand in
    let held : hand_at w.hands c.args.who ≡ Some hand = c.at-slot.ensures.value ∙ c.in-Some.is in
    let granted = granted_ok w.cluster hand.driver c.args.step c.event_granted.result c.in-Ok.ckpt c.in-Ok.is (granted_at w c.args.who c.args.step hand held (next_for w c.args.who (Event c.args.step) hand held c.requires.next) c.requires.shown c.event_granted.result c.event_granted.ensures) in
    may_settle w.tables c.client_by-c.result _ c.at-table.ensures.value hand.op c.args.step
    (subst (λ n. CanSettle n hand.op c.args.step w.tables) (sym c.client_by-c.ensures) (can_settle w c.args.who c.args.step hand held (next_for w c.args.who (Event c.args.step) hand held c.requires.next) c.requires.shown granted.0 c.requires.roomy c.requires.has_room))

-- the memory for it is refused; all comes back as it was
pub refuse_step-requires-in_default-apply-clause-next : goal.refuse_step-requires-in_default-apply-clause-next
refuse_step-requires-in_default-apply-clause-next c = subst (λ (w : World). IsNext w c.args.who (Event c.args.step)) (sym (as_it_was c.args.self.now c.args.who (Some c.in-Some.hand) _ _ _ (c.at-slot.ensures.value ∙ c.in-Some.is) (when_not_ok _ c.apply.result c.in_default-apply.not-Ok c.apply.ensures.err))) c.requires.next

pub refuse_step-requires-in_default-apply-clause-refused : goal.refuse_step-requires-in_default-apply-clause-refused
refuse_step-requires-in_default-apply-clause-refused c =
    let w = c.args.self.now in
    let hand = c.in-Some.hand in
    let held : hand_at w.hands c.args.who ≡ Some hand = c.at-slot.ensures.value ∙ c.in-Some.is in
    let granted = granted_ok w.cluster hand.driver c.args.step c.event_granted.result c.in-Ok.ckpt c.in-Ok.is (granted_at w c.args.who c.args.step hand held (next_for w c.args.who (Event c.args.step) hand held c.requires.next) c.requires.shown c.event_granted.result c.event_granted.ensures) in
    subst (λ (w : World). (hand : InHand) → hand_at w.hands c.args.who ≡ Some hand → IsRefusedAs (event_refusal w.cluster c.args.step hand.driver) c.args.step NoMemory) (sym (as_it_was w c.args.who (Some hand) _ _ _ held (when_not_ok _ c.apply.result c.in_default-apply.not-Ok c.apply.ensures.err)))
    (λ other is.
    let both : Some hand ≡ Some other = sym held ∙ is in
    let one : hand ≡ other = cc both in
    subst (λ (o : Option Outcome). IsRefusedAs o c.args.step NoMemory) (sym granted.0 ∙ ap (λ (h : InHand). event_refusal w.cluster c.args.step h.driver) one) (when_not_ok _ c.apply.result c.in_default-apply.not-Ok c.apply.ensures.memory))

pub refuse_step-requires-in_default-apply-clause-shown : goal.refuse_step-requires-in_default-apply-clause-shown
refuse_step-requires-in_default-apply-clause-shown c = subst IsShown (sym (as_it_was c.args.self.now c.args.who (Some c.in-Some.hand) _ _ _ (c.at-slot.ensures.value ∙ c.in-Some.is) (when_not_ok _ c.apply.result c.in_default-apply.not-Ok c.apply.ensures.err))) c.requires.shown

pub refuse_step-requires-in_default-apply-clause-roomy : goal.refuse_step-requires-in_default-apply-clause-roomy
refuse_step-requires-in_default-apply-clause-roomy c = subst HasNumbersLeft (sym (as_it_was c.args.self.now c.args.who (Some c.in-Some.hand) _ _ _ (c.at-slot.ensures.value ∙ c.in-Some.is) (when_not_ok _ c.apply.result c.in_default-apply.not-Ok c.apply.ensures.err))) c.requires.roomy

pub returns-in_default-apply : goal.returns-in_default-apply
returns-in_default-apply c =
    let refused = c.refuse_step-in_default-apply.ensures in
    record {
      label = refused.label;
      labels = refused.labels;
      is = subst (λ (w : World). IsStep c.args.who w c.refuse_step-in_default-apply.new.self refused.label) (as_it_was c.args.self.now c.args.who (Some c.in-Some.hand) _ _ _ (c.at-slot.ensures.value ∙ c.in-Some.is) (when_not_ok _ c.apply.result c.in_default-apply.not-Ok c.apply.ensures.err)) refused.is;
    }

-- behind the apply, where it takes place
pub free_gone_since-requires : goal.free_gone_since-requires
free_gone_since-requires c =
    let w = c.args.self.now in
    let hand = c.in-Some.hand in
    let record_is : c.apply.new.cluster ≡ event_after hand.call hand.driver c.args.step w.cluster = c.in-Ok-apply.ensures.ok in
    let nodes_are : c.apply.new.nodes ≡ nodes_behind hand.driver c.args.step w.cluster w.nodes = c.in-Ok-apply.ensures.nodes in
    let snapshots_are : c.apply.new.snapshots ≡ snapshots_behind hand.driver c.args.step w.cluster w.snapshots = c.in-Ok-apply.ensures.snapshots in
    record {
      none = λ same. none_freed w c.let_go_with.new.self hand.call hand.driver c.args.step c.gone_by-before.result c.requires.shown
          (ap (λ (x : World). x.cluster) c.let_go_with.ensures ∙ record_is) (ap (λ (x : World). x.nodes) c.let_go_with.ensures ∙ nodes_are) (ap (λ (x : World). x.snapshots) c.let_go_with.ensures ∙ snapshots_are)
          c.gone_by-before.ensures same;
    }

pub returns : goal.returns
returns c =
    let w = c.args.self.now in
    let hand = c.in-Some.hand in
    let held : hand_at w.hands c.args.who ≡ Some hand = c.at-slot.ensures.value ∙ c.in-Some.is in
    let granted = granted_ok w.cluster hand.driver c.args.step c.event_granted.result c.in-Ok.ckpt c.in-Ok.is (granted_at w c.args.who c.args.step hand held (next_for w c.args.who (Event c.args.step) hand held c.requires.next) c.requires.shown c.event_granted.result c.event_granted.ensures) in
    let next = next_for w c.args.who (Event c.args.step) hand held c.requires.next in
    let record_is : c.apply.new.cluster ≡ event_after hand.call hand.driver c.args.step w.cluster = c.in-Ok-apply.ensures.ok in
    let nodes_are : c.apply.new.nodes ≡ nodes_behind hand.driver c.args.step w.cluster w.nodes = c.in-Ok-apply.ensures.nodes in
    let snapshots_are : c.apply.new.snapshots ≡ snapshots_behind hand.driver c.args.step w.cluster w.snapshots = c.in-Ok-apply.ensures.snapshots in
    let eight : length w.nodes ≡ 8 = sym (ap length nodes_are ∙ length-behind hand.driver c.args.step w.cluster w.nodes) ∙ sym (ap (λ (x : World). length x.nodes) c.let_go_with.ensures) ∙ c.free_gone_since.ensures.eight in
    let there = c.at-table.ensures.value in
    let tables_are = ap (slice_set w.tables c.client_by-c.result) c.settle.ensures ∙ settled_is w.tables c.client_by-c.result _ there c.apply.new.cluster hand.op c.args.step c.in-Ok.ckpt in
    let closed_is = c.handle_closed-closed.ensures ∙ ap (handle_closed (asked hand.op)) (sym (kept_is w.tables c.client_by-c.result _ there)) in
    let new_is = c.end_alone.ensures ∙ ap (ended_at c.args.who c.take_done-end.result) (c.free_gone_since.ensures.new ∙ ap freed_world c.let_go_with.ensures) in
    record {
      label = _;
      labels = c.push.ensures.labels;
      is = subst (λ (label : Label). IsStep c.args.who w c.end_alone.new.self label) (sym c.stepped.ensures)
          (event_step w c.args.who c.args.step hand held next c.requires.shown c.end_alone.new.self c.apply.new.cluster c.apply.new.nodes c.apply.new.snapshots (slice_set w.tables c.client_by-c.result c.settle.new.table) c.take_done-end.new.self c.let_go.new.slot c.client_by-c.result c.handle_closed-closed.result c.word-op.result c.verb-verb.result c.in-Ok.ckpt c.event_node-node.result c.take_done-end.result
          granted.0 c.requires.plain c.requires.roomy c.requires.has_room eight record_is granted.1 c.event_node-node.ensures (c.take_done-end.ensures.outcome ∙ done_ends w c.args.who c.args.step hand held next c.requires.shown (plain_completes c.args.step c.requires.plain) granted.0 c.apply.new.cluster c.in-Ok.ckpt record_is granted.1) tables_are
          (c.take_done-end.ensures.new ∙ done_keeps w c.args.who c.args.step hand held next c.requires.shown granted.0 c.apply.new.cluster c.in-Ok.ckpt c.event_node-node.result record_is granted.1 c.event_node-node.ensures) c.let_go.ensures nodes_are snapshots_are c.client_by-c.ensures closed_is new_is c.word-op.ensures c.verb-verb.ensures);
    }
