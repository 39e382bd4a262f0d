-- Which step of a node's copying is next: its node is one of eight, and its only step of the record is its node's own completion.
use Rattle.std.proofs.Common.{◌≡◌, ℕ, ◌<◌, ℤ, refl, sym, ap, subst, ◌∙◌}
use Rattle.std.specs.Prelude.{Option, Some}
use Rattle.ckpt_types.specs.declared.identities.ActorName.TheVariants.{Node}
use Rattle.ckpt_types.specs.declared.identities.Who.TheVariants.{Actor}
use Rattle.ckpt_types.specs.Asks.{MayAsk, asked}
use Rattle.node_msgs.specs.declared.next.Next.{Next}
use Rattle.node_msgs.specs.declared.next.Next.TheVariants.{Event}
use Rattle.node_msgs.specs.declared.next.RecordStep.{RecordStep}
use Rattle.node_msgs.specs.declared.next.RecordStep.TheVariants as events
use Rattle.cluster_record.specs.DueCopy.{CopyState, node_of}
use Rattle.cluster_record.specs.RecordState.{entry_of}
use Rattle.ckpt_machine.specs.Drivers.{Driver, Rooms}
use Rattle.ckpt_machine.specs.Drivers as drivers
use Rattle.ckpt_machine.specs.Driving.{driver_next}
use Rattle.ckpt_machine.specs.Facts.{Facts, IsCompletable, IsEventReady}
use Rattle.ckpt_machine.specs.Machine.{CallState, Machine}
use Rattle.ckpt_machine.proofs.Askers.{asker_node, node_within}
use Rattle.ckpt_machine.proofs.OptionLemmas.{IsSomeAnd-at}
use Rattle.client_calls.specs.Names.{client_by}
use Rattle.client_calls.specs.declared.in_hand.InHand.{InHand}
use Rattle.world_core.specs.declared.world.World.{World}
use Rattle.world_core.specs.HandsState.{hand_at}
use Rattle.world_core.specs.Happenings.{IsNext, rooms_at}
use Rattle.world_core.specs.Shows.{History, IsShown, machine_of}
use Rattle.world_core.proofs.CallSteps.{known}
use Rattle.world_core.proofs.Held.{actor_is, asker_is, copy_drives, driver_is, due_is, in_hand_is, state_in}

-- what is next for a copying depends on no rooms
pub copying_next : (w : World) (r : ℕ) (hand : InHand) (next : Next) → hand_at w.hands (Actor (Node r)) ≡ Some hand → ((rooms : Rooms) → next ≡ driver_next w.cluster rooms hand.driver) → IsNext w (Actor (Node r)) next
copying_next w r hand next held is = record { hand = hand; held = held; next_is = sym (is (rooms_at w (client_by (Actor (Node r))))) }

-- a completion of this node
abbrev IsCompletionOf : ℕ → RecordStep → Type 0
IsCompletionOf r (events.Complete k q moment) = q ≡ r
IsCompletionOf r step = ⊥

module _ (w : World) (r : ℕ) (shown : IsShown w) (next : Next) (its : IsNext w (Actor (Node r)) next) where
  abbrev h : History
  h = shown.shows.history

  abbrev hand : InHand
  hand = its.hand

  abbrev m : Machine
  m = machine_of w h

  abbrev s : CallState
  s = state_in h (Actor (Node r)) hand

  abbrev facts : Facts m
  facts = (known w shown).facts

  actor : hand.call.actor ≡ Node r
  actor = actor_is w h (Actor (Node r)) hand its.held facts

  asker : MayAsk (Node r) (asked hand.op)
  asker = subst (λ a. MayAsk a (asked hand.op)) actor (asker_is w h (Actor (Node r)) hand its.held facts)

  -- its node is one of eight
  pub copies_within : r < 8
  copies_within = node_within r (asked hand.op) asker

  -- a step of the record
  module _ (step : RecordStep) (is : next ≡ Event step) where
    ready : (c : CopyState) × IsEventReady m s (drivers.Copy c) step
    ready =
        let fits = (known w shown).fits in
        let (c, driven) = copy_drives w h (Actor (Node r)) hand its.held facts fits (asker_node r (asked hand.op) asker) in
        let due_here = due_is w h (Actor (Node r)) hand its.held facts fits (Event step) (its.next_is ∙ is) in
        (c, subst (λ (x : Driver). IsEventReady m s x step) (sym (driver_is w h (Actor (Node r)) hand its.held fits) ∙ driven) (facts.events (Actor (Node r)) s step (in_hand_is w h (Actor (Node r)) hand its.held) due_here))

    by_step : (step : RecordStep) (c : CopyState) → IsEventReady m s (drivers.Copy c) step → IsCompletionOf r step
    by_step (events.Complete k q moment) c is_ready =
        let (e, at, can) = IsSomeAnd-at (entry_of k m.cluster.entries) (IsCompletable m s k q moment) is_ready.4 in
        let own : hand.call.actor ≡ Node q = can.own in
        ap node_of (sym own ∙ actor)
    by_step step c is_ready = absurd is_ready

    pub is_completion : IsCompletionOf r step
    is_completion = by_step step ready.0 ready.1

-- ---- as the code names them

-- its step of the record
module _ (w : World) (r : ℕ) (step : RecordStep) (shown : IsShown w) (its : IsNext w (Actor (Node r)) (Event step)) where
  its_own : IsCompletionOf r step
  its_own = is_completion w r shown (Event step) its step refl

  -- it is a completion of the node
  pub completes_own : (k q : ℕ) (moment : Option ℤ) → step ≡ events.Complete k q moment → IsNext w (Actor (Node r)) (Event (events.Complete k r moment))
  completes_own k q moment is =
      let own : q ≡ r = subst (IsCompletionOf r) is its_own in
      subst (λ (n : Next). IsNext w (Actor (Node r)) n) (ap Event is ∙ ap (λ n. Event (events.Complete k n moment)) own) its

  -- and no other step
  pub no_other : ((k q : ℕ) (moment : Option ℤ) → step ≡ events.Complete k q moment → ⊥) → ⊥
  no_other other = by_step step its_own other where
    by_step : (x : RecordStep) → IsCompletionOf r x → ((k q : ℕ) (moment : Option ℤ) → x ≡ events.Complete k q moment → ⊥) → ⊥
    by_step (events.Complete k q moment) own other = other k q moment refl
    by_step x own other = own
