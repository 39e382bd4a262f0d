-- What is so of a call in hand of a node: it is a copying, so it is live, and its node is up.
use Rattle.std.proofs.Common.{◌≡◌, ℕ, true, false, not, sym, ap, subst, ◌∙◌}
use Rattle.std.proofs.lemmas.Bool.{and_parts}
use Rattle.std.specs.Prelude.{nat_lt, slice_index}
use Rattle.ckpt_types.specs.declared.identities.ActorName.TheVariants.{Node}
use Rattle.ckpt_types.specs.declared.identities.Who.{Who}
use Rattle.ckpt_types.specs.Asks.{MayAsk, asked}
use Rattle.cluster_record.specs.RecordState.{is_live, is_up}
use Rattle.ckpt_machine.specs.Dead.{is_enter}
use Rattle.ckpt_machine.specs.Due.{driver_of}
use Rattle.ckpt_machine.specs.InHand.{IsInHand}
use Rattle.ckpt_machine.specs.Machine.{Machine, CallState}
use Rattle.ckpt_machine.specs.Shape.{Shape}
use Rattle.ckpt_machine.proofs.Askers.{asker_node, copy_ask}
use Rattle.ckpt_machine.proofs.Lives.{asks_enter, state_enters}

module _ (m : Machine) (shapes : ℕ → Shape) (w : Who) (z : CallState) (at : IsInHand m shapes w z) (r : ℕ) (node : z.call.actor ≡ Node r) where
  -- it is no Initialize
  pub node_no_enter : is_enter (driver_of z) ≡ false
  node_no_enter = state_enters z at.driven ∙ ap asks_enter (copy_ask (asked z.op) (asker_node r (asked z.op) (subst (λ a. MayAsk a (asked z.op)) node at.asker)))

  pub node_lives : is_live m.cluster z.call ≡ true
  node_lives = at.live node_no_enter

  pub node_is_up : is_up r m.cluster ≡ true
  node_is_up =
      let same : z.call ≡ record { actor = Node r; number = z.call.number } = (λ i. record { actor = node i; number = z.call.number }) in
      let parts : (is_up r m.cluster ≡ true) × (not (nat_lt z.call.number (slice_index m.cluster.first_calls r)) ≡ true) = and_parts (is_up r m.cluster) (not (nat_lt z.call.number (slice_index m.cluster.first_calls r))) (ap (is_live m.cluster) (sym same) ∙ node_lives) in
      parts.0
