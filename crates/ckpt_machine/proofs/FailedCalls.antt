-- Which calls are left in hand behind the failure of a node, and which are dead.
use Rattle.std.proofs.Common.{◌≡◌, ℕ, Option, Some, None, Bool, true, false, cond, ◌||◌, refl, sym, ap, ◌∙◌}
use Rattle.std.proofs.lemmas.Bool.{or_parts}
use Rattle.std.proofs.lemmas.Option.{same_Some}
use Rattle.ckpt_types.specs.declared.identities.CallId.{CallId}
use Rattle.ckpt_types.specs.declared.identities.Who.{Who}
use Rattle.ckpt_types.specs.Asks.{Ask, asked}
use Rattle.ckpt_types.specs.Asks as asking
use Rattle.cluster_record.specs.RecordState.{is_live}
use Rattle.ckpt_machine.specs.Dead.{IsDead, is_enter}
use Rattle.ckpt_machine.specs.Invariant.{InvariantIn}
use Rattle.ckpt_machine.specs.Machine.{Machine, CallState}
use Rattle.ckpt_machine.specs.Shape.{Shape}
use Rattle.ckpt_machine.specs.Failing.{is_of_node, enters_on, is_abandoned, unless_abandoned, failed_at}
use Rattle.ckpt_machine.specs.Due.{IsDriven, driver_of, count_in}
use Rattle.ckpt_machine.proofs.Lives.{asks_enter, state_enters}
use Rattle.ckpt_machine.proofs.FailedClients.{live_gone, live_staying, dead_then}

module _ (m : Machine) (shapes : ℕ → Shape) (inv : InvariantIn shapes m) (r : ℕ) where
  -- the machine behind the failure
  abbrev pub n : Machine
  n = failed_at r m

  -- how many updates the replicas have
  abbrev counts : ℕ → ℕ → ℕ
  counts k q = count_in (m.replicas k q)

  -- ---- hands

  -- a call that is left was in hand, and is not abandoned
  pub left_is : (w : Who) (z : CallState) → n.in_hand w ≡ Some z → (m.in_hand w ≡ Some z) × (is_abandoned m.cluster r z.call z.op ≡ false)
  left_is w z left = go (m.in_hand w) refl left
    where
      go : (o : Option CallState) → m.in_hand w ≡ o → unless_abandoned m.cluster r o ≡ Some z → (m.in_hand w ≡ Some z) × (is_abandoned m.cluster r z.call z.op ≡ false)
      go None none left = absurd (cc left)
      go (Some s) there left = elim (is_abandoned m.cluster r s.call s.op) as (λ b. is_abandoned m.cluster r s.call s.op ≡ b → cond b None (Some s) ≡ Some z → (m.in_hand w ≡ Some z) × (is_abandoned m.cluster r z.call z.op ≡ false)) [
        | true ↦ λ is gone. absurd (cc gone)
        | false ↦ λ is stays. (there ∙ stays, ap (λ (y : CallState). is_abandoned m.cluster r y.call y.op) (sym (same_Some s z stays)) ∙ is)
      ] refl left

  -- one that is not abandoned is left
  pub still : (w : Who) (z : CallState) → m.in_hand w ≡ Some z → is_abandoned m.cluster r z.call z.op ≡ false → n.in_hand w ≡ Some z
  still w z there stays = ap (unless_abandoned m.cluster r) there ∙ ap (λ b. cond b None (Some z)) stays

  -- of a call that is left: its client stays
  pub left_stays : (z : CallState) → is_abandoned m.cluster r z.call z.op ≡ false → is_of_node m.cluster r z.call.actor ≡ false
  left_stays z is = (or_parts (is_of_node m.cluster r z.call.actor) (enters_on r (asked z.op)) is).0

  -- nor is it an Initialize that names the node
  pub left_enters : (z : CallState) → is_abandoned m.cluster r z.call z.op ≡ false → enters_on r (asked z.op) ≡ false
  left_enters z is = (or_parts (is_of_node m.cluster r z.call.actor) (enters_on r (asked z.op)) is).1

  -- ---- who is dead

  -- who was dead is
  pub IsDead-then : (call : CallId) → IsDead m call → IsDead n call
  IsDead-then call dead = record {
    begun = dead.begun;
    gone = dead_then counts r m.cluster call dead.gone;
    before = λ w z left same enter. dead.before w z (left_is w z left).0 same enter;
  }

  -- a call that is in hand is live
  pub in_hand_live : (w : Who) (s : CallState) → m.in_hand w ≡ Some s → is_enter (driver_of s) ≡ false → is_live m.cluster s.call ≡ true
  in_hand_live w s held other = (inv.hands w s held).live other

  -- and dead behind the failure where its actor goes
  pub abandoned_dead : (w : Who) (s : CallState) → m.in_hand w ≡ Some s → is_of_node m.cluster r s.call.actor ≡ true → IsDead n s.call
  abandoned_dead w s held goes = record {
    begun = (inv.hands w s held).number;
    gone = live_gone counts r m.cluster s.call goes;
    before = λ v z left same enter. absurd (let other : true ≡ false = sym goes ∙ ap (is_of_node m.cluster r) (sym same) ∙ left_stays z (left_is v z left).1 in cc other);
  }

  -- what is driven by anything but an Initialize names no node
  pub names_none : (s : CallState) → IsDriven s → is_enter (driver_of s) ≡ false → enters_on r (asked s.op) ≡ false
  names_none s driven other = by_ask (asked s.op) (sym (state_enters s driven) ∙ other)
    where
      by_ask : (ask : Ask) → asks_enter ask ≡ false → enters_on r ask ≡ false
      by_ask (asking.Enter q version callbacks) enters = absurd (cc enters)
      by_ask ask other = refl

  -- what asks for anything but to become live is abandoned with its client alone
  pub by_client : (s : CallState) → enters_on r (asked s.op) ≡ false → is_abandoned m.cluster r s.call s.op ≡ is_of_node m.cluster r s.call.actor
  by_client s no_enter = ap (λ b. is_of_node m.cluster r s.call.actor || b) no_enter ∙ or_none (is_of_node m.cluster r s.call.actor)
    where
      or_none : (b : Bool) → (b || false) ≡ b
      or_none true = refl
      or_none false = refl

  -- a call that is live behind the failure is of an actor that stays
  pub live_left : (s : CallState) → is_live n.cluster s.call ≡ true → is_of_node m.cluster r s.call.actor ≡ false
  live_left s live = by_test (is_of_node m.cluster r s.call.actor) refl
    where
      by_test : (b : Bool) → is_of_node m.cluster r s.call.actor ≡ b → is_of_node m.cluster r s.call.actor ≡ false
      by_test false stays = stays
      by_test true goes = absurd (let w : true ≡ false = sym live ∙ live_gone counts r m.cluster s.call goes in cc w)

  -- and one that was live and is not is abandoned
  pub gone_abandoned : (s : CallState) → is_live m.cluster s.call ≡ true → is_live n.cluster s.call ≡ false → is_abandoned m.cluster r s.call s.op ≡ true
  gone_abandoned s live gone = by_test (is_of_node m.cluster r s.call.actor) refl
    where
      by_test : (b : Bool) → is_of_node m.cluster r s.call.actor ≡ b → is_abandoned m.cluster r s.call s.op ≡ true
      by_test true goes = ap (λ b. b || enters_on r (asked s.op)) goes
      by_test false stays = absurd (let w : true ≡ false = sym live ∙ sym (live_staying counts r m.cluster s.call stays) ∙ gone in cc w)
