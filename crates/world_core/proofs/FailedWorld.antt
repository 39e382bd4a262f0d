-- The failure of a node: how the world shows it.
use Rattle.std.proofs.Common.{◌≡◌, ℕ, ◌<◌, Bool, true, false, Option, Some, None, refl, sym, ap, subst, ◌∙◌}
use Rattle.std.specs.Option.{option_map}
use Rattle.std.specs.Prelude.{if◌then◌else◌, ◌==◌}
use Rattle.ckpt_types.specs.Asks.{asked}
use Rattle.ckpt_types.specs.Limits.{nodes_max}
use Rattle.ckpt_types.specs.OpWord.{is_async, word_of_op}
use Rattle.ckpt_types.specs.declared.identities.ActorName.{ActorName}
use Rattle.ckpt_types.specs.declared.identities.ActorName.TheVariants.{Client, Node}
use Rattle.ckpt_types.specs.declared.identities.CallId.{CallId}
use Rattle.ckpt_types.specs.declared.identities.Who.{Who}
use Rattle.ckpt_types.specs.declared.identities.Who.TheVariants.{Actor, Call}
use Rattle.call_dispatch.specs.PendingCalls.{no_pending}
use Rattle.client_handles.specs.ClientState.{emptied}
use Rattle.cluster_record.specs.Counts.{count_told}
use Rattle.cluster_record.specs.Failing.{failed, TellsOthers}
use Rattle.cluster_record.specs.RecordReady.{CanSetActive}
use Rattle.cluster_record.specs.RecordState.{entry_of, is_up, swept}
use Rattle.cluster_record.specs.declared.entries.Entry.{Entry}
use Rattle.run_labels.specs.declared.labels.Label.TheVariants as labels
use Rattle.ckpt_machine.specs.CountsTold.{counts_of}
use Rattle.ckpt_machine.specs.Due.{IsDue, count_in}
use Rattle.ckpt_machine.specs.Facts.{Facts}
use Rattle.ckpt_machine.specs.Failing.{enters_on, failed_at, is_of_node, replica_left, unless_abandoned}
use Rattle.ckpt_machine.specs.Machine.{Machine}
use Rattle.ckpt_machine.specs.Under.{replicas_under, reservation_under, with_record}
use Rattle.ckpt_machine.proofs.FailedCounts.{count_is, tells_others}
use Rattle.ckpt_machine.proofs.FailedNodes.{then_effects, replicas_left, fits_left, reserved_left, holds_left}
use Rattle.client_calls.specs.declared.in_hand.InHand.{InHand}
use Rattle.ckpt_machine.specs.Holding.{HoldsOnlyWhatStands}
use Rattle.world_core.specs.Backgrounds.{HaveRooms}
use Rattle.world_core.specs.Failing.{failed_world, record_left}
use Rattle.world_core.specs.HandsState.{hand_at}
use Rattle.world_core.specs.Happenings.{Fails}
use Rattle.world_core.specs.Shows.{Does, FitsHand, HasNumbersLeft, History, HistoryFits, IsShown, machine_of, next_of, shown_hand}
use Rattle.world_core.specs.declared.world.World.{World}
use Rattle.world_core.proofs.FailedParts.{tables_are, pending_are, next_left, rooms_then, no_enter, hand_left_at, shown_abandoned, fits_abandoned, snapshots_are, rooms_are}
use Rattle.world_core.proofs.Freeing.{fits_left as copies_fit}
use Rattle.world_core.proofs.Held.{in_hand_is, state_in}

-- the machine behind it, by these counts
abbrev failed_by : (ℕ → ℕ → ℕ) → ℕ → Machine → Machine
failed_by counts r m = let R = swept (failed counts r m.cluster) in record (with_record m R) {
  replicas = λ k q. option_map (replica_left R k q) (replicas_under m.cluster R m.replicas k q);
  reserved = λ k q. if q == r then None else reservation_under (entry_of k R.entries) q (m.reserved k q);
  tables = λ a. if is_of_node m.cluster r a then emptied (m.tables a) else m.tables a;
  pending = λ a. if is_of_node m.cluster r a then no_pending else m.pending a;
  in_hand = λ w. unless_abandoned m.cluster r (m.in_hand w);
}

module _ (w : World) (r : ℕ) (h : History) (fits : HistoryFits w h) (facts : Facts (machine_of w h)) (holds : HoldsOnlyWhatStands w.cluster w.nodes) (keeps : HaveRooms w.cluster.entries w.snapshots) where
  -- the counts that are told
  abbrev told : ℕ → ℕ → ℕ
  told = count_told (counts_of w.nodes w.cluster.entries)

  -- the history behind it: a weak write that was cut short counts
  abbrev pub then_history : History
  then_history = record h { effects = then_effects told r w.cluster w.nodes facts.rises holds h.effects h.origins }

  -- what is told is what the machine counts
  told_is : (λ k q. count_in ((machine_of w h).replicas k q)) ≡ told
  told_is = λ i k q. sym (count_is w.nodes w.cluster facts.rises h.effects h.origins fits.replicas k q) i

  -- an asynchronous call is no Initialize
  alone : (call : CallId) (hand : InHand) → hand_at w.hands (Call call) ≡ Some hand → enters_on r (asked hand.op) ≡ false
  alone call hand held = no_enter r hand.op (by_name (is_async (word_of_op hand.op)) (facts.callers (Call call) (state_in h (Call call) hand) (in_hand_is w h (Call call) hand held)))
    where
      by_name : (b : Bool) → (if b then Call hand.call else Actor hand.call.actor) ≡ Call call → b ≡ true
      by_name true is = refl
      by_name false is = absurd (cc is)

  -- what is in hand behind it
  hands_are : (v : Who) → unless_abandoned w.cluster r ((machine_of w h).in_hand v) ≡ (machine_of (failed_world r w) then_history).in_hand v
  hands_are v =
      shown_abandoned w.cluster r (h.beginnings v) (h.steps v) (h.created v) (h.pulled v) (hand_at w.hands v)
      ∙ ap (shown_hand (h.beginnings v) (h.steps v) (h.created v) (h.pulled v)) (sym (hand_left_at w.cluster r w.hands alone v))

  -- the numbers of the next calls stay
  next_are : (a : ActorName) → next_of w a ≡ next_of (failed_world r w) a
  next_are (Client c) = next_left w.cluster r w.tables c
  next_are (Node q) = refl

  -- the machine behind it is the one that the world shows
  pub failed_is : failed_at r (machine_of w h) ≡ machine_of (failed_world r w) then_history
  failed_is =
      ap (λ counts. failed_by counts r (machine_of w h)) told_is
      ∙ (λ i. record (machine_of (failed_world r w) then_history) {
        replicas = λ k q. replicas_left told r w.cluster w.nodes facts.rises holds h.effects h.origins k q i;
        reserved = λ k q. reserved_left told r w.cluster w.nodes facts.rises holds k q i;
        snapshots = λ k. snapshots_are told r w.cluster w.snapshots facts.rises keeps k (h.copied k) i;
        tables = λ a. tables_are w.cluster r w.tables a i;
        pending = λ a. pending_are w.cluster r w.tables a i;
        next = λ a. next_are a i;
        in_hand = λ v. hands_are v i;
      })

  -- and the history fits
  pub failed_fits : HistoryFits (failed_world r w) then_history
  failed_fits = record {
    replicas = fits_left told r w.cluster w.nodes facts.rises holds h.effects h.origins fits.replicas;
    copies = λ k. copies_fit (record_left r w).entries w.snapshots k (h.copied k) (fits.copies k);
    hands = λ v. subst (FitsHand (h.beginnings v) (h.steps v) (h.created v) (h.pulled v)) (sym (hand_left_at w.cluster r w.hands alone v)) (fits_abandoned w.cluster r (h.beginnings v) (h.steps v) (h.created v) (h.pulled v) (hand_at w.hands v) (fits.hands v));
  }

-- ---- the label

-- a node that is up fails
pub failed_does : (w : World) (r : ℕ) → r < nodes_max → is_up r w.cluster ≡ true → Does w (failed_world r w) (labels.Failed r true)
failed_does w r node up = record {
  due_is = λ m s f. subst (λ (m : Machine). IsDue m (labels.Failed r true)) (sym s.same) (node, up);
  shows = λ m s f. let facts = subst Facts s.same f in record {
    history = then_history w r s.history s.fits facts s.holds s.keeps;
    same = ap (failed_at r) s.same ∙ failed_is w r s.history s.fits facts s.holds s.keeps;
    fits = failed_fits w r s.history s.fits facts s.holds s.keeps;
    holds = holds_left (count_told (counts_of w.nodes w.cluster.entries)) r w.cluster w.nodes facts.rises s.holds facts.led;
    keeps = rooms_are (count_told (counts_of w.nodes w.cluster.entries)) r w.cluster w.snapshots facts.rises s.keeps;
    rooms = rooms_then w.cluster r w.tables (count_told (counts_of w.nodes w.cluster.entries)) s.rooms;
  };
}

-- of one that is not the label says so
pub down_does : (w : World) (r : ℕ) → r < nodes_max → is_up r w.cluster ≡ false → Does w w (labels.Failed r false)
down_does w r node down = record {
  due_is = λ m s f. subst (λ (m : Machine). IsDue m (labels.Failed r false)) (sym s.same) (node, down);
  shows = λ m s f. s;
}

-- a node fails, where it is up, with the label as the code names it
pub fails : (w : World) (r : ℕ) (was_up : Bool) (behind : World) → r < nodes_max → was_up ≡ is_up r w.cluster → (was_up ≡ true → behind ≡ failed_world r w) → (was_up ≡ false → behind ≡ w) → Fails r w behind (labels.Failed r was_up)
fails w r true behind node is up down = record {
  label_is = ap (labels.Failed r) is;
  moment = ap (λ (w : World). w.cluster.moment) (up refl);
  does = subst (λ (v : World). Does w v (labels.Failed r true)) (sym (up refl)) (failed_does w r node (sym is));
}
fails w r false behind node is up down = record {
  label_is = ap (labels.Failed r) is;
  moment = ap (λ (w : World). w.cluster.moment) (down refl);
  does = subst (λ (v : World). Does w v (labels.Failed r false)) (sym (down refl)) (down_does w r node (sym is));
}

-- ---- what the code asks

-- the counts of the replicas are told, one of each
pub shown_tells : (w : World) (r : ℕ) → IsShown w → TellsOthers (counts_of w.nodes w.cluster.entries) r w.cluster.entries
shown_tells w r shown = tells_others w.nodes r w.cluster.entries (subst Facts shown.shows.same shown.facts).rises

-- each generation can rise
pub shown_can_rise : (w : World) → HasNumbersLeft w → (k : ℕ) → CanSetActive (entry_of k w.cluster.entries)
shown_can_rise w roomy k = by_entry (entry_of k w.cluster.entries) refl where
  by_entry : (o : Option Entry) → entry_of k w.cluster.entries ≡ o → CanSetActive o
  by_entry None is = tt
  by_entry (Some e) is = roomy.generations k e is
