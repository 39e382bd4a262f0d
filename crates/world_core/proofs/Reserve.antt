-- A reservation: the node takes the storage of a replica, or is refused the memory.
use Rattle.std.proofs.Common.{◌≡◌, ◌⊎◌, inl, inr, ℕ, ◌<◌, Bool, true, false, cond, List, length, refl, sym, ap, subst, ◌∙◌}
use Rattle.std.specs.Option.{option_map}
use Rattle.std.specs.Prelude.{Option, Some, None, is_some, not, ◌&&◌, slice_get, slice_set}
use Rattle.ckpt_types.specs.Asks.{asked}
use Rattle.ckpt_types.specs.declared.answers.Answer.TheVariants as answers
use Rattle.ckpt_types.specs.declared.answers.Outcome.{Outcome}
use Rattle.node_msgs.specs.declared.requests.Request.TheVariants.{Reserve}
use Rattle.node_msgs.specs.declared.replies.Reply.{Reply}
use Rattle.node_msgs.specs.declared.replies.Reply.TheVariants.{Done, NoMemory}
use Rattle.node_msgs.specs.declared.next.Next.TheVariants.{Serve}
use Rattle.node_msgs.specs.declared.steps.Verb.TheVariants as verbs
use Rattle.client_calls.specs.declared.in_hand.InHand.{InHand}
use Rattle.cluster_record.specs.declared.entries.Entry.{Entry}
use Rattle.replica.specs.Replicas.{Replica, opened_replica}
use Rattle.world_core.specs.declared.world.World.{World}
use Rattle.cluster_record.specs.Places.{list_or}
use Rattle.cluster_record.specs.RecordState.{RecordState, entry_of}
use Rattle.snap_copy.specs.Snapshots as copies
use Rattle.node_core.specs.Payloads.{Payload}
use Rattle.node_core.specs.Seen.{entry_seen, record_seen}
use Rattle.node_core.specs.Nodes.{reserved_for, MayReserve}
use Rattle.ckpt_machine.specs.Nodes.{nodes_after, replica_in}
use Rattle.cluster_record.specs.StepDone.{counting, count_told, done_of}
use Rattle.node_msgs.specs.Steps.{word_of}
use Rattle.ckpt_machine.specs.Driving.{Kept, driver_next, driver_taken, driver_end}
use Rattle.ckpt_machine.specs.After.{changed, pulled_by}
use Rattle.ckpt_machine.specs.Drivers.{Driver, Rooms}
use Rattle.ckpt_machine.specs.Drivers as drivers
use Rattle.ckpt_machine.specs.Due.{IsDriven, driver_of, ended_details, payload_due}
use Rattle.ckpt_machine.specs.Machine.{CallState, Effect, Snapshot}
use Rattle.ckpt_machine.specs.Seen.{seen_at}
use Rattle.ckpt_machine.specs.Tables.{takes_copy}
use Rattle.ckpt_machine.proofs.AskedFor.{DrivesFor, state_drives}
use Rattle.ckpt_machine.proofs.Askers.{IsCopyAsk, kept_still}
use Rattle.ckpt_machine.proofs.NextOf.{IsNoMaker, reserved_by}
use Rattle.world_core.specs.Happenings.{rooms_at}
use Rattle.ckpt_machine.specs.Facts.{IsReservable, IsServable}
use Rattle.world_core.specs.Shows.{Does, HistoryFits, History, machine_of}
use Rattle.ckpt_machine.specs.Shown.{FitsReplica, shown_copy, shown_replica}
use Rattle.ckpt_machine.proofs.OptionLemmas.{IsSomeAnd-at}
use Rattle.world_core.proofs.Held.{state_in, in_hand_is, driver_is, IsCopyBehind, copy_stays}
use Rattle.world_core.proofs.MadeIds.{made_stays}
use Rattle.world_core.proofs.LiveRooms.{rooms_ended}
use Rattle.ckpt_machine.proofs.HoldingLaws.{opening_there, holds_served}
use Rattle.ckpt_machine.proofs.NodeMaps.{set_again}
use Rattle.cluster_record.proofs.Places.{there_is}
use Rattle.world_core.proofs.Finding as finding
use Rattle.world_core.proofs.Serve.{behind, its_end, its_details, its_copy, replica_there, served_world, served_label}
use Rattle.world_core.proofs.CallSteps.{IsKnown, known_by, pulled_by_client, step_before}
use Rattle.world_core.specs.HandsState.{hand_at}
use Rattle.client_calls.specs.Names.{client_by}
use Rattle.ckpt_types.specs.declared.identities.Who.{Who}
use Rattle.world_core.proofs.Freeing.{does_before}
use Rattle.ckpt_machine.proofs.Reserving.{complete_same, copy_kept, none_read, only_this, reserve_answers, reserved_at, reserved_here, reserved_more, stands_alike}

-- ---- the step

module _ (w : World) (v : Who) (r k : ℕ) (hand : InHand) (p : Payload) (reply : Reply) (held : hand_at w.hands v ≡ Some hand) (next : driver_next w.cluster (rooms_at w (client_by v)) hand.driver ≡ Serve r (Reserve k)) (two : (reply ≡ Done answers.Nothing) ⊎ (reply ≡ NoMemory)) (within : r < length w.nodes) where
  -- neither answer tells a count
  pub no_count : 0 ≡ count_told reply
  no_count = elim two [ inl done ↦ ap count_told (sym done) | inr refused ↦ ap count_told (sym refused) ]

  -- what the step has changed with this reply, where the nodes have this then
  pub record Reserves (answer : Reply) (nodes : List (List Replica)) (h : History) : Type 0 where
    pub change : changed (machine_of w h) (state_in h v hand) verbs.Reserve (Some k) (Some r) (word_of answer) ≡ machine_of (record w { nodes = nodes }) h
    pub fits : HistoryFits (record w { nodes = nodes }) h

  taken : (e : Entry) → entry_of k w.cluster.entries ≡ Some e → IsReservable w.cluster r e → (h : History) → IsKnown w h → Reserves (Done answers.Nothing) (reserved_at w.nodes r (opened_replica k e.attributes e.made)) h
  taken e there can h known =
      let new : Replica = opened_replica k e.attributes e.made in
      let nodes = reserved_at w.nodes r new in
      let at = reserved_here w.nodes r new within (only_this new (replica_in w.nodes k r) (λ x is. opening_there w.cluster w.nodes known.holds k r e x there can.not_complete is)) in
      let same = complete_same w.cluster w.nodes nodes k r new e at there can.not_complete in
      let reserved = reserved_more w.cluster w.nodes nodes k r new e at there can.not_complete in
      record {
        change = λ i. record (machine_of (record w { nodes = nodes }) h) { replicas = λ j q. shown_replica (h.effects j q) (h.origins j q) (sym (same j q) i); reserved = λ j q. reserved j q i };
        fits = record { replicas = λ j q. subst (FitsReplica j (entry_of j w.cluster.entries) (h.effects j q)) (sym (same j q)) (known.fits.replicas j q); copies = known.fits.copies; hands = known.fits.hands };
      }

  -- the node reserves, or is refused the memory
  pub reserves : (h : History) → IsKnown w h → Reserves reply (nodes_after w.cluster w.nodes r (Reserve k) p reply) h
  reserves h known = elim two [
    | inl done ↦
        let (e, there, can) = IsSomeAnd-at (entry_of k w.cluster.entries) _ (finding.ready w h v r (Reserve k) hand known.facts known.fits held next).1 in
        subst (λ (a : Reply). Reserves a (nodes_after w.cluster w.nodes r (Reserve k) p a) h) (sym done)
        (subst (λ (nodes : List (List Replica)). Reserves (Done answers.Nothing) nodes h) (sym (ap (λ (o : Option Entry). slice_set w.nodes r (reserved_for (entry_seen r o) k (list_or (slice_get w.nodes r)))) there)) (taken e there can h known))
    | inr refused ↦
        let (xs, there) = there_is w.nodes r within in
        subst (λ (a : Reply). Reserves a (nodes_after w.cluster w.nodes r (Reserve k) p a) h) (sym refused)
        (subst (λ (nodes : List (List Replica)). Reserves NoMemory nodes h) (sym (ap (λ o. slice_set w.nodes r (list_or o)) there ∙ set_again w.nodes r xs there)) (record { change = refl; fits = known.fits }))
  ]

-- what may be answered where it stands may be where it is taken not to
pub may_reserve : (stands besides : Bool) (reply : Reply) → MayReserve stands reply → MayReserve (stands && besides) reply
may_reserve true true reply done = done
may_reserve true false reply done = inl done
may_reserve false besides reply may = may

-- an open takes no room for a copy
takes_none : (s : CallState) (R : RecordState) (room : Rooms) (r k : ℕ) → IsDriven s → driver_next R room (driver_of s) ≡ Serve r (Reserve k) → (IsCopyAsk (asked s.op) → ⊥) → takes_copy (asked s.op) ≡ false
takes_none s R room r k driven next other = by_driver (driver_of s) (state_drives s driven) (reserved_by R room (driver_of s) r k next) where
  by_driver : (x : Driver) → DrivesFor s.call (asked s.op) x → (IsNoMaker x → ⊥) → takes_copy (asked s.op) ≡ false
  by_driver (drivers.Open o) drives maker = ap takes_copy drives.asks
  by_driver (drivers.Copy c) drives maker = absurd (other (subst IsCopyAsk (sym drives) tt))
  by_driver (drivers.Once x) drives maker = absurd (maker tt)
  by_driver (drivers.Update u) drives maker = absurd (maker tt)
  by_driver (drivers.Active a) drives maker = absurd (maker tt)
  by_driver (drivers.Sync u) drives maker = absurd (maker tt)

no_copy : (copy : Option copies.Snapshot) → option_map (λ (t : copies.Snapshot). t.attributes) copy ≡ None → copy ≡ None
no_copy None none = refl
no_copy (Some t) none = absurd (cc none)

-- by a call that is no copying
module _ (w : World) (v : Who) (r k : ℕ) (hand : InHand) (p : Payload) (reply : Reply) (held : hand_at w.hands v ≡ Some hand) (next : driver_next w.cluster (rooms_at w (client_by v)) hand.driver ≡ Serve r (Reserve k)) (may : MayReserve (is_some (replica_in w.nodes k r)) reply) (within : r < length w.nodes) (other : IsCopyAsk (asked hand.op) → ⊥) where
  abbrev new : World
  new = behind w v r (Reserve k) hand p reply

  abbrev end : Option Outcome
  end = its_end w v r (Reserve k) hand p reply

  two : (reply ≡ Done answers.Nothing) ⊎ (reply ≡ NoMemory)
  two = reserve_answers (is_some (replica_in w.nodes k r)) reply may

  no_count_told : 0 ≡ count_told reply
  no_count_told = no_count w v r k hand p reply held next two within

  -- it has nothing pulled, as before
  pulled_still : (h : History) → IsKnown w h → pulled_by (machine_of w h) (state_in h v hand) verbs.Reserve (Some k) (Some r) (word_of reply) ≡ (state_in h v hand).snapshot
  pulled_still h known = elim two [
    | inl done ↦ ap (λ a. pulled_by (machine_of w h) (state_in h v hand) verbs.Reserve (Some k) (Some r) (word_of a)) done ∙ sym (ap (shown_copy (h.pulled v)) (no_room h known) ∙ none_shown (h.pulled v))
    | inr refused ↦ ap (λ a. pulled_by (machine_of w h) (state_in h v hand) verbs.Reserve (Some k) (Some r) (word_of a)) refused
  ] where
    none_shown : (pulled : Option (List Effect)) → shown_copy pulled None ≡ None
    none_shown None = refl
    none_shown (Some E) = refl

    no_room : (h : History) → IsKnown w h → hand.snapshot ≡ None
    no_room h known =
        let s = state_in h v hand in
        let next_of_state = ap (driver_next w.cluster (rooms_at w (client_by v))) (sym (driver_is w h v hand held known.fits)) ∙ next in
        let takes = takes_none s w.cluster (rooms_at w (client_by v)) r k (known.facts.driven v s (in_hand_is w h v hand held)) next_of_state other in
        no_copy hand.snapshot ((copy_stays w h v hand held known.fits).room ∙ ap (λ b. cond b s.kept.declares None) takes)

  pub reserve_does : Does w (served_world w v r (Reserve k) hand p reply) (served_label w v r (Reserve k) hand p reply)
  reserve_does =
      does_before w (served_world w v r (Reserve k) hand p reply) (served_label w v r (Reserve k) hand p reply)
      (step_before w v hand held new (λ h. h) verbs.Reserve (Some k) (Some r) (word_of reply) end (ended_details end (its_details w v r (Reserve k) hand p reply)) (count_told reply) (its_copy w v r (Reserve k) hand p reply) hand.made (pulled_by_client v) (Serve r (Reserve k)) next held (λ h. refl) (λ h known. record {
        done = record {
          answer = reply;
          may = may_reserve (is_some ((machine_of w h).reserved k r)) (not (takes_copy (asked hand.op))) reply (subst (λ (b : Bool). MayReserve b reply) (stands_alike (entry_of k w.cluster.entries) (replica_in w.nodes k r) w.cluster r (finding.ready w h v r (Reserve k) hand known.facts known.fits held next).1) may);
          verb = refl;
          ckpt = refl;
          node = refl;
          reply = refl;
          details = ap (ended_details end) (none_read k p (record_seen w.cluster k r) (replica_there w v r (Reserve k) hand p reply) ∙ sym (none_read k (payload_due (machine_of w h) (state_in h v hand)) (record_seen w.cluster k r) (seen_at (machine_of w h) k r)));
          end = λ i. let done = counting (sym no_count_told i) (done_of w.cluster verbs.Reserve (Some k) (Some r) (word_of reply)) in driver_end w.cluster hand.op done reply (driver_taken done (driver_is w h v hand held known.fits i));
        };
        change = (reserves w v r k hand p reply held next two within h known).change;
        fits = (reserves w v r k hand p reply held next two within h known).fits;
        count_is = no_count_told;
        made_is = made_stays w h v hand held known.fits verbs.Reserve (Some k) (Some r) (counting (count_told reply) (done_of new.cluster verbs.Reserve (Some k) (Some r) (word_of reply))) refl tt;
        copy_is = let s = state_in h v hand in
            subst (λ (z : Kept × Option Snapshot). IsCopyBehind z.0 hand z.1 (h.pulled v) (its_copy w v r (Reserve k) hand p reply)) (λ i. (sym (kept_still (machine_of w h) s verbs.Reserve (Some k) (word_of reply) other) i, sym (pulled_still h known) i))
            (subst (IsCopyBehind s.kept hand s.snapshot (h.pulled v)) (sym (copy_kept (Reserve k) (λ x s. refl) (replica_there w v r (Reserve k) hand p reply) hand.snapshot)) (copy_stays w h v hand held known.fits));
      }))
      (λ m s f. let is = known_by w m s f in holds_served w.cluster w.nodes r (Reserve k) p reply is.holds within (λ j e. subst (IsServable (machine_of w s.history) r) e (finding.ready w s.history v r (Reserve k) hand is.facts is.fits held next).1))
      (λ m s f. s.keeps)
      (λ m s f. rooms_ended new w.cluster v end s.rooms)
