-- The active of a checkpoint is set: what that asks of the world, and what it makes of it.
use Rattle.std.proofs.Common.{◌≡◌, inl, inr, ℕ, ◌<◌, List, length, false, cond, refl, sym, ap, subst, ◌∙◌}
use Rattle.std.specs.Prelude.{Option, Some, None, IfSome, IsSome, IsSomeAnd, is_some, ◌==◌, slice_index}
use Rattle.ckpt_types.specs.declared.answers.Answer.TheVariants as answers
use Rattle.ckpt_types.specs.declared.answers.Outcome.{Outcome}
use Rattle.ckpt_types.specs.declared.answers.Outcome.TheVariants.{Done}
use Rattle.ckpt_types.specs.declared.words.OpWord.{OpWord}
use Rattle.ckpt_types.specs.OpWord.{word_of_op}
use Rattle.node_msgs.specs.declared.details.Details.TheVariants as beside
use Rattle.node_msgs.specs.declared.next.Next.TheVariants.{Event}
use Rattle.node_msgs.specs.declared.next.RecordStep.{RecordStep}
use Rattle.node_msgs.specs.declared.next.RecordStep.TheVariants as events
use Rattle.node_msgs.specs.declared.replies.Reply.TheVariants as replies
use Rattle.node_msgs.specs.declared.steps.StepReply.TheVariants as words
use Rattle.node_msgs.specs.declared.steps.Verb.TheVariants as verbs
use Rattle.run_labels.specs.declared.labels.Label.TheVariants.{Stepped}
use Rattle.snap_copy.specs.Snapshots as copies
use Rattle.cluster_record.specs.StepDone.{counting, done_of}
use Rattle.cluster_record.specs.declared.entries.Entry.{Entry}
use Rattle.cluster_record.specs.DueSync.{SyncState}
use Rattle.cluster_record.specs.RecordState.{RecordState, entry_of, complete_of, active_set, swept}
use Rattle.replica.specs.Replicas.{Replica, opened_replica}
use Rattle.ckpt_machine.specs.Drivers as drivers
use Rattle.ckpt_machine.specs.Driving.{driver_next}
use Rattle.ckpt_machine.specs.Facts.{IsAtRest, IsEventReady, IsLeadable}
use Rattle.ckpt_machine.specs.Machine.{Machine, CallState}
use Rattle.ckpt_machine.specs.After.{led_from}
use Rattle.ckpt_machine.proofs.OptionLemmas.{IsSomeAnd-at}
use Rattle.client_calls.specs.declared.in_hand.InHand.{InHand}
use Rattle.world_core.specs.declared.world.World.{World}
use Rattle.world_core.specs.Freeing.{freed_world}
use Rattle.world_core.specs.Happenings.{IsStep, rooms_at}
use Rattle.world_core.specs.Alone.{ended_at}
use Rattle.ckpt_machine.specs.Leading.{copy_held, nodes_led, CanLead}
use Rattle.client_calls.specs.CallStates.{synchronized_by}
use Rattle.ckpt_machine.specs.Nodes.{replica_in}
use Rattle.ckpt_machine.specs.Propagating.{IsPuttable}
use Rattle.client_calls.specs.Taking.{hand_outcome}
use Rattle.world_core.specs.Shows.{Does, IsShown, History, machine_of}
use Rattle.ckpt_machine.specs.Shown.{FitsReplica, complete_replica, shown_replica}
use Rattle.world_core.proofs.CallSteps.{IsKnown, known, known_by, step_before, step_under, IsShownBehind, pulled_by_client}
use Rattle.world_core.proofs.EventEnds.{done_ends}
use Rattle.ckpt_machine.proofs.StepTaking.{is_done}
use Rattle.world_core.proofs.Finding.{copy_room_is, no_slot, replica_shown}
use Rattle.world_core.proofs.Freeing.{does_before, machine_of-freed, Fits-freed, rooms_left}
use Rattle.ckpt_machine.proofs.FreedNodes.{replica_in-freed}
use Rattle.world_core.proofs.Held.{copy_stays, state_in}
use Rattle.world_core.proofs.MadeIds.{made_stays}
use Rattle.world_core.proofs.HoldSteps.{activates, by_sync}
use Rattle.world_core.proofs.Leading.{led_history, shown_led}
use Rattle.ckpt_machine.proofs.Leads.{HeldAs, held_as, held_is_there}
use Rattle.world_core.proofs.LiveRooms.{rooms_after, rooms_ended}
use Rattle.world_core.proofs.Maps.{hand_left}
use Rattle.world_core.proofs.ReplicaChanged.{IsShownBy}
use Rattle.world_core.proofs.RecordEvent.{done_beside, ends_so, event_asks, event_ready, fits_recorded, goes, holds_after, told_so}
use Rattle.world_core.proofs.Recording.{with_effects}
use Rattle.ckpt_machine.proofs.GoesAt.{GoesAt, NodeGoes}
use Rattle.world_core.specs.HandsState.{hand_at, set_at}
use Rattle.client_calls.specs.Names.{client_by}
use Rattle.ckpt_types.specs.declared.identities.Who.{Who}
use Rattle.world_core.proofs.SnapshotRooms.{event_has}

-- the record behind it, and the world, freed of what is gone
abbrev active_record : World → ℕ → ℕ → RecordState
active_record w k r = swept (active_set k r w.cluster)

abbrev cleared_world : World → ℕ → ℕ → World
cleared_world w k r = freed_world (record w { cluster = active_record w k r })

-- the world where the node leads, with what the call holds
abbrev led_world : World → InHand → ℕ → ℕ → World
led_world w hand k r = record (cleared_world w k r) { nodes = nodes_led k r (copy_held (entry_of k w.cluster.entries) hand.snapshot) (entry_of k (active_record w k r).entries) (cleared_world w k r).nodes }

-- what the setting of the active of a checkpoint asks, and what it makes of the world and of its call, which it ends
pub record Leads (w : World) (v : Who) (r : ℕ) (hand : InHand) (k : ℕ) : Type 0 where
  pub on_node : r < 8
  pub ends : hand_outcome (active_record w k r) is_done hand ≡ Some (Done answers.Nothing)
  pub can : length w.nodes ≡ 8 → CanLead r (copy_held (entry_of k w.cluster.entries) hand.snapshot) (replica_in (cleared_world w k r).nodes k r) (entry_of k (active_record w k r).entries)
  pub does : length w.nodes ≡ 8 → let end : Option Outcome = Some (Done answers.Nothing) in Does w (ended_at v end (record (led_world w hand k r) { hands = set_at w.hands v None })) (Stepped hand.call (word_of_op hand.op) verbs.Activate (Some k) (Some r) words.Ok end beside.Nothing)

module _ (w : World) (v : Who) (r : ℕ) (base : InHand) (u : SyncState) where
  abbrev hand : InHand
  hand = record base { driver = drivers.Sync u }

  abbrev step : RecordStep
  step = events.Activate r

  abbrev k : ℕ
  k = u.ckpt

  abbrev R : RecordState
  R = active_record w k r

  abbrev cleared : World
  cleared = cleared_world w k r

  abbrev copy : Option copies.Snapshot
  copy = copy_held (entry_of k w.cluster.entries) hand.snapshot

  -- the history where the node leads
  abbrev later : History → History
  later h = led_history (complete_replica R cleared.nodes k r) (state_in h v hand).snapshot k r (with_effects w h)

  module _ (held : hand_at w.hands v ≡ Some hand) (next : driver_next w.cluster (rooms_at w (client_by v)) (drivers.Sync u) ≡ Event step) (eight : length w.nodes ≡ 8) where
    module _ (h : History) (is : IsKnown w h) where
      abbrev m : Machine
      m = machine_of w h

      abbrev s : CallState
      s = state_in h v hand

      asks : IsEventReady m s (drivers.Sync u) step
      asks = event_asks w v step hand held next h is

      -- its checkpoint is there
      there : (e : Entry) × (entry_of k w.cluster.entries ≡ Some e) × IsLeadable m s k r e
      there = IsSomeAnd-at (entry_of k w.cluster.entries) (λ e. IsLeadable m s k r e) asks.2

      abbrev e : Entry
      e = there.0

      copy_is : copy ≡ copy_held (Some e) hand.snapshot
      copy_is = ap (λ o. copy_held o hand.snapshot) there.1

      has : HeldAs s.snapshot copy
      has = subst (HeldAs s.snapshot) (sym copy_is) (held_as (h.pulled v) hand.snapshot e there.2.held (copy_stays w h v hand held is.fits).counts)

      -- the replica of the node, at rest, as the checkpoint declares it
      record AtRest (x : Replica) : Type 0 where
        there : replica_in w.nodes k r ≡ Some x
        free : x.slot ≡ None
        unmarked : x.marks ≡ None
        declared : x.attributes ≡ e.attributes

      -- it has it where it is complete behind the step, and takes over what is held
      at_rest : (f : Entry) → entry_of k R.entries ≡ Some f → (slice_index f.complete r == 0) ≡ false → IsSome s.snapshot → (x : Replica) × AtRest x
      at_rest f found complete some = by_goes (subst (λ (z : Option Entry × Option Entry). GoesAt w.cluster.up k z.0 z.1 r (replica_in w.nodes k r) (replica_in w.nodes k r)) (λ i. (there.1 i, found i)) (goes w v step hand held next h is tt eight refl k r)) where
        by_node : f.attributes ≡ e.attributes → NodeGoes w.cluster.up k e f r (replica_in w.nodes k r) (replica_in w.nodes k r) → (x : Replica) × AtRest x
        by_node same (inl stays) =
            let complete_then : (slice_index e.complete r == 0) ≡ false = ap (λ n. n == 0) (sym stays.0) ∙ complete in
            let (x, is_there, complete_is) = replica_shown (h.effects k r) (h.origins k r) (slice_index (complete_of (entry_of k w.cluster.entries)) r) (replica_in w.nodes k r) (is.facts.complete k r e there.1 complete_then) in
            let rests : IfSome (shown_replica (h.effects k r) (h.origins k r) (Some x)) IsAtRest = subst (λ y. IfSome (shown_replica (h.effects k r) (h.origins k r) y) IsAtRest) complete_is (there.2.rest some) in
            let its : FitsReplica k (Some e) (h.effects k r) (Some x) = subst (λ (z : Option Entry × Option Replica). FitsReplica k z.0 (h.effects k r) z.1) (λ i. (there.1 i, complete_is i)) (is.fits.replicas k r) in
            (x, record { there = is_there; free = no_slot (h.origins k r) x.slot rests.0; unmarked = rests.1; declared = its.1 })
        by_node same (inr new) = (record (opened_replica k f.attributes f.made) { generation = f.generation }, record { there = new.3; free = refl; unmarked = refl; declared = same })

        by_goes : GoesAt w.cluster.up k (Some e) (Some f) r (replica_in w.nodes k r) (replica_in w.nodes k r) → (x : Replica) × AtRest x
        by_goes goes = by_node goes.0 goes.2

      -- what leading asks
      can_lead : CanLead r copy (replica_in cleared.nodes k r) (entry_of k R.entries)
      can_lead = by_copy copy refl where
        by_entry : (t : copies.Snapshot) → copy ≡ Some t → (o : Option Entry) → entry_of k R.entries ≡ o → CanLead r (Some t) (replica_in cleared.nodes k r) o
        by_entry t at None gone = tt
        by_entry t at (Some f) found = λ complete.
            let (some, had) = held_is_there (h.pulled v) hand.snapshot e there.2.held t (sym copy_is ∙ at) in
            let (x, rests) = at_rest f found complete some in
            let room : t.attributes ≡ e.attributes = subst (λ o. IsSomeAnd o (λ s. s.attributes ≡ e.attributes)) had (copy_room_is w h v r hand is.facts is.fits held k asks.1 e there.1) in
            subst (λ o. IsSomeAnd o (IsPuttable (Some t))) (sym (replica_in-freed R.entries w.nodes k r ∙ ap (λ o. cond (is_some o) (replica_in w.nodes k r) None) found ∙ rests.there))
            (record { free = rests.free; unmarked = rests.unmarked; declared = room ∙ sym rests.declared })

        by_copy : (o : Option copies.Snapshot) → copy ≡ o → CanLead r o (replica_in cleared.nodes k r) (entry_of k R.entries)
        by_copy None at = tt
        by_copy (Some t) at = by_entry t at (entry_of k R.entries) refl

      -- what the world shows where the node leads
      leads : IsShownBy (led_from s.snapshot k r (machine_of cleared (with_effects w h))) (led_world w hand k r) (later h)
      leads = shown_led cleared (with_effects w h) (Fits-freed (record w { cluster = R }) (with_effects w h) (fits_recorded w v step hand held next h is tt eight refl)) (holds_after w v step hand held next h is tt eight refl) k r s.snapshot copy has can_lead

      leads_here : IsShownBehind w v hand held (led_world w hand k r) later verbs.Activate (Some k) (Some r) words.Ok (Some (Done answers.Nothing)) beside.Nothing 0 hand.snapshot hand.made (pulled_by_client v) (Event step) h
      leads_here = record {
        done = told_so w v step hand held next h is words.Ok (Some (Done answers.Nothing)) (inl (refl, sym (ends_so w v step hand held next h is tt words.Ok (Some (Done answers.Nothing)))));
        change = done_beside w v step hand held next h is tt eight refl ∙ ap (led_from s.snapshot k r) (sym (machine_of-freed (record w { cluster = R }) (with_effects w h))) ∙ leads.same;
        fits = leads.fits;
        count_is = refl;
        copy_is = let has = copy_stays w h v hand held is.fits in record { same = has.same; room = has.room; counts = has.counts };
        made_is = made_stays w h v hand held is.fits verbs.Activate (Some k) (Some r) (counting 0 (done_of (led_world w hand k r).cluster verbs.Activate (Some k) (Some r) words.Ok)) refl tt;
      }

    lead_does : let end : Option Outcome = Some (Done answers.Nothing) in Does w (ended_at v end (record (led_world w hand k r) { hands = set_at w.hands v None })) (Stepped hand.call (word_of_op hand.op) verbs.Activate (Some k) (Some r) words.Ok end beside.Nothing)
    lead_does =
        let end : Option Outcome = Some (Done answers.Nothing) in
        does_before w (ended_at v end (record (led_world w hand k r) { hands = set_at w.hands v None })) (Stepped hand.call (word_of_op hand.op) verbs.Activate (Some k) (Some r) words.Ok end beside.Nothing)
        (step_before w v hand held (led_world w hand k r) later verbs.Activate (Some k) (Some r) words.Ok end beside.Nothing 0 hand.snapshot hand.made (pulled_by_client v) (Event step) next held (λ h. refl) leads_here)
        (λ m s f. (leads s.history (known_by w m s f)).holds)
        (λ m s f. let is = known_by w m s f in rooms_left R.entries w.snapshots (event_has w.cluster w.snapshots is.keeps is.facts.rises is.facts.up_to hand.call hand.driver step))
        (λ m s f. rooms_ended w R v end (rooms_after hand.call hand.driver step w.cluster w.tables tt s.rooms))

-- ---- with the parts as the code names them

module _ (w : World) (v : Who) (r : ℕ) (hand : InHand) (held : hand_at w.hands v ≡ Some hand) (next : driver_next w.cluster (rooms_at w (client_by v)) hand.driver ≡ Event (events.Activate r)) (shown : IsShown w) where
  -- it is about a checkpoint
  pub activates_one : IsSome (synchronized_by hand.driver)
  activates_one = let h = shown.shows.history in activates (machine_of w h) (state_in h v hand) hand.driver r (event_ready w v (events.Activate r) hand held next shown)

  module _ (k : ℕ) (one : synchronized_by hand.driver ≡ Some k) where
    pub leads_its : Leads w v r hand k
    leads_its = by_sync (Leads w v r) hand k one (λ u is.
        let its : InHand = record hand { driver = drivers.Sync u } in
        let held_so : hand_at w.hands v ≡ Some its = held ∙ (λ i. Some (record hand { driver = is i })) in
        let next_so : driver_next w.cluster (rooms_at w (client_by v)) (drivers.Sync u) ≡ Event (events.Activate r) = ap (driver_next w.cluster (rooms_at w (client_by v))) (sym is) ∙ next in
        record {
          on_node = (event_ready w v (events.Activate r) its held_so next_so shown).0;
          ends = done_ends w v (events.Activate r) its held_so next_so shown tt refl (active_record w u.ckpt r) (Some u.ckpt) refl refl;
          can = λ eight. can_lead w v r hand u held_so next_so eight shown.shows.history (known w shown);
          does = lead_does w v r hand u held_so next_so;
        })

    -- how the call takes it: it ends
    pub lead_ends : (N : RecordState) (lent : InHand) → N ≡ swept (active_set k r w.cluster) → lent ≡ record hand { snapshot = None } → hand_outcome N (replies.Done answers.Nothing) lent ≡ Some (Done answers.Nothing)
    lead_ends N lent N_is lent_is = (λ i. hand_outcome (N_is i) is_done (lent_is i)) ∙ leads_its.ends

    module _ (eight : length w.nodes ≡ 8) (freed_of : World) (N : RecordState) (held_of : Option copies.Snapshot) (N_is : N ≡ swept (active_set k r w.cluster)) (held_is : held_of ≡ copy_held (entry_of k w.cluster.entries) hand.snapshot) (freed_is : freed_of ≡ freed_world (record w { cluster = N; hands = set_at w.hands v None })) where
      -- what leading asks
      pub lead_can : CanLead r held_of (replica_in freed_of.nodes k r) (entry_of k freed_of.cluster.entries)
      lead_can = rw (freed_is, N_is, held_is) (leads_its.can eight)

      pub lead_step : (new : World) (nodes : List (List Replica)) (word : OpWord) → nodes ≡ nodes_led k r held_of (entry_of k freed_of.cluster.entries) freed_of.nodes → new ≡ ended_at v (Some (Done answers.Nothing)) (record freed_of { nodes = nodes }) → word ≡ word_of_op hand.op →
          IsStep v w new (Stepped hand.call word verbs.Activate (Some k) (Some r) words.Ok (Some (Done answers.Nothing)) beside.Nothing)
      lead_step new nodes word nodes_are new_is word_is =
          let end : Option Outcome = Some (Done answers.Nothing) in
          step_under v w new hand hand word verbs.Activate (Some k) (Some r) words.Ok end beside.Nothing held refl refl
          (rw (new_is, freed_is) (hand_left w.hands v hand hand end held refl))
          (rw (new_is, nodes_are, freed_is, N_is, held_is, word_is) (leads_its.does eight))
