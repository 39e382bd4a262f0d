-- A node comes to be complete for a checkpoint by its copying: what that asks of the world, and what it makes of it.
use Rattle.std.proofs.Common.{◌≡◌, inl, ℕ, ◌-◌, ◌^◌, ◌<◌, ℤ, List, [], length, Bool, true, false, cond, refl, sym, ap, subst, ◌∙◌}
use Rattle.std.specs.Prelude.{Option, Some, None, IfSome, IsSome, IsSomeAnd, is_some}
use Rattle.std.specs.Option.{option_map}
use Rattle.ckpt_types.specs.declared.answers.Outcome.{Outcome}
use Rattle.ckpt_types.specs.declared.answers.Outcome.TheVariants.{Done}
use Rattle.ckpt_types.specs.declared.identities.ActorName.TheVariants.{Node}
use Rattle.ckpt_types.specs.declared.identities.CallId.{CallId}
use Rattle.ckpt_types.specs.declared.identities.Who.{Who}
use Rattle.ckpt_types.specs.declared.identities.Who.TheVariants.{Actor}
use Rattle.ckpt_types.specs.declared.operation.Op.{Op}
use Rattle.ckpt_types.specs.declared.words.OpWord.{OpWord}
use Rattle.ckpt_types.specs.OpWord.{word_of_op}
use Rattle.node_msgs.specs.declared.details.Details.TheVariants as beside
use Rattle.node_msgs.specs.declared.next.Next.{Next}
use Rattle.node_msgs.specs.declared.next.Next.TheVariants.{Event, End}
use Rattle.node_msgs.specs.declared.next.RecordStep.{RecordStep}
use Rattle.node_msgs.specs.declared.next.RecordStep.TheVariants as events
use Rattle.node_msgs.specs.declared.steps.StepReply.TheVariants as words
use Rattle.node_msgs.specs.declared.steps.Verb.TheVariants as verbs
use Rattle.run_labels.specs.declared.labels.Label.TheVariants.{Stepped}
use Rattle.snap_copy.specs.Snapshots as copies
use Rattle.cluster_record.specs.declared.entries.Entry.{Entry}
use Rattle.cluster_record.specs.Calls.{left}
use Rattle.cluster_record.specs.DueCopy.{CopyState, copy_next, copy_taken, done_by}
use Rattle.cluster_record.specs.DueOnce as once
use Rattle.cluster_record.specs.Joining.{completed}
use Rattle.cluster_record.specs.Placement.{is_all}
use Rattle.cluster_record.specs.Places.{put2}
use Rattle.cluster_record.specs.RecordState.{RecordState, entry_of, swept}
use Rattle.cluster_record.specs.StepDone.{counting, done_of}
use Rattle.replica.specs.Replicas.{Replica}
use Rattle.ckpt_machine.specs.Drivers.{Driver}
use Rattle.ckpt_machine.specs.Drivers as drivers
use Rattle.ckpt_machine.specs.Driving.{driver_next, driver_taken, index_told, step_end}
use Rattle.ckpt_machine.specs.RecordAfter.{event_after}
use Rattle.ckpt_machine.specs.After.{staged_moment}
use Rattle.ckpt_machine.specs.Due.{driver_of}
use Rattle.ckpt_types.specs.Asks.{asked}
use Rattle.ckpt_machine.proofs.AskedFor.{DrivesFor, state_drives}
use Rattle.ckpt_machine.proofs.Going.{raised_nodes}
use Rattle.ckpt_machine.specs.Facts.{HasAsMany, IsCompletable, IsEventReady}
use Rattle.ckpt_machine.specs.Machine.{Machine, CallState, Effect}
use Rattle.ckpt_machine.specs.Due.{event_done}
use Rattle.ckpt_machine.specs.Nodes.{freed, replica_in}
use Rattle.ckpt_machine.specs.Shown.{FitsCopy, FitsReplica, complete_replica, shown_copy, shown_replica}
use Rattle.ckpt_machine.proofs.OptionLemmas.{IsSomeAnd-at}
use Rattle.ckpt_machine.proofs.StepDone.{besides}
use Rattle.ckpt_machine.proofs.StepTaking.{TakesDone, is_done, takes_done}
use Rattle.client_calls.specs.declared.in_hand.InHand.{InHand}
use Rattle.client_calls.specs.HandSteps.{hand_taken}
use Rattle.client_calls.specs.Names.{client_by}
use Rattle.client_calls.specs.Taking.{hand_outcome, hand_told}
use Rattle.world_core.specs.declared.world.World.{World}
use Rattle.world_core.specs.Alone.{ended_at}
use Rattle.world_core.specs.Backgrounds.{backgrounds_left}
use Rattle.world_core.specs.declared.snapshots.Background.{Background}
use Rattle.world_core.specs.Copying.{CanCopy, nodes_copied}
use Rattle.world_core.specs.Freeing.{freed_world}
use Rattle.world_core.specs.HandsState.{hand_at, set_at}
use Rattle.world_core.specs.Happenings.{IsStep, rooms_at}
use Rattle.world_core.specs.Shows.{Does, HasNumbersLeft, History, IsShown, machine_of}
use Rattle.world_core.proofs.CallSteps.{IsKnown, known, known_by, step_before, step_under, IsShownBehind, pulled_by_client}
use Rattle.world_core.proofs.Completing.{between_is, copied_is, copied_world, entry_behind, left_there, nodes_are}
use Rattle.world_core.proofs.EventEnds.{done_keeps}
use Rattle.world_core.proofs.Finding.{copy_room_is}
use Rattle.world_core.proofs.Freeing.{does_before, rooms_left}
use Rattle.world_core.proofs.Held.{copy_stays, driver_is, in_hand_is, state_in}
use Rattle.world_core.proofs.LiveRooms.{rooms_after, rooms_ended}
use Rattle.world_core.proofs.MadeIds.{made_stays}
use Rattle.world_core.proofs.Maps.{hand_left}
use Rattle.world_core.proofs.RecordEvent.{done_changes, event_asks, event_ready, told_so}
use Rattle.world_core.proofs.Recording.{with_effects}
use Rattle.world_core.proofs.ReplicaChanged.{IsShownBy}
use Rattle.world_core.proofs.SnapshotRooms.{event_has}

-- ---- what a copying has in its hand

-- the effects that were pulled
abbrev pub effects_pulled : Option (List Effect) → List Effect
effects_pulled None = []
effects_pulled (Some C) = C

-- something is pulled into its room
record HasPulled (pulled : Option (List Effect)) (copy : Option copies.Snapshot) : Type 0 where
  snapshot : copies.Snapshot
  copy_is : copy ≡ Some snapshot
  pulled_is : pulled ≡ Some (effects_pulled pulled)
  counts : length (effects_pulled pulled) ≡ snapshot.count

has_pulled : (pulled : Option (List Effect)) (copy : Option copies.Snapshot) → IsSome (shown_copy pulled copy) → FitsCopy pulled copy → HasPulled pulled copy
has_pulled None copy some counts = absurd (cc some)
has_pulled (Some C) None some counts = absurd (cc some)
has_pulled (Some C) (Some t) some counts = record { snapshot = t; copy_is = refl; pulled_is = refl; counts = counts }

-- no completion tells an index
done_alike : (op : Op) (next : Next) → option_map (index_told op) (done_by next) ≡ done_by next
done_alike op (End (Done answer)) = refl
done_alike op next = refl

-- one that a moment has is of a checkpoint whose updates are on all replicas
all_there : (all : Bool) (t : ℤ) (moment : Option ℤ) → moment ≡ cond all (Some t) None → IsSome moment → all ≡ true
all_there true t moment is some = refl
all_there false t moment is some = absurd (let none : false ≡ true = ap is_some (sym is) ∙ some in cc none)

-- ---- the world behind it

-- the record, and the world where the node is complete, freed of what is gone
abbrev completed_record : World → ℕ → ℕ → RecordState
completed_record w k r = swept (completed k r w.cluster)

abbrev completed_world : World → InHand → ℕ → ℕ → Option ℤ → World
completed_world w hand k r moment = let R = completed_record w k r in record (freed_world (record w { cluster = R })) { nodes = nodes_copied k r hand.call moment hand.snapshot (entry_of k R.entries) (freed R.entries w.nodes) }

-- what a completion asks, and what it makes of the world and of its call
pub record Completes (w : World) (v : Who) (r k : ℕ) (moment : Option ℤ) (hand : InHand) : Type 0 where
  pub on_node : r < 8
  pub stands : IsSome (entry_of k w.cluster.entries)
  pub can : CanCopy r moment hand.snapshot (replica_in (freed (completed_record w k r).entries w.nodes) k r) (entry_of k (completed_record w k r).entries)
  pub keeps : hand_told (completed_record w k r) is_done hand ≡ hand_taken (done_of (completed_record w k r) verbs.Complete (Some k) (Some r) words.Ok) hand
  pub does : let R = completed_record w k r in let end = hand_outcome R is_done hand in
      Does w (ended_at v end (record (completed_world w hand k r moment) { hands = set_at w.hands v (left end (hand_taken (done_of R verbs.Complete (Some k) (Some r) words.Ok) hand)) })) (Stepped hand.call (word_of_op hand.op) verbs.Complete (Some k) (Some r) words.Ok end beside.Nothing)

module _ (w : World) (v : Who) (r k : ℕ) (moment : Option ℤ) (base : InHand) (c : CopyState) where
  abbrev hand : InHand
  hand = record base { driver = drivers.Copy c }

  abbrev step : RecordStep
  step = events.Complete k r moment

  abbrev R : RecordState
  R = completed_record w k r

  abbrev end : Option Outcome
  end = hand_outcome R is_done hand

  -- the history where the node is complete
  abbrev later : History → History
  later h = record (with_effects w h) { effects = put2 (with_effects w h).effects k r (effects_pulled (h.pulled v)); origins = put2 h.origins k r hand.call }

  module _ (held : hand_at w.hands v ≡ Some hand) (next : driver_next w.cluster (rooms_at w (client_by v)) (drivers.Copy c) ≡ Event step) where
    module _ (h : History) (is : IsKnown w h) where
      abbrev m : Machine
      m = machine_of w h

      abbrev s : CallState
      s = state_in h v hand

      asks : IsEventReady m s (drivers.Copy c) step
      asks = event_asks w v step hand held next h is

      -- its checkpoint is there, and its node can come to be complete for it
      there : (e : Entry) × (entry_of k w.cluster.entries ≡ Some e) × IsCompletable m s k r moment e
      there = IsSomeAnd-at (entry_of k w.cluster.entries) (IsCompletable m s k r moment) asks.4

      abbrev e : Entry
      e = there.0

      -- the nodes with the replica that was reserved raised to its generation
      abbrev raised_here : List (List Replica)
      raised_here = raised_nodes m w.nodes (λ k r. refl) is.facts is.holds k r e there.1 asks.3 there.2.lacks there.2.up there.2.nodes

      pulls : HasPulled (h.pulled v) hand.snapshot
      pulls = has_pulled (h.pulled v) hand.snapshot asks.2 (copy_stays w h v hand held is.fits).counts

      abbrev t : copies.Snapshot
      t = pulls.snapshot

      driver : drivers.Copy c ≡ driver_of s
      driver = driver_is w h v hand held is.fits

      -- how it takes the completion
      takes : TakesDone w.cluster (drivers.Copy c) step R
      takes = takes_done m s is.facts.rises is.facts.stay (rooms_at w (client_by v)) (drivers.Copy c) step (subst (DrivesFor s.call (asked s.op)) (sym driver) (state_drives s (is.facts.driven v s (in_hand_is w h v hand held)))) next refl asks

      -- and ends by it
      end_is : event_done m s step (record { verb = verbs.Complete; ckpt = Some k; node = Some r; reply = words.Ok; end = end; details = beside.Nothing }) ≡ end
      end_is =
          ap (λ x. event_done_by x) (sym driver)
          ∙ sym (done_alike hand.op (copy_next R (copy_taken (done_of w.cluster verbs.Complete (Some k) (Some r) words.Ok) c)))
          ∙ sym (ap (option_map (index_told hand.op)) takes.outcome)
        where
          event_done_by : Driver → Option Outcome
          event_done_by x = step_end (event_after s.call x step w.cluster) (driver_taken (counting 0 (done_of w.cluster verbs.Complete (Some k) (Some r) words.Ok)) x) step (Some k)

      -- the world behind it is that of the completion
      shown : IsShownBy (besides s step (Some k) (machine_of (record w { cluster = R; nodes = raised_here }) (with_effects w h))) (completed_world w hand k r moment) (later h)
      shown =
          let found = there.1 in
          let can = there.2 in
          let C = effects_pulled (h.pulled v) in
          let copied = copied_is w h is k r e found asks.3 can.lacks can.up can.nodes hand.call moment t C pulls.counts in
          let nodes : nodes_copied k r hand.call moment hand.snapshot (entry_of k R.entries) (freed R.entries w.nodes) ≡ (copied_world w h is k r e found asks.3 can.lacks can.up can.nodes hand.call moment t C pulls.counts).nodes
          = ap (λ o. nodes_copied k r hand.call moment o (entry_of k R.entries) (freed R.entries w.nodes)) pulls.copy_is ∙ nodes_are w h is k r e found asks.3 can.lacks can.up can.nodes hand.call moment t C pulls.counts in
          let snapshot : s.snapshot ≡ Some (record { sections = t.sections; effects = C; generation = t.generation }) = λ i. shown_copy (pulls.pulled_is i) (pulls.copy_is i) in
          subst (λ n. IsShownBy (besides s step (Some k) (machine_of (record w { cluster = R; nodes = raised_here }) (with_effects w h))) (record (freed_world (record w { cluster = R })) { nodes = n }) (later h)) (sym nodes) (record {
            same = ap (λ o. besides (record s { snapshot = o }) step (Some k) (machine_of (record w { cluster = R; nodes = raised_here }) (with_effects w h))) snapshot ∙ copied.same;
            fits = copied.fits;
            holds = copied.holds;
          })

      completes_here : IsShownBehind w v hand held (completed_world w hand k r moment) later verbs.Complete (Some k) (Some r) words.Ok end beside.Nothing 0 hand.snapshot hand.made (pulled_by_client v) (Event step) h
      completes_here = record {
        done = told_so w v step hand held next h is words.Ok end (inl (refl, sym end_is));
        change = done_changes w v step hand held next h is ∙ ap (besides s step (Some k)) (between_is w h is k r e there.1 asks.3 there.2.lacks there.2.up there.2.nodes) ∙ shown.same;
        fits = shown.fits;
        count_is = refl;
        copy_is = let has = copy_stays w h v hand held is.fits in record { same = has.same; room = has.room; counts = has.counts };
        made_is = made_stays w h v hand held is.fits verbs.Complete (Some k) (Some r) (counting 0 (done_of R verbs.Complete (Some k) (Some r) words.Ok)) refl tt;
      }

      -- a replica counts as many as was pulled, where that has a moment
      counted : HasNumbersLeft w → IfSome moment (λ t'. t.count < 2 ^ 64 - 1)
      counted roomy = by_moment moment refl where
        -- of which the world has one
        by_replica : (q : ℕ) (o : Option Replica) → complete_replica w.cluster w.nodes k q ≡ o → FitsReplica k (entry_of k w.cluster.entries) (h.effects k q) o → IsSomeAnd (shown_replica (h.effects k q) (h.origins k q) o) (HasAsMany s.snapshot) → t.count < 2 ^ 64 - 1
        by_replica q None at fits as_many = absurd as_many
        by_replica q (Some y) at fits as_many =
            let same : length (h.effects k q) ≡ length (effects_pulled (h.pulled v)) = subst (λ o. IsSomeAnd o (λ z. length (h.effects k q) ≡ length z.effects)) (λ i. shown_copy (pulls.pulled_is i) (pulls.copy_is i)) as_many in
            let count : y.count ≡ t.count = sym fits.2 ∙ same ∙ pulls.counts in
            subst (λ n. n < 2 ^ 64 - 1) count (roomy.updates k q y at)

        by_moment : (o : Option ℤ) → moment ≡ o → IfSome o (λ t'. t.count < 2 ^ 64 - 1)
        by_moment None none = tt
        by_moment (Some at) some =
            let all : is_all e.attributes ≡ true = all_there (is_all e.attributes) (staged_moment m k) moment there.2.moment_is (ap is_some some) in
            let (q, as_many) = there.2.counted all in
            by_replica q (complete_replica w.cluster w.nodes k q) refl (is.fits.replicas k q) as_many

      -- what taking it over asks
      can_copy : HasNumbersLeft w → CanCopy r moment hand.snapshot (replica_in (freed R.entries w.nodes) k r) (entry_of k R.entries)
      can_copy roomy =
          let can = there.2 in
          let room : t.attributes ≡ e.attributes = subst (λ o. IsSomeAnd o (λ s. s.attributes ≡ e.attributes)) pulls.copy_is (copy_room_is w h v r hand is.facts is.fits held k asks.1 e there.1) in
          subst (λ (z : Option copies.Snapshot × Option Replica × Option Entry). CanCopy r moment z.0 z.1 z.2)
          (λ i. (sym pulls.copy_is i, sym (left_there w h is k r e there.1 asks.3 can.lacks can.up can.nodes hand.call moment t (effects_pulled (h.pulled v)) pulls.counts) i, sym (entry_behind w h is k r e there.1 asks.3 can.lacks can.up can.nodes) i))
          (λ complete. record { takes = record { free = refl; unmarked = refl; declared = room }; count = counted roomy })

    complete_does : let taken = hand_taken (done_of R verbs.Complete (Some k) (Some r) words.Ok) hand in
        Does w (ended_at v end (record (completed_world w hand k r moment) { hands = set_at w.hands v (left end taken) })) (Stepped hand.call (word_of_op hand.op) verbs.Complete (Some k) (Some r) words.Ok end beside.Nothing)
    complete_does =
        does_before w _ (Stepped hand.call (word_of_op hand.op) verbs.Complete (Some k) (Some r) words.Ok end beside.Nothing)
        (step_before w v hand held (completed_world w hand k r moment) later verbs.Complete (Some k) (Some r) words.Ok end beside.Nothing 0 hand.snapshot hand.made (pulled_by_client v) (Event step) next held (λ h. refl) completes_here)
        (λ m s f. (shown s.history (known_by w m s f)).holds)
        (λ m s f. let is = known_by w m s f in rooms_left R.entries w.snapshots (event_has w.cluster w.snapshots is.keeps is.facts.rises is.facts.up_to hand.call hand.driver step))
        (λ m s f. rooms_ended w R v end (rooms_after hand.call hand.driver step w.cluster w.tables tt s.rooms))

    completes_so : IsShown w → HasNumbersLeft w → Completes w v r k moment hand
    completes_so shown roomy =
        let h : History = shown.shows.history in
        let is : IsKnown w h = known w shown in
        record {
          on_node = (asks h is).0;
          stands = ap is_some (there h is).1;
          can = can_copy h is roomy;
          keeps = done_keeps w v step hand held next shown refl R (Some k) (Some r) refl refl refl;
          does = complete_does;
        }

-- ---- with the parts as the code names them

-- what completes is a copying
completes_one : (m : Machine) (s : CallState) (x : Driver) (k r : ℕ) (moment : Option ℤ) → IsEventReady m s x (events.Complete k r moment) → (c : CopyState) × (x ≡ drivers.Copy c)
completes_one m s (drivers.Copy c) k r moment ready = (c, refl)
completes_one m s (drivers.Once once.Leave) k r moment ready = absurd ready
completes_one m s x k r moment ready = absurd ready

-- the name under which a node's copying is stepped
abbrev node_name : ℕ → Who
node_name r = Actor (Node r)

module _ (w : World) (r k : ℕ) (moment : Option ℤ) (hand : InHand) (held : hand_at w.hands (node_name r) ≡ Some hand) (next : driver_next w.cluster (rooms_at w (client_by (node_name r))) hand.driver ≡ Event (events.Complete k r moment)) (shown : IsShown w) (roomy : HasNumbersLeft w) where
  pub completes_its : Completes w (node_name r) r k moment hand
  completes_its =
      let h = shown.shows.history in
      let (c, is) = completes_one (machine_of w h) (state_in h (node_name r) hand) hand.driver k r moment (event_ready w (node_name r) (events.Complete k r moment) hand held next shown) in
      subst (λ (z : InHand). Completes w (node_name r) r k moment z) (λ i. record hand { driver = sym is i })
      (completes_so w (node_name r) r k moment hand c (held ∙ (λ i. Some (record hand { driver = is i }))) (ap (driver_next w.cluster (rooms_at w (client_by (node_name r)))) (sym is) ∙ next) shown roomy)

  module _ (N : RecordState) (N_is : N ≡ swept (completed k r w.cluster)) (freed_nodes : List (List Replica)) (freed_are : freed_nodes ≡ freed N.entries w.nodes) (taken : InHand) (taken_is : taken ≡ hand_told N is_done hand) (pulled : Option copies.Snapshot) (pulled_is : pulled ≡ taken.snapshot) where
    -- what was pulled is in its hand still
    pulled_same : pulled ≡ hand.snapshot
    pulled_same = pulled_is ∙ ap (λ (z : InHand). z.snapshot) taken_is

    taken_same : taken ≡ hand_taken (done_of (completed_record w k r) verbs.Complete (Some k) (Some r) words.Ok) hand
    taken_same = taken_is ∙ ap (λ S. hand_told S is_done hand) N_is ∙ completes_its.keeps

    -- what taking it over asks
    pub complete_can : CanCopy r moment pulled (replica_in freed_nodes k r) (entry_of k N.entries)
    complete_can = rw (pulled_same, freed_are, N_is) completes_its.can

    pub complete_step : (end : Option Outcome) (nodes : List (List Replica)) (backgrounds : List Background) (place : Option InHand) (call : CallId) (word : OpWord) → end ≡ hand_outcome N is_done hand → nodes ≡ nodes_copied k r call moment pulled (entry_of k N.entries) freed_nodes → backgrounds ≡ backgrounds_left N.entries w.snapshots →
        place ≡ left end taken → call ≡ hand.call → word ≡ word_of_op hand.op →
        IsStep (node_name r) w (record w { cluster = N; nodes = nodes; snapshots = backgrounds; hands = set_at w.hands (node_name r) place }) (Stepped call word verbs.Complete (Some k) (Some r) words.Ok end beside.Nothing)
    complete_step end nodes backgrounds place call word end_is nodes_are backgrounds_are place_is call_is word_is =
        let R : RecordState = completed_record w k r in
        let its_end : Option Outcome = hand_outcome R is_done hand in
        let its_taken : InHand = hand_taken (done_of R verbs.Complete (Some k) (Some r) words.Ok) hand in
        rw (nodes_are, pulled_same, freed_are, backgrounds_are, place_is ∙ ap (left end) taken_same, call_is, word_is, end_is, N_is)
        (step_under (node_name r) w (record (completed_world w hand k r moment) { hands = set_at w.hands (node_name r) (left its_end its_taken) }) hand its_taken (word_of_op hand.op) verbs.Complete (Some k) (Some r) words.Ok its_end beside.Nothing held refl refl
        (hand_left w.hands (node_name r) hand its_taken its_end held refl) completes_its.does)
