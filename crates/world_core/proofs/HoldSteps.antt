-- A call holds its checkpoint, or the marks of a weak write keep it off: what that asks of the world, and what it makes of it.
use Rattle.std.proofs.Common.{◌≡◌, inl, ℕ, ◌<◌, length, true, refl, sym, ap, subst, ◌∙◌}
use Rattle.std.specs.Prelude.{Option, Some, None, Result, Ok, Err, IfSome, IsSome, IsSomeAnd, slice_index}
use Rattle.std.specs.Option.{option_map}
use Rattle.std.proofs.lemmas.Option.{same_Some}
use Rattle.ckpt_types.specs.declared.ais_error.AisError.TheVariants.{TryAgain}
use Rattle.ckpt_types.specs.declared.answers.Answer.TheVariants as answers
use Rattle.ckpt_types.specs.declared.answers.Cause.TheVariants.{Holder}
use Rattle.ckpt_types.specs.declared.calls.Held.{Held}
use Rattle.ckpt_types.specs.declared.answers.Outcome.{Outcome}
use Rattle.ckpt_types.specs.declared.answers.Outcome.TheVariants.{Refused}
use Rattle.ckpt_types.specs.declared.identities.CallId.{CallId}
use Rattle.ckpt_types.specs.declared.words.OpWord.{OpWord}
use Rattle.ckpt_types.specs.OpWord.{word_of_op}
use Rattle.ckpt_types.specs.Asks.{asked}
use Rattle.node_msgs.specs.declared.details.Details.TheVariants as beside
use Rattle.node_msgs.specs.declared.next.Next.TheVariants.{Event}
use Rattle.node_msgs.specs.declared.next.RecordStep.{RecordStep}
use Rattle.node_msgs.specs.declared.next.RecordStep.TheVariants as events
use Rattle.node_msgs.specs.declared.replies.Reply.TheVariants as replies
use Rattle.node_msgs.specs.declared.steps.StepReply.TheVariants as words
use Rattle.node_msgs.specs.declared.steps.Verb.TheVariants as verbs
use Rattle.run_labels.specs.declared.labels.Label.TheVariants.{Stepped}
use Rattle.snap_copy.specs.Snapshots as copies
use Rattle.weak_marks.specs.Marks.{call_of}
use Rattle.cluster_record.specs.DueOnce as once
use Rattle.cluster_record.specs.DueSync.{SyncState}
use Rattle.cluster_record.specs.RecordState.{RecordState, entry_of, complete_of, hold_set, is_live, swept}
use Rattle.cluster_record.specs.StepDone.{counting, done_of}
use Rattle.replica.specs.Replicas.{Replica, pull_result, pulled_from, pulled_unless}
use Rattle.ckpt_machine.specs.Drivers.{Driver}
use Rattle.ckpt_machine.specs.Drivers as drivers
use Rattle.ckpt_machine.specs.Driving.{driver_next, index_told}
use Rattle.ckpt_machine.specs.Facts.{HasLiveMarker, IsEventReady}
use Rattle.ckpt_machine.specs.Machine.{Machine, CallState}
use Rattle.ckpt_machine.specs.Due.{IsEventAnswer, Told, event_done, kept_off, marks_on}
use Rattle.client_calls.specs.declared.in_hand.InHand.{InHand}
use Rattle.world_core.specs.declared.world.World.{World}
use Rattle.world_core.specs.Alone.{ended_at}
use Rattle.world_core.specs.Freeing.{freed_world}
use Rattle.world_core.specs.Happenings.{IsStep, rooms_at}
use Rattle.client_calls.specs.HandSteps.{hand_taken}
use Rattle.client_calls.specs.CallStates.{synchronized_by}
use Rattle.ckpt_machine.specs.Nodes.{replica_in}
use Rattle.client_calls.specs.Taking.{hand_outcome, hand_told}
use Rattle.world_core.specs.Shows.{Does, IsShown, History, machine_of}
use Rattle.ckpt_machine.specs.Shown.{FitsReplica, IsRoomToCopy, complete_replica, shown_replica}
use Rattle.world_core.proofs.CallSteps.{IsKnown, known, step_under, IsShownBehind}
use Rattle.ckpt_machine.proofs.CopySteps.{counts_effects, copied_whole, room_alike}
use Rattle.world_core.proofs.EventEnds.{done_ends, done_keeps}
use Rattle.ckpt_machine.proofs.StepTaking.{is_done, takes_kept_off}
use Rattle.world_core.proofs.Finding.{copy_declared, replica_shown}
use Rattle.world_core.proofs.Held.{copy_stays, state_in}
use Rattle.world_core.proofs.MadeIds.{made_stays}
use Rattle.world_core.proofs.LiveRooms.{rooms_after}
use Rattle.world_core.proofs.Maps.{HasUnder, ended_going, hand_left}
use Rattle.world_core.proofs.RecordEvent.{done_beside, done_does, ended_does, ends_so, event_asks, event_ready, fits_recorded, recorded, told_so}
use Rattle.world_core.proofs.Recording.{with_effects}
use Rattle.ckpt_machine.proofs.OptionLemmas.{IsSomeAnd-at}
use Rattle.world_core.specs.HandsState.{hand_at, set_at}
use Rattle.client_calls.specs.Names.{client_by}
use Rattle.ckpt_types.specs.declared.identities.Who.{Who}

-- ---- a call that synchronizes

-- what its two steps ask, is asked of such a call
pub synchronizes : (m : Machine) (s : CallState) (x : Driver) (r : ℕ) → IsEventReady m s x (events.Hold r) → IsSome (synchronized_by x)
synchronizes m s (drivers.Sync u) r ready = refl
synchronizes m s (drivers.Once once.Leave) r ready = absurd ready
synchronizes m s x r ready = absurd ready

pub activates : (m : Machine) (s : CallState) (x : Driver) (r : ℕ) → IsEventReady m s x (events.Activate r) → IsSome (synchronized_by x)
activates m s (drivers.Sync u) r ready = refl
activates m s (drivers.Once once.Leave) r ready = absurd ready
activates m s x r ready = absurd ready

-- what holds of a call with such a driver, holds of each that synchronizes a checkpoint
pub by_sync : (P : InHand → ℕ → Type 0) (hand : InHand) (k : ℕ) → synchronized_by hand.driver ≡ Some k → ((u : SyncState) → hand.driver ≡ drivers.Sync u → P (record hand { driver = drivers.Sync u }) u.ckpt) → P hand k
by_sync P hand k one each = by_driver hand.driver refl one where
  by_driver : (x : Driver) → hand.driver ≡ x → synchronized_by x ≡ Some k → P hand k
  by_driver (drivers.Sync u) is one = subst (λ (z : InHand × ℕ). P z.0 z.1) (λ i. (record hand { driver = sym is i }, same_Some u.ckpt k one i)) (each u is)
  by_driver (drivers.Once x) is one = absurd (cc one)
  by_driver (drivers.Open o) is one = absurd (cc one)
  by_driver (drivers.Update u) is one = absurd (cc one)
  by_driver (drivers.Active a) is one = absurd (cc one)
  by_driver (drivers.Copy c) is one = absurd (cc one)

-- ---- a hold

-- what a hold of a checkpoint asks, and what it makes of the world and of its call
pub record Holds (w : World) (v : Who) (r : ℕ) (hand : InHand) (k : ℕ) : Type 0 where
  pub on_node : r < 8
  -- the active's replica, and what the call has in hand to copy it into
  pub replica : Replica
  pub at : replica_in w.nodes k r ≡ Some replica
  pub copy : copies.Snapshot
  pub had : hand.snapshot ≡ Some copy
  pub room : copy.attributes ≡ replica.attributes
  -- marks on it keep the call off
  pub kept_off : (by : CallId) → call_of replica.marks ≡ Some by → hand_outcome w.cluster (replies.Held by) hand ≡ Some (Refused TryAgain (Holder by))
  pub kept_off_does : (by : CallId) → call_of replica.marks ≡ Some by → let end : Option Outcome = Some (Refused TryAgain (Holder by)) in
      Does w (ended_at v end (record w { hands = set_at w.hands v None })) (Stepped hand.call (word_of_op hand.op) verbs.Hold (Some k) (Some r) (words.Held by) end beside.Nothing)
  -- else it goes on with the copy
  pub goes_on : hand_outcome (swept (hold_set k hand.call w.cluster)) is_done hand ≡ None
  pub keeps : hand_told (swept (hold_set k hand.call w.cluster)) is_done hand ≡ hand_taken (done_of (swept (hold_set k hand.call w.cluster)) verbs.Hold (Some k) (Some r) words.Ok) hand
  pub does : length w.nodes ≡ 8 → call_of replica.marks ≡ None → let N : RecordState = swept (hold_set k hand.call w.cluster) in
      Does w (freed_world (ended_at v None (record w { cluster = N; hands = set_at w.hands v (Some (hand_taken (done_of N verbs.Hold (Some k) (Some r) words.Ok) (record hand { snapshot = Some (pulled_from replica copy) }))) }))) (Stepped hand.call (word_of_op hand.op) verbs.Hold (Some k) (Some r) words.Ok None beside.Nothing)

module _ (w : World) (v : Who) (r : ℕ) (base : InHand) (u : SyncState) where
  abbrev hand : InHand
  hand = record base { driver = drivers.Sync u }

  abbrev step : RecordStep
  step = events.Hold r

  abbrev k : ℕ
  k = u.ckpt

  module _ (held : hand_at w.hands v ≡ Some hand) (next : driver_next w.cluster (rooms_at w (client_by v)) (drivers.Sync u) ≡ Event step) where
    module _ (h : History) (is : IsKnown w h) where
      -- what is due asks it
      asks : IsEventReady (machine_of w h) (state_in h v hand) (drivers.Sync u) step
      asks = event_asks w v step hand held next h is

      -- of the replica that the active has
      module _ (x : Replica) (complete_is : complete_replica w.cluster w.nodes k r ≡ Some x) where
        shown_is : (machine_of w h).replicas k r ≡ shown_replica (h.effects k r) (h.origins k r) (Some x)
        shown_is = ap (shown_replica (h.effects k r) (h.origins k r)) complete_is

        its : FitsReplica k (entry_of k w.cluster.entries) (h.effects k r) (Some x)
        its = subst (FitsReplica k (entry_of k w.cluster.entries) (h.effects k r)) complete_is (is.fits.replicas k r)

        -- there is room for it
        roomy : (t : copies.Snapshot) × (hand.snapshot ≡ Some t) × (t.attributes ≡ x.attributes)
        roomy =
            let (e, there, none) = IsSomeAnd-at (entry_of k w.cluster.entries) (λ e. e.hold ≡ None) asks.3 in
            let same = subst (λ o. FitsReplica k o (h.effects k r) (Some x)) there its in
            IsSomeAnd-at hand.snapshot (λ s. s.attributes ≡ x.attributes) (copy_declared w h v r hand is.facts is.fits held k asks.2 x e there same.1)

        -- a call whose marks stand on it is live
        marker_live : (by : CallId) → call_of x.marks ≡ Some by → is_live w.cluster by ≡ true
        marker_live by marked = subst (λ o. IfSome o (λ d. is_live w.cluster d ≡ true)) marked (subst (λ o. IsSomeAnd o (HasLiveMarker w.cluster)) shown_is asks.4.marker)

        -- its marks decide
        marks_are : call_of x.marks ≡ kept_off (machine_of w h) (Some k) step
        marks_are = ap (λ y. call_of (marks_on y)) (sym shown_is)

        shown_held : length w.nodes ≡ 8 → call_of x.marks ≡ None → (t : copies.Snapshot) → hand.snapshot ≡ Some t →
            IsShownBehind w v hand held (recorded w v step hand held next) (with_effects w) verbs.Hold (Some k) (Some r) words.Ok None beside.Nothing 0 (Some (pulled_from x t)) hand.made (λ h. Some (h.effects k r)) (Event step) h
        shown_held eight unmarked t had = record {
          done = let told : Told = record { verb = verbs.Hold; ckpt = Some k; node = Some r; reply = words.Ok; end = None; details = beside.Nothing } in
              told_so w v step hand held next h is words.Ok None (subst (λ o. IsEventAnswer o None (event_done (machine_of w h) (state_in h v hand) step told) step told) (sym unmarked ∙ marks_are) (inl (refl, sym (ends_so w v step hand held next h is tt words.Ok None))));
          change = done_beside w v step hand held next h is tt eight refl;
          fits = fits_recorded w v step hand held next h is tt eight refl;
          count_is = refl;
          copy_is =
              let has = copy_stays w h v hand held is.fits in
              let copied = copied_whole ((machine_of w h).replicas k r) (h.effects k r) (h.origins k r) x t shown_is (counts_effects k (h.effects k r) x (entry_of k w.cluster.entries) its)
              (IsRoomToCopy (asked hand.op) (h.beginnings v).kept.declares) (λ s t attributes. room_alike (asked hand.op) (h.beginnings v).kept.declares s t attributes)
              (subst (IsRoomToCopy (asked hand.op) (h.beginnings v).kept.declares) had has.room) in
              record { same = copied.same; room = copied.room; counts = copied.counts };
          made_is = made_stays w h v hand held is.fits verbs.Hold (Some k) (Some r) (counting 0 (done_of (recorded w v step hand held next).cluster verbs.Hold (Some k) (Some r) words.Ok)) refl tt;
        }

    holds_here : IsShown w → Holds w v r hand k
    holds_here shown =
        let h : History = shown.shows.history in
        let is : IsKnown w h = known w shown in
        let (x, at, complete) = replica_shown (h.effects k r) (h.origins k r) (slice_index (complete_of (entry_of k w.cluster.entries)) r) (replica_in w.nodes k r) (asks h is).1 in
        let (t, had, room) = roomy h is x complete in
        record {
          on_node = (asks h is).0;
          replica = x;
          at = at;
          copy = t;
          had = had;
          room = room;
          kept_off = λ by marked. ap (option_map (index_told hand.op)) (takes_kept_off w.cluster u r by next (marker_live h is x complete by marked));
          kept_off_does = λ by marked. ended_does w v step hand held next (words.Held by) (Refused TryAgain (Holder by)) tt
              (λ h is. (
                refl,
                let told : Told = record { verb = verbs.Hold; ckpt = Some k; node = Some r; reply = words.Held by; end = Some (Refused TryAgain (Holder by)); details = beside.Nothing } in
                    subst (λ o. IsEventAnswer o None (event_done (machine_of w h) (state_in h v hand) step told) step told) (sym marked ∙ marks_are h is x complete) (refl, refl),
              ));
          goes_on = done_ends w v step hand held next shown tt refl (swept (hold_set k hand.call w.cluster)) (Some k) refl refl;
          keeps = done_keeps w v step hand held next shown refl (swept (hold_set k hand.call w.cluster)) (Some k) (Some r) refl refl refl;
          does = λ eight unmarked. done_does w v step hand held next w.hands w.tables (Some (pulled_from x t)) (λ h. Some (h.effects k r)) tt eight refl held (λ h is. shown_held h is x complete eight unmarked t had) (rooms_after hand.call hand.driver step w.cluster w.tables tt);
        }

module _ (w : World) (v : Who) (r : ℕ) (hand : InHand) (held : hand_at w.hands v ≡ Some hand) (next : driver_next w.cluster (rooms_at w (client_by v)) hand.driver ≡ Event (events.Hold r)) (shown : IsShown w) where
  -- it synchronizes a checkpoint
  pub holds_one : IsSome (synchronized_by hand.driver)
  holds_one = let h = shown.shows.history in synchronizes (machine_of w h) (state_in h v hand) hand.driver r (event_ready w v (events.Hold r) hand held next shown)

  pub holds_its : (k : ℕ) → synchronized_by hand.driver ≡ Some k → Holds w v r hand k
  holds_its k one = by_sync (Holds w v r) hand k one (λ u is. holds_here w v r hand u (held ∙ (λ i. Some (record hand { driver = is i }))) (ap (driver_next w.cluster (rooms_at w (client_by v))) (sym is) ∙ next) shown)

-- ---- with the parts as the code names them

abbrev by_of : Result (Unit {0}) Held → CallId → CallId
by_of (Ok done) call = call
by_of (Err held) call = held.by

-- marks keep a copy off just where it says so
marked_by : (o : Option CallId) (held : Held) → pull_result o ≡ Err held → o ≡ Some held.by
marked_by None held is = absurd (cc is)
marked_by (Some by) held is = ap (λ result. Some (by_of result by)) is

unmarked : (o : Option CallId) (done : Unit {0}) → pull_result o ≡ Ok done → o ≡ None
unmarked None done is = refl
unmarked (Some by) done is = absurd (cc is)

module _ (w : World) (v : Who) (r : ℕ) (hand : InHand) (held : hand_at w.hands v ≡ Some hand) (k : ℕ) (its : Holds w v r hand k) where
  -- what the copy asks
  pub has_room : IsSomeAnd hand.snapshot (λ s. IsSomeAnd (replica_in w.nodes k r) (λ x. s.attributes ≡ x.attributes))
  has_room = subst (λ (z : Option copies.Snapshot × Option Replica). IsSomeAnd z.0 (λ s. IsSomeAnd z.1 (λ x. s.attributes ≡ x.attributes))) (λ i. (sym its.had i, sym its.at i)) its.room

  module _ (result : Result (Unit {0}) Held) (answer : IfSome (replica_in w.nodes k r) (λ x. result ≡ pull_result (call_of x.marks))) (copied : InHand) (copied_is : IfSome (replica_in w.nodes k r) (λ x. copied ≡ record hand { snapshot = option_map (pulled_unless (call_of x.marks) x) hand.snapshot })) where
    abbrev x : Replica
    x = its.replica

    answered : pull_result (call_of x.marks) ≡ result
    answered = sym (subst (λ y. IfSome y (λ x. result ≡ pull_result (call_of x.marks))) its.at answer)

    copy_is : copied ≡ record hand { snapshot = option_map (pulled_unless (call_of x.marks) x) hand.snapshot }
    copy_is = subst (λ y. IfSome y (λ x. copied ≡ record hand { snapshot = option_map (pulled_unless (call_of x.marks) x) hand.snapshot })) its.at copied_is

    -- how the call takes that it is kept off
    pub kept_off_ends : (by : Held) → result ≡ Err by → hand_outcome w.cluster (replies.Held by.by) copied ≡ Some (Refused TryAgain (Holder by.by))
    kept_off_ends by refused = ap (hand_outcome w.cluster (replies.Held by.by)) copy_is ∙ its.kept_off by.by (marked_by (call_of x.marks) by (answered ∙ refused))

    pub kept_off_step : (new : World) (by : Held) (word : OpWord) → result ≡ Err by → new ≡ ended_at v (Some (Refused TryAgain (Holder by.by))) (record w { hands = set_at w.hands v None }) → word ≡ word_of_op hand.op →
        IsStep v w new (Stepped hand.call word verbs.Hold (Some k) (Some r) (words.Held by.by) (Some (Refused TryAgain (Holder by.by))) beside.Nothing)
    kept_off_step new by word refused new_is word_is =
        let end : Option Outcome = Some (Refused TryAgain (Holder by.by)) in
        step_under v w new hand hand word verbs.Hold (Some k) (Some r) (words.Held by.by) end beside.Nothing held refl refl
        (subst (λ (z : World). HasUnder w.hands v None z.hands) (sym new_is) (hand_left w.hands v hand hand end held refl))
        (rw (new_is, word_is) (its.kept_off_does by.by (marked_by (call_of x.marks) by (answered ∙ refused))))

    module _ (done : Unit {0}) (ok : result ≡ Ok done) (R : RecordState) (R_is : R ≡ swept (hold_set k hand.call w.cluster)) where
      free_of_marks : call_of x.marks ≡ None
      free_of_marks = unmarked (call_of x.marks) done (answered ∙ ok)

      copied_so : copied ≡ record hand { snapshot = Some (pulled_from x its.copy) }
      copied_so = copy_is ∙ (λ i. record hand { snapshot = option_map (pulled_unless (free_of_marks i) x) (its.had i) })

      -- how it takes that it holds the checkpoint: it goes on
      pub hold_goes_on : hand_outcome R (replies.Done answers.Nothing) copied ≡ None
      hold_goes_on = (λ i. hand_outcome (R_is i) is_done (copied_so i)) ∙ its.goes_on

      pub hold_keeps : hand_told R (replies.Done answers.Nothing) copied ≡ hand_taken (done_of R verbs.Hold (Some k) (Some r) words.Ok) copied
      hold_keeps = (λ i. hand_told (R_is i) is_done (copied_so i)) ∙ ap (λ (z : InHand). record z { snapshot = Some (pulled_from x its.copy) }) its.keeps ∙ (λ i. hand_taken (done_of (sym R_is i) verbs.Hold (Some k) (Some r) words.Ok) (sym copied_so i))

      pub hold_step : length w.nodes ≡ 8 → (freed_of : World) (taken : InHand) (word : OpWord) → taken ≡ hand_taken (done_of R verbs.Hold (Some k) (Some r) words.Ok) copied → freed_of ≡ freed_world (record w { cluster = R; hands = set_at w.hands v (Some taken) }) → word ≡ word_of_op hand.op →
          IsStep v w freed_of (Stepped hand.call word verbs.Hold (Some k) (Some r) words.Ok None beside.Nothing)
      hold_step eight freed_of taken word taken_is freed_is word_is =
          let N : RecordState = swept (hold_set k hand.call w.cluster) in
          let told : InHand = hand_taken (done_of N verbs.Hold (Some k) (Some r) words.Ok) (record hand { snapshot = Some (pulled_from x its.copy) }) in
          let same : taken ≡ told = taken_is ∙ (λ i. hand_taken (done_of (R_is i) verbs.Hold (Some k) (Some r) words.Ok) (copied_so i)) in
          let behind : freed_of ≡ freed_world (ended_at v None (record w { cluster = N; hands = set_at w.hands v (Some told) }))
          = freed_is ∙ (λ i. freed_world (record w { cluster = R_is i; hands = set_at w.hands v (Some (same i)) })) ∙ ap freed_world (sym (ended_going v (record w { cluster = N; hands = set_at w.hands v (Some told) }))) in
          step_under v w freed_of hand told word verbs.Hold (Some k) (Some r) words.Ok None beside.Nothing held refl refl
          (subst (λ (z : World). HasUnder w.hands v (Some told) z.hands) (sym behind) (hand_left w.hands v hand told None held refl))
          (rw (behind, word_is) (its.does eight free_of_marks))
