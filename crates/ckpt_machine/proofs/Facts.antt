-- What the code relies on holds wherever the invariant does.
use Rattle.std.proofs.Common.{◌≡◌, ℕ, inl, inr, ◌<◌, List, length, slice_index, Option, Some, None, Bool, true, false, cond, not, ◌&&◌, ◌==◌, nat_le, ℤ, refl, sym, ap, subst, ◌∙◌}
use Rattle.std.specs.Prelude.{is_some, IsSome, IsSomeAnd, IfSome, pos, ◌≤ℤ◌}
use Rattle.std.proofs.lemmas.Bool.{eqb-true, leb-false}
use Rattle.ckpt_types.specs.declared.ais_error.AisError.TheVariants.{NoResources, BadOperation, TryAgain}
use Rattle.ckpt_types.specs.declared.answers.Cause.TheVariants.{Plain, Count, Holder, Generations}
use Rattle.ckpt_types.specs.declared.answers.Outcome.TheVariants.{Refused}
use Rattle.ckpt_types.specs.declared.answers.Outcome.{Outcome}
use Rattle.ckpt_types.specs.declared.identities.CallId.{CallId}
use Rattle.ckpt_types.specs.declared.sections.Choice.{Choice}
use Rattle.node_msgs.specs.declared.requests.Request.{Request}
use Rattle.node_msgs.specs.declared.requests.Request.TheVariants as requests
use Rattle.node_msgs.specs.declared.next.Next.{Next}
use Rattle.node_msgs.specs.declared.next.Next.TheVariants.{Serve, Event, End}
use Rattle.node_msgs.specs.declared.next.RecordStep.TheVariants as events
use Rattle.node_msgs.specs.Requests.{ckpt_of}
use Rattle.cluster_record.specs.declared.calls.ActiveKind.{ActiveKind}
use Rattle.cluster_record.specs.declared.calls.ActiveKind.TheVariants as kinds
use Rattle.cluster_record.specs.declared.calls.UpdatePhase.{UpdatePhase}
use Rattle.cluster_record.specs.declared.calls.UpdatePhase.TheVariants.{Staging, Committing, Claiming, Claimed, Withdrawing, Resolving}
use Rattle.cluster_record.specs.declared.entries.Entry.{Entry}
use Rattle.cluster_record.specs.DueActive.{unless_changed, unless_on_hold, is_update, on_active, request_by, starts_iteration, active_on}
use Rattle.cluster_record.specs.DueOnce.{OneStep, Enter, Leave, Close, Unlink, Retain, enter_next, close_of, unlink_of, unlink_of_making, retain_of, once_next}
use Rattle.cluster_record.specs.DueOpen.{OpenState}
use Rattle.cluster_record.specs.DueSync.{SyncState, first_unserved, install_next, unless_stale, lead_next, unless_held, synchronize_next, kind_next, sync_on, sync_next}
use Rattle.cluster_record.specs.declared.calls.SyncKind.{SyncKind}
use Rattle.cluster_record.specs.declared.calls.SyncKind.TheVariants.{Synchronize, ActiveSet}
use Rattle.cluster_record.specs.declared.calls.PulledAt.{PulledAt}
use Rattle.cluster_record.specs.DueUpdate.{UpdateState, by_phase, stage_at, commit_at, commit_first, update_led, update_next, update_on, claim_at}
use Rattle.cluster_record.specs.RecordState.{entry_of, named, is_live, can_be_held, can_lead}
use Rattle.cluster_record.specs.StepDone.{has, first_lacking, last_having}
use Rattle.ckpt_types.specs.Asks.{asked, update_asked, IsBuiltAsk, IsBuilt}
use Rattle.ckpt_machine.specs.Drivers.{Driver, Rooms, update_in}
use Rattle.ckpt_machine.specs.Drivers as drivers
use Rattle.ckpt_machine.specs.Driving.{driver_next}
use Rattle.ckpt_machine.specs.Machine.{Machine, CallState, who}
use Rattle.node_core.specs.Fitting.{IsReadyFor}
use Rattle.cluster_record.specs.Placement.{is_all, is_collocated}
use Rattle.ckpt_machine.specs.Due.{due, driver_of, room_in, room_at, rooms_of}
use Rattle.ckpt_machine.specs.Seen.{seen_at, seen, seen_slot}
use Rattle.ckpt_machine.specs.Facts.{IsActive, IsAtRest, IsLeadable, IsStarting, IsGoingOn, HasCopyRoom, HasLiveMarker, Facts}
use Rattle.ckpt_machine.specs.InHand.{MarksFit, IsEnterAt, IsOnceAt, IsInPlace, IsActiveIn, is_held_by, IsSynchronizeIn, IsSettingIn}
use Rattle.ckpt_machine.specs.Invariant.{InvariantIn, Invariant, IsGoodIn}
use Rattle.ckpt_machine.specs.GuardTerms.{deadline_of}
use Rattle.ckpt_machine.specs.Shape.{Shape, marks_at, IsSpread}
use Rattle.ckpt_machine.specs.Tables.{takes_copy}
use Rattle.section_iter.specs.Room.{room_declared}
use Rattle.cluster_record.specs.LookUps.{declared_in}
use Rattle.ckpt_machine.proofs.ActiveNode.{AsksOf, by_kind as asks_of_kind, is_change, ActiveOf, active_of, active_seen, active_next-there}
use Rattle.ckpt_machine.proofs.ActiveBy.{active_by-complete}
use Rattle.ckpt_machine.proofs.Actors.{same_call-true, same_call-refl}
use Rattle.ckpt_machine.proofs.MarksAt.{marks_here, none_marked}
use Rattle.ckpt_machine.proofs.NodeLists.{index-within}
use Rattle.ckpt_machine.proofs.SettingActive.{at_setting, spread, collocated, on_complete, complete_here, own_hold}
use Rattle.cluster_record.specs.Calls.{same_call}
use Rattle.std.proofs.lemmas.Option.{same_Some}
use Rattle.ckpt_machine.proofs.CopyReady.{copy_ready}
use Rattle.ckpt_machine.proofs.DueReady.{IsDueReady}
use Rattle.ckpt_machine.proofs.Deadlines.{in_time-either}
use Rattle.ckpt_machine.proofs.Installing.{below, free_there}
use Rattle.ckpt_machine.proofs.OnTheActive.{apart, marker_live}
use Rattle.weak_marks.specs.Marks.{Marked, call_of}
use Rattle.ckpt_machine.proofs.Sync.{at_sync, has_pulled}
use Rattle.ckpt_machine.proofs.Weak.{marks_ready}
use Rattle.replica.specs.Replicas.{IsWrite}
use Rattle.cluster_record.specs.declared.calls.MarksMade.{MarksMade}
use Rattle.ckpt_machine.proofs.OpenReady.{IsReadyOpen, open_ready, open_fits}
use Rattle.ckpt_machine.proofs.OwnMaking.{making_is}
use Rattle.ckpt_machine.proofs.Propagated.{complete_there, target_there, target_free}
use Rattle.ckpt_machine.proofs.UpdateReady.{IsReadyNext, update_ready}
use Rattle.ckpt_types.specs.declared.identities.Who.{Who}
use Rattle.ckpt_machine.proofs.OptionLemmas.{IsSomeAnd-from, IfSome-at}

-- ---- an open

-- it asks nothing for an iteration, and stages nothing
open_due : (m : Machine) (s : CallState) (o : OpenState) (next : Next) → IsReadyOpen m s o next → IsDueReady m s (drivers.Open o) next
open_due m s o (Serve r (requests.Reserve k)) ready = (ready.0, ready.1, tt, tt, tt)
open_due m s o (Serve r request) ready = absurd ready.2
open_due m s o (Event step) ready = ready
open_due m s o (End outcome) ready = tt

-- ---- an update

-- it asks nothing for an iteration
update_due : (m : Machine) (s : CallState) (u : UpdateState) → IsReadyNext m s (update_next m.cluster u) → IsDueReady m s (drivers.Update u) (update_next m.cluster u)
update_due m s u ready = by_entry (entry_of u.ckpt m.cluster.entries) ready
  where
    by_last : (last : Option ℕ) → IsReadyNext m s (commit_at u last) → IsDueReady m s (drivers.Update u) (commit_at u last)
    by_last None ready = tt
    by_last (Some r) ready = (ready.0, ready.1, ready.2, ready.3, tt)

    by_first_commit : (last : Option ℕ) → IsReadyNext m s (commit_first u last) → IsDueReady m s (drivers.Update u) (commit_first u last)
    by_first_commit None ready = tt
    by_first_commit (Some r) ready = by_last (Some r) ready

    by_first : (first last : Option ℕ) → IsReadyNext m s (stage_at u m.cluster.moment first last) → IsDueReady m s (drivers.Update u) (stage_at u m.cluster.moment first last)
    by_first None last ready = by_first_commit last ready
    by_first (Some r) last ready = (ready.0, ready.1, ready.2, ready.3, tt)

    by_claim : (first last : Option ℕ) → IsReadyNext m s (claim_at u first last) → IsDueReady m s (drivers.Update u) (claim_at u first last)
    by_claim None last ready = by_first_commit last ready
    by_claim (Some r) last ready = (ready.0, ready.1, ready.2, ready.3, tt)

    by_phases : (first last : Option ℕ) (ph : UpdatePhase) → IsReadyNext m s (by_phase u m.cluster.moment first last ph) → IsDueReady m s (drivers.Update u) (by_phase u m.cluster.moment first last ph)
    by_phases first last Staging ready = by_first first last ready
    by_phases first last Committing ready = by_last last ready
    by_phases first last Claiming ready = by_claim first last ready
    by_phases first None Claimed ready = by_first first None ready
    by_phases first (Some p) Claimed ready = by_claim first (Some p) ready
    by_phases first None Withdrawing ready = by_first first None ready
    by_phases first (Some p) Withdrawing ready = (ready.0, ready.1, ready.2, ready.3, tt)
    by_phases first None Resolving ready = by_first first None ready
    by_phases first (Some p) Resolving ready = by_last (Some p) ready

    by_active : (e : Entry) (active : Option ℕ) → IsReadyNext m s (update_led u m.cluster.moment e active) → IsDueReady m s (drivers.Update u) (update_led u m.cluster.moment e active)
    by_active e None ready = tt
    by_active e (Some active) ready = by_phases (first_lacking 0 e.complete u.owned) (last_having 0 e.complete u.owned) u.phase ready

    by_entry : (o : Option Entry) → IsReadyNext m s (update_on u m.cluster.moment o) → IsDueReady m s (drivers.Update u) (update_on u m.cluster.moment o)
    by_entry None ready = tt
    by_entry (Some e) ready = by_active e e.active ready

-- ---- a call to the active

module _ (m : Machine) (shapes : ℕ → Shape) (inv : InvariantIn shapes m) (s : CallState) (call : CallId) (k : ℕ) (kind : ActiveKind) (made : Option MarksMade) (held : m.in_hand (who s) ≡ Some s) (is : driver_of s ≡ drivers.Active (record { call = call; ckpt = k; kind = kind; marks = made })) where
  at_active : IsActiveIn m shapes s (record { call = call; ckpt = k; kind = kind; marks = made })
  at_active = subst (λ d. IsInPlace m shapes s d) is (inv.hands (who s) s held).here

  -- its operation is built
  built : IsBuilt s.op
  built = (inv.hands (who s) s held).built

  abbrev driver : Driver
  driver = drivers.Active (record { call = call; ckpt = k; kind = kind; marks = made })

  module _ (at : ActiveOf m (shapes k).marks k) where
    seen_there : (request : Request) → ckpt_of request ≡ k → IsReadyFor request (seen k at.entry.attributes at.replica) → IsSomeAnd (seen_at m (ckpt_of request) at.node) (IsReadyFor request)
    seen_there request about ready = IsSomeAnd-from (seen_at m (ckpt_of request) at.node) (IsReadyFor request) (seen k at.entry.attributes at.replica) (ap (λ j. seen_at m j at.node) about ∙ active_seen m (shapes k).marks k at) ready

    -- it kept room for all that its checkpoint declares
    kept_all : s.kept.room ≡ room_at m.cluster (Some k)
    kept_all = subst (λ o. IfSome o (λ (e : Entry). s.kept.room ≡ room_declared e.attributes)) at.found at_active.room ∙ ap (λ o. room_in (declared_in o)) (sym at.found)

    is_starting : (choice : Choice) → AsksOf s.kept.weak (kinds.Iterate choice) (asked s.op) → IsStarting m s k choice
    is_starting choice (iteration, place, chosen, time, is_asked, choice_is) = record {
      iteration = iteration;
      place = place;
      chosen = chosen;
      time = time;
      asks = is_asked;
      choice_is = choice_is;
      within = (subst IsBuiltAsk is_asked built).0;
      handle = at_active.handle;
      room = kept_all;
      active = subst IsActive (sym is) tt;
    }

    is_going_on : AsksOf s.kept.weak kinds.Next (asked s.op) → IsGoingOn m s
    is_going_on (iteration, is_asked) = record { iteration = iteration; asks = is_asked; within = subst IsBuiltAsk is_asked built; handle = at_active.handle }

    -- nothing is staged on the active, where an update goes there
    free : is_change kind ≡ true → seen_slot (length at.replica.effects) at.replica.slot ≡ None
    free change = ap (seen_slot (length at.replica.effects)) (apart m shapes inv s call k kind made held at change is).free

    by_kind : (x : ActiveKind) → kind ≡ x → AsksOf s.kept.weak x (asked s.op) → MarksFit x made → (b : Bool) → IsDueReady m s driver (cond b (End (Refused NoResources (Count 8))) (unless_on_hold x at.entry.hold (unless_changed made at.entry.generation (Serve at.node (request_by call k x made)))))
    by_kind x kind_is asks fit true = tt
    by_kind x kind_is asks fit false = by_hold at.entry.hold refl
      where
        -- an update is asked for only where no call holds the checkpoint
        by_made : (x : ActiveKind) → (is_update x ≡ true → at.entry.hold ≡ None) → kind ≡ x → AsksOf s.kept.weak x (asked s.op) → (o : Option MarksMade) → made ≡ o → MarksFit x o → IsDueReady m s driver (unless_changed o at.entry.generation (Serve at.node (request_by call k x o)))
        by_made kinds.Read free_then kind_is asks None none fit = (at.within, seen_there (requests.Read k) refl tt, tt, tt, tt)
        by_made kinds.Status free_then kind_is asks None none fit = (at.within, seen_there (requests.Status k) refl tt, tt, tt, tt)
        by_made (kinds.Iterate choice) free_then kind_is asks None none fit = (at.within, seen_there (requests.Iterate call k choice) refl tt, tt, tt, is_starting choice asks)
        by_made kinds.Next free_then kind_is asks None none fit = (at.within, seen_there (requests.Next call k) refl tt, tt, tt, is_going_on asks)
        by_made kinds.Apply free_then kind_is asks None none fit = (at.within, seen_there (requests.Apply call k) refl (free (ap is_change kind_is)), tt, tt, tt)
        by_made (kinds.Weak n) free_then kind_is asks None none fit = (at.within, seen_there (requests.Mark call k) refl (free (ap is_change kind_is)), tt, tt, subst (λ a. IsWrite (update_asked a)) (sym asks.2) tt)
        by_made (kinds.Weak n) free_then kind_is asks (Some w) made_is fit = by_generation (w.generation == at.entry.generation) refl
          where
            by_left : (w.generation == at.entry.generation) ≡ true → (b : Bool) → (w.left == 0) ≡ b → IsDueReady m s driver (Serve at.node (cond b (requests.Unmark call k) (requests.Element call k)))
            by_left same true none = (at.within, seen_there (requests.Unmark call k) refl (marks_ready m shapes inv s call k n made held at (free_then refl) (is ∙ ap (λ x. drivers.Active (record { call = call; ckpt = k; kind = x; marks = made })) kind_is) w made_is same true none), tt, tt, tt)
            by_left same false some = (at.within, seen_there (requests.Element call k) refl (marks_ready m shapes inv s call k n made held at (free_then refl) (is ∙ ap (λ x. drivers.Active (record { call = call; ckpt = k; kind = x; marks = made })) kind_is) w made_is same false some), tt, tt, tt)

            by_generation : (b : Bool) → (w.generation == at.entry.generation) ≡ b → IsDueReady m s driver (cond b (Serve at.node (request_by call k (kinds.Weak n) (Some w))) (End (Refused TryAgain (Generations w.generation at.entry.generation))))
            by_generation true same = by_left same (w.left == 0) refl
            by_generation false other = tt
        by_made x free_then kind_is asks (Some w) made_is fit = absurd fit

        by_update : (b : Bool) → is_update x ≡ b → (o : Outcome) → IsDueReady m s driver (cond b (End o) (unless_changed made at.entry.generation (Serve at.node (request_by call k x made))))
        by_update true updates o = tt
        by_update false none o = by_made x (λ updates. absurd (let w : false ≡ true = sym none ∙ updates in cc w)) kind_is asks made refl fit

        by_hold : (hold : Option CallId) → at.entry.hold ≡ hold → IsDueReady m s driver (unless_on_hold x hold (unless_changed made at.entry.generation (Serve at.node (request_by call k x made))))
        by_hold None free_then = by_made x (λ updates. free_then) kind_is asks made refl fit
        by_hold (Some holder) holds = by_update (is_update x) refl (Refused TryAgain (Holder holder))

  active_ready : (rooms : Rooms) → IsDueReady m s driver (driver_next m.cluster rooms driver)
  active_ready rooms = by_entry (entry_of k m.cluster.entries) refl
    where
      by_entry : (o : Option Entry) → entry_of k m.cluster.entries ≡ o → IsDueReady m s driver (driver_next m.cluster rooms driver)
      by_entry None gone = subst (IsDueReady m s driver) (sym (ap (active_on rooms.iterations (record { call = call; ckpt = k; kind = kind; marks = made })) gone)) tt
      by_entry (Some e) found = elim (active_of m shapes k e inv at_active.made found) [
        | inl none ↦ subst (IsDueReady m s driver) (sym (ap (active_on rooms.iterations (record { call = call; ckpt = k; kind = kind; marks = made })) found ∙ ap (on_active rooms.iterations (record { call = call; ckpt = k; kind = kind; marks = made }) e.generation e.hold) none)) tt
        | inr at ↦ subst (IsDueReady m s driver) (sym (active_next-there m (shapes k).marks k at call kind made rooms)) (by_kind at kind refl (asks_of_kind s.kept.all s.kept.weak (asked s.op) kind at_active.kind) at_active.fit (starts_iteration kind && not rooms.iterations))
      ]

-- ---- a synchronisation

module _ (m : Machine) (shapes : ℕ → Shape) (inv : InvariantIn shapes m) (s : CallState) (u : SyncState) (held : m.in_hand (who s) ≡ Some s) (is : driver_of s ≡ drivers.Sync u) (sync : (deadline : Option ℤ) × (u.kind ≡ Synchronize deadline)) where
  its : IsSynchronizeIn m s u
  its = at_sync m shapes inv s u held is sync

  module _ (at : ActiveOf m (shapes u.ckpt).marks u.ckpt) where
    -- it has room for a copy of what its checkpoint declares
    has_copy_room : HasCopyRoom m s u.ckpt
    has_copy_room = record {
      takes = ap takes_copy its.asks;
      declares = IsSomeAnd-from (entry_of u.ckpt m.cluster.entries) (λ e. s.kept.declares ≡ Some e.attributes) at.entry at.found (subst (λ o. IfSome o (λ (e : Entry). s.kept.declares ≡ Some e.attributes)) at.found its.declares);
    }

    pull_ready : IsDueReady m s (drivers.Sync u) (Serve at.node (requests.Pull u.call u.ckpt))
    pull_ready = (at.within, IsSomeAnd-from (seen_at m u.ckpt at.node) (IsReadyFor (requests.Pull u.call u.ckpt)) (seen u.ckpt at.entry.attributes at.replica) (active_seen m (shapes u.ckpt).marks u.ckpt at) tt, tt, tt, has_copy_room)

    install_ready : (p : PulledAt) → u.pulled ≡ Some p → p.generation ≡ at.entry.generation → (r : Option ℕ) → first_unserved 0 at.entry.complete u.served ≡ r → IsDueReady m s (drivers.Sync u) (install_next u.call u.ckpt p.count r)
    install_ready p keeps present None none = tt
    install_ready p keeps present (Some r) next = (
      below m shapes inv s u held is sync at p keeps present r next,
      free_there m shapes inv s u held is sync at p keeps present r next,
      tt,
      tt,
      (has_copy_room, let pulled = has_pulled m shapes inv s u held is sync p keeps in ap is_some pulled.in_hand),
    )

    pulled_ready : (o : Option PulledAt) → u.pulled ≡ o → IsDueReady m s (drivers.Sync u) (unless_stale u at.entry at.node o)
    pulled_ready None first = pull_ready
    pulled_ready (Some p) keeps = by_generation (p.generation == at.entry.generation) refl
      where
        by_generation : (b : Bool) → (p.generation == at.entry.generation) ≡ b → IsDueReady m s (drivers.Sync u) (cond b (install_next u.call u.ckpt p.count (first_unserved 0 at.entry.complete u.served)) (End (Refused TryAgain (Generations p.generation at.entry.generation))))
        by_generation true same = install_ready p keeps (eqb-true p.generation at.entry.generation same) (first_unserved 0 at.entry.complete u.served) refl
        by_generation false other = tt

  synchronize_ready : IsDueReady m s (drivers.Sync u) (sync_next m.cluster u)
  synchronize_ready = by_entry (entry_of u.ckpt m.cluster.entries) refl
    where
      by_entry : (o : Option Entry) → entry_of u.ckpt m.cluster.entries ≡ o → IsDueReady m s (drivers.Sync u) (sync_next m.cluster u)
      by_entry None gone = subst (IsDueReady m s (drivers.Sync u)) (sym (ap (sync_on m.cluster u) gone)) tt
      by_entry (Some e) found = elim (active_of m shapes u.ckpt e inv its.made found) [
        | inl none ↦ subst (IsDueReady m s (drivers.Sync u)) (sym (ap (sync_on m.cluster u) found ∙ ap (kind_next m.cluster u e) its.kind ∙ ap (synchronize_next m.cluster u (deadline_of s) e) none)) tt
        | inr at ↦ subst (IsDueReady m s (drivers.Sync u)) (sym (ap (sync_on m.cluster u) at.found ∙ ap (kind_next m.cluster u at.entry) its.kind ∙ ap (synchronize_next m.cluster u (deadline_of s) at.entry) at.active))
            (in_time-either (IsDueReady m s (drivers.Sync u)) (deadline_of s) m.cluster.moment (unless_stale u at.entry at.node u.pulled) (λ o. tt) (pulled_ready at u.pulled refl))
      ]

-- ---- the setting of an active

module _ (m : Machine) (shapes : ℕ → Shape) (inv : InvariantIn shapes m) (s : CallState) (u : SyncState) (held : m.in_hand (who s) ≡ Some s) (is : driver_of s ≡ drivers.Sync u) (local : ℕ) (kind : u.kind ≡ ActiveSet local) where
  sets : IsSettingIn m s u local
  sets = at_setting m shapes inv s u held is local kind

  module _ (e : Entry) (found : entry_of u.ckpt m.cluster.entries ≡ Some e) where
    -- it has room for a copy of what its checkpoint declares
    setting_room : HasCopyRoom m s u.ckpt
    setting_room = record {
      takes = ap takes_copy sets.asks;
      declares = IsSomeAnd-from (entry_of u.ckpt m.cluster.entries) (λ e. s.kept.declares ≡ Some e.attributes) e found (IfSome-at (entry_of u.ckpt m.cluster.entries) (λ e. s.kept.declares ≡ Some e.attributes) sets.declares e found);
    }

    spread_is : IsSpread m u.ckpt (shapes u.ckpt) e
    spread_is = spread m shapes inv s u held is local kind e found

    collocated_is : is_collocated e.attributes ≡ true
    collocated_is = collocated m shapes inv s u held is local kind e found

    -- its replica is at rest, where something is in its hand
    rests : IsSome s.snapshot → IfSome (m.replicas u.ckpt local) IsAtRest
    rests some =
        let at = on_complete m shapes inv s u held is local kind e found local (complete_here m shapes inv s u held is local kind e found) in
        subst (λ o. IfSome o IsAtRest) (sym at.there) (at.apart.free, at.apart.marks_are ∙ by_hold e.hold refl)
      where
        by_hold : (o : Option CallId) → e.hold ≡ o → marks_at e.active (shapes u.ckpt).marks local ≡ None
        by_hold (Some d) holds = ap (λ marks. marks_at e.active marks local) (spread_is.held d holds).unmarked ∙ none_marked e.active local
        by_hold None free = absurd (let w : false ≡ true = sym (ap (is_held_by s.call) free) ∙ own_hold m shapes inv s u held is local kind e found ∙ some in cc w)

    -- something is in its hand just where the checkpoint is held
    in_hand_is : ((d : CallId) → e.hold ≡ Some d → d ≡ s.call) → is_some s.snapshot ≡ is_some e.hold
    in_hand_is own = sym (own_hold m shapes inv s u held is local kind e found) ∙ by_hold e.hold refl
      where
        by_hold : (o : Option CallId) → e.hold ≡ o → is_held_by s.call o ≡ is_some o
        by_hold None free = refl
        by_hold (Some d) holds = ap (λ c. same_call c s.call) (own d holds) ∙ same_call-refl s.call

    lead_ready : ((d : CallId) → e.hold ≡ Some d → d ≡ s.call) → IsDueReady m s (drivers.Sync u) (Event (events.Activate local))
    lead_ready own = (
      sets.within,
      setting_room,
      IsSomeAnd-from (entry_of u.ckpt m.cluster.entries) (λ e. IsLeadable m s u.ckpt local e) e found (record { rest = rests; held = in_hand_is own }),
      IsSomeAnd-from (entry_of u.ckpt m.cluster.entries) (λ e. can_lead local e ≡ true) e found (let complete = complete_here m shapes inv s u held is local kind e found in λ i. collocated_is i && not (complete i)),
    )

    -- the call whose marks stand is live
    marker_is : (o : Option Marked) → (shapes u.ckpt).marks ≡ o → IfSome (call_of o) (λ by. is_live m.cluster by ≡ true)
    marker_is None none = tt
    marker_is (Some marks) stand = marker_live m shapes u.ckpt marks inv (spread_is.marked marks stand)

    hold_ready : (r : ℕ) → e.active ≡ Some r → e.hold ≡ None → IsDueReady m s (drivers.Sync u) (Event (events.Hold r))
    hold_ready r active free =
        let complete = active_by-complete (is_collocated e.attributes) (is_all e.attributes) e.complete e.active spread_is.active r active in
        let at = on_complete m shapes inv s u held is local kind e found r complete in
        let marks : at.replica.marks ≡ (shapes u.ckpt).marks = at.apart.marks_are ∙ marks_here e.active (shapes u.ckpt).marks r active in (
          subst (λ (n : ℕ). r < n) spread_is.nodes (index-within e.complete r complete),
          ap (λ o. is_some o) at.there,
          setting_room,
          IsSomeAnd-from (entry_of u.ckpt m.cluster.entries) (λ e. e.hold ≡ None) e found free,
          record {
            call = sets.call;
            can = IsSomeAnd-from (entry_of u.ckpt m.cluster.entries) (λ e. can_be_held e ≡ true) e found (λ i. collocated_is i && is_some (active i));
            marker = IsSomeAnd-from (m.replicas u.ckpt r) (HasLiveMarker m.cluster) at.replica at.there (subst (λ o. IfSome (call_of o) (λ by. is_live m.cluster by ≡ true)) (sym marks) (marker_is (shapes u.ckpt).marks refl));
          },
        )

    by_active : e.hold ≡ None → (o : Option ℕ) → e.active ≡ o → IsDueReady m s (drivers.Sync u) (lead_next local o)
    by_active free None active = lead_ready (λ d holds. absurd (let w : None ≡ Some d = sym free ∙ holds in cc w))
    by_active free (Some r) active = by_test (r == local)
      where
        by_test : (b : Bool) → IsDueReady m s (drivers.Sync u) (cond b (Event (events.Activate local)) (Event (events.Hold r)))
        by_test true = lead_ready (λ d holds. absurd (let w : None ≡ Some d = sym free ∙ holds in cc w))
        by_test false = hold_ready r active free

    by_hold : (o : Option CallId) → e.hold ≡ o → IsDueReady m s (drivers.Sync u) (unless_held u.call local e.active o)
    by_hold None free = by_active free e.active refl
    by_hold (Some by) holds = by_test (same_call by u.call) refl
      where
        by_test : (b : Bool) → same_call by u.call ≡ b → IsDueReady m s (drivers.Sync u) (cond b (Event (events.Activate local)) (End (Refused TryAgain (Holder by))))
        by_test true same = lead_ready (λ d also. same_Some d by (sym also ∙ holds) ∙ same_call-true by u.call same ∙ sets.call)
        by_test false other = tt

  setting_ready : IsDueReady m s (drivers.Sync u) (sync_next m.cluster u)
  setting_ready = by_entry (entry_of u.ckpt m.cluster.entries) refl
    where
      by_entry : (o : Option Entry) → entry_of u.ckpt m.cluster.entries ≡ o → IsDueReady m s (drivers.Sync u) (sync_next m.cluster u)
      by_entry None gone = subst (IsDueReady m s (drivers.Sync u)) (sym (ap (sync_on m.cluster u) gone)) tt
      by_entry (Some e) found = subst (IsDueReady m s (drivers.Sync u)) (sym (ap (sync_on m.cluster u) found ∙ ap (kind_next m.cluster u e) kind)) (by_hold e found e.hold refl)

-- either of the two
sync_ready : (m : Machine) (shapes : ℕ → Shape) (inv : InvariantIn shapes m) (s : CallState) (u : SyncState) → m.in_hand (who s) ≡ Some s → driver_of s ≡ drivers.Sync u → IsDueReady m s (drivers.Sync u) (sync_next m.cluster u)
sync_ready m shapes inv s u held is = by_kind u.kind refl
  where
    by_kind : (kind : SyncKind) → u.kind ≡ kind → IsDueReady m s (drivers.Sync u) (sync_next m.cluster u)
    by_kind (Synchronize deadline) sync = synchronize_ready m shapes inv s u held is (deadline, sync)
    by_kind (ActiveSet local) kind = setting_ready m shapes inv s u held is local kind

-- ---- a call of one step of the record

module _ (m : Machine) (s : CallState) where
  enter_ready : (r : ℕ) → IsEnterAt m s r → IsDueReady m s (drivers.Once (Enter r)) (enter_next m.cluster)
  enter_ready r at =
      elim (nat_le 64 (length m.cluster.clients)) as (λ b. nat_le 64 (length m.cluster.clients) ≡ b → IsDueReady m s (drivers.Once (Enter r)) (cond b (End (Refused NoResources (Count 64))) (Event events.Enter))) [
        | true ↦ λ full. tt
        | false ↦ λ room. (record { client = at.client; not_live = at.not_live; node = at.up }, leb-false 64 (length m.cluster.clients) room)
      ] refl

  close_ready : (k : ℕ) (o : Option Entry) → IsDueReady m s (drivers.Once (Close k)) (close_of o)
  close_ready k None = tt
  close_ready k (Some e) = tt

  unlink_ready : (name : List ℕ) (o : Option Entry) → named name m.cluster.entries ≡ o → IsDueReady m s (drivers.Once (Unlink name)) (unlink_of o)
  unlink_ready name None found = tt
  unlink_ready name (Some e) found = by_maker e.making refl
    where
      by_maker : (maker : Option CallId) → e.making ≡ maker → IsDueReady m s (drivers.Once (Unlink name)) (unlink_of_making maker)
      by_maker None made = IsSomeAnd-from (named name m.cluster.entries) (λ e. e.making ≡ None) e found made
      by_maker (Some by) made_by = tt

  retain_ready : (k : ℕ) (duration : ℤ) → pos 0 ≤ℤ duration → (o : Option Entry) → entry_of k m.cluster.entries ≡ o → IsDueReady m s (drivers.Once (Retain k duration)) (retain_of o)
  retain_ready k duration from_zero None found = tt
  retain_ready k duration from_zero (Some e) found = by_name e.name refl where
    by_name : (o : Option (List ℕ)) → e.name ≡ o → IsDueReady m s (drivers.Once (Retain k duration)) (cond (is_some o) (Event events.Retain) (End (Refused BadOperation Plain)))
    by_name None has = tt
    by_name (Some name) has = (IsSomeAnd-from (entry_of k m.cluster.entries) (λ e. IsSome e.name) e found (ap is_some has), from_zero)

  once_ready : (x : OneStep) → IsOnceAt m s x → IsDueReady m s (drivers.Once x) (once_next m.cluster x)
  once_ready (Enter r) at = enter_ready r at
  once_ready Leave at = tt
  once_ready (Close k) at = close_ready k (entry_of k m.cluster.entries)
  once_ready (Unlink name) at = unlink_ready name (named name m.cluster.entries) refl
  once_ready (Retain k duration) at = retain_ready k duration at.from_zero (entry_of k m.cluster.entries) refl

-- ---- any call

module _ (m : Machine) (shapes : ℕ → Shape) (inv : InvariantIn shapes m) (s : CallState) (held : m.in_hand (who s) ≡ Some s) where
  here_is : (d : Driver) → driver_of s ≡ d → IsInPlace m shapes s d
  here_is d is = subst (λ d. IsInPlace m shapes s d) is (inv.hands (who s) s held).here

  -- what is due of any call
  driver_ready : (d : Driver) → driver_of s ≡ d → IsDueReady m s d (driver_next m.cluster (rooms_of m s) d)
  driver_ready (drivers.Once x) is = once_ready m s x (here_is (drivers.Once x) is)
  driver_ready (drivers.Open o) is = open_due m s o (driver_next m.cluster (rooms_of m s) (drivers.Open o)) (subst (λ d. IsReadyOpen m s o (driver_next m.cluster (rooms_of m s) d)) is (open_ready m shapes inv s o held is))
  driver_ready (drivers.Update u) is = update_due m s u (update_ready m shapes inv s u held (ap update_in is) (here_is (drivers.Update u) is))
  driver_ready (drivers.Active a) is = active_ready m shapes inv s a.call a.ckpt a.kind a.marks held is (rooms_of m s)
  driver_ready (drivers.Sync u) is = sync_ready m shapes inv s u held is
  driver_ready (drivers.Copy c) is = copy_ready m shapes inv s c held is

-- ---- the facts

module _ (m : Machine) (inv : Invariant m) where
  -- a call in hand is so under its own name
  in_own : (a : Who) (s : CallState) → m.in_hand a ≡ Some s → m.in_hand (who s) ≡ Some s
  in_own a s here = ap m.in_hand (inv.holds.hands a s here).whose ∙ here

  all_ready : (a : Who) (s : CallState) → m.in_hand a ≡ Some s → IsDueReady m s (driver_of s) (due m s)
  all_ready a s here = driver_ready m inv.shapes inv.holds s (in_own a s here) (driver_of s) refl

  ready_for : (a : Who) (s : CallState) (next : Next) → m.in_hand a ≡ Some s → due m s ≡ next → IsDueReady m s (driver_of s) next
  ready_for a s next here is = subst (IsDueReady m s (driver_of s)) is (all_ready a s here)

-- the active of a checkpoint is complete: one in the making has none
led_there : (m : Machine) (k r : ℕ) (sh : Shape) (e : Entry) (by : Option CallId) → IsGoodIn m k sh e by → e.active ≡ Some r → (slice_index e.complete r == 0) ≡ false
led_there m k r sh e None good led = active_by-complete (is_collocated e.attributes) (is_all e.attributes) e.complete e.active good.active r led
led_there m k r sh e (Some call) good led = absurd (let w : None ≡ Some r = sym good.0.unled ∙ led in cc w)

-- what the code relies on
pub facts : (m : Machine) → Invariant m → Facts m
facts m inv = record {
  callers = λ a s here. (inv.holds.hands a s here).whose;
  askers = λ a s here. (inv.holds.hands a s here).asker;
  calls = inv.holds.calls;
  built = λ a s here. (inv.holds.hands a s here).built;
  driven = λ a s here. (inv.holds.hands a s here).driven;
  rises = inv.holds.rises;
  up_to = inv.holds.up_to;
  stay = inv.holds.swept;
  led = λ k r e found. led_there m k r (inv.shapes k) e e.making (inv.holds.entries k e found);
  rest = inv.holds.rest;
  ready = λ a s r request here is. let ready = ready_for m inv a s (Serve r request) here is in (ready.0, ready.1);
  moments = λ a s r call k t here is free. (ready_for m inv a s (Serve r (requests.Stage call k t)) here is).2 free;
  commits = λ a s r call k here is. (ready_for m inv a s (Serve r (requests.Commit call k)) here is).3;
  marks = λ a s r call k here is. (ready_for m inv a s (Serve r (requests.Mark call k)) here is).4;
  events = λ a s step here is. ready_for m inv a s (Event step) here is;
  opens = λ a s o here is. open_fits m inv.shapes inv.holds s o (in_own m inv a s here) is;
  makes = λ a s here. making_is m inv.shapes inv.holds s (in_own m inv a s here);
  complete = λ k r e found complete. complete_there m inv.shapes inv.holds k r e found complete;
  puts = λ k r x is. target_free m inv.shapes inv.holds k r x (target_there m k r x is);
  pulls = λ a s r call k here is. (ready_for m inv a s (Serve r (requests.Pull call k)) here is).4;
  installs = λ a s r call k here is. (ready_for m inv a s (Serve r (requests.Install call k)) here is).4;
  starts = λ a s r call k choice here is. (ready_for m inv a s (Serve r (requests.Iterate call k choice)) here is).4;
  goes_on = λ a s r call k here is. (ready_for m inv a s (Serve r (requests.Next call k)) here is).4;
}
