-- A synchronisation installs what it has pulled at the next node that is not served, and whatever is next of it.
use Rattle.std.specs.List.{list_any}
use Rattle.std.proofs.Common.{◌≡◌, ℕ, ◌+◌, ◌<◌, inl, inr, List, ◌∷◌, length, Option, Some, None, Ok, Err, Bool, true, false, cond, ◌==◌, ℤ, refl, sym, ap, subst, ◌∙◌, arith}
use Rattle.std.specs.Prelude.{is_some, IfSome, IsSomeAnd, slice_get, slice_set}
use Rattle.std.proofs.lemmas.Bool.{eqb-true, eq-eqb}
use Rattle.std.proofs.lemmas.Option.{same_Some}
use Rattle.ckpt_types.specs.declared.ais_error.AisError.TheVariants.{TryAgain}
use Rattle.ckpt_types.specs.declared.answers.Answer.TheVariants as answers
use Rattle.ckpt_types.specs.declared.answers.Cause.TheVariants.{Generations}
use Rattle.ckpt_types.specs.declared.answers.Outcome.{Outcome}
use Rattle.ckpt_types.specs.declared.answers.Outcome.TheVariants.{Refused}
use Rattle.node_msgs.specs.declared.details.Details.TheVariants as beside
use Rattle.node_msgs.specs.declared.next.Next.TheVariants.{End}
use Rattle.node_msgs.specs.declared.requests.Request.{Request}
use Rattle.node_msgs.specs.declared.requests.Request.TheVariants as requests
use Rattle.node_msgs.specs.declared.replies.Reply.TheVariants as replies
use Rattle.node_msgs.specs.declared.steps.StepReply.{StepReply}
use Rattle.node_msgs.specs.declared.steps.StepReply.TheVariants as words
use Rattle.node_msgs.specs.declared.steps.Verb.TheVariants as verbs
use Rattle.node_core.specs.Fitting.{IsReadyFor}
use Rattle.node_core.specs.Seen.{record_seen, entry_seen}
use Rattle.node_core.specs.Serving.{reply_at, details_at, install_reply, older_reply, generation_seen}
use Rattle.cluster_record.specs.declared.calls.SyncKind.TheVariants.{Synchronize}
use Rattle.cluster_record.specs.declared.calls.PulledAt.{PulledAt}
use Rattle.cluster_record.specs.declared.entries.Entry.{Entry}
use Rattle.cluster_record.specs.Calls.{left}
use Rattle.cluster_record.specs.DueOpen.{in_time}
use Rattle.cluster_record.specs.DueSync.{SyncState, first_unserved, install_next, unless_stale, synchronize_next, kind_next, sync_on, sync_next, ended_by, sync_ended}
use Rattle.cluster_record.specs.Places.{put2}
use Rattle.cluster_record.specs.RecordState.{entry_of, complete_of}
use Rattle.cluster_record.specs.StepDone.{StepDone, done_of, counting}
use Rattle.ckpt_machine.specs.Drivers as drivers
use Rattle.ckpt_machine.specs.Driving.{driver_taken}
use Rattle.ckpt_machine.specs.LookGuards.{HasNoActive}
use Rattle.ckpt_machine.specs.ActiveGuards.{InstallOk, steps_with, serves, unless_unserved}
use Rattle.ckpt_machine.specs.GuardTerms.{deadline_of, IsInTime, OnReplica}
use Rattle.ckpt_machine.specs.InHand.{IsInHand, IsSynchronizeIn, HasServedActive}
use Rattle.ckpt_machine.specs.Invariant.{InvariantIn, Invariant}
use Rattle.ckpt_machine.specs.Left.{unserved, sync_left, kind_left, steps_left}
use Rattle.ckpt_machine.specs.Listing.{is_active}
use Rattle.ckpt_machine.specs.Machine.{Machine, ReplicaState, Snapshot, CallState, who}
use Rattle.cluster_record.specs.Placement.{is_all}
use Rattle.ckpt_machine.specs.Propagation.{is_behind, replica_from}
use Rattle.ckpt_machine.specs.Shape.{Shape, IsCompleteOn, IsShapedBy, IsSpread}
use Rattle.ckpt_machine.specs.After.{change_replica, with_installed, kept_behind, left_in_hand}
use Rattle.ckpt_machine.specs.Due.{Told, IsDone, IsServed, driver_of, payload_due, details_due}
use Rattle.ckpt_machine.specs.Seen.{seen, seen_at, seen_by, seen_slot, seen_snapshot}
use Rattle.ckpt_machine.proofs.ActiveNode.{ActiveOf, active_of}
use Rattle.ckpt_machine.proofs.Deadlines.{in_time-cases}
use Rattle.ckpt_machine.proofs.DueStep.{Goes}
use Rattle.ckpt_machine.proofs.NodeLists.{index-within}
use Rattle.ckpt_machine.proofs.OptionLemmas.{IsSomeAnd-at, IsSomeAnd-from, IfSome-from}
use Rattle.ckpt_machine.proofs.PlainCalls.{plain_steps}
use Rattle.ckpt_machine.proofs.Propagated.{IsPutTarget, target_free, put_target}
use Rattle.ckpt_machine.proofs.Served.{UnservedFirst, first_unserved-is, served_set, served_still, set_length, tells_all, ends_alike, unserved-set}
use Rattle.ckpt_machine.proofs.StepLabels.{IsServed-told}
use Rattle.ckpt_machine.specs.Whose.{put_who}
use Rattle.ckpt_machine.proofs.Sync.{HasPulled, has_pulled, at_sync, plain, alone, spread, then_state, hand_then, here_then, left_is, ended_nothing, unled_goes, late_goes, stale_goes, done_goes, pull_goes}
use Rattle.ckpt_machine.proofs.CallsKept.{same_call-left}

module _ (m : Machine) (shapes : ℕ → Shape) (inv : InvariantIn shapes m) (s : CallState) (u : SyncState) (held : m.in_hand (who s) ≡ Some s) (is : driver_of s ≡ drivers.Sync u) (sync : (deadline : Option ℤ) × (u.kind ≡ Synchronize deadline)) (at : ActiveOf m (shapes u.ckpt).marks u.ckpt) where
  abbrev pub k : ℕ
  k = u.ckpt

  module _ (p : PulledAt) (keeps : u.pulled ≡ Some p) (present : p.generation ≡ at.entry.generation) (r : ℕ) (next : first_unserved 0 at.entry.complete u.served ≡ Some r) where
    has : HasPulled m shapes inv s u held is sync p
    has = has_pulled m shapes inv s u held is sync p keeps

    its_spread : IsSpread m k (shapes k) at.entry
    its_spread = spread m shapes inv s u held is sync at

    its_alone : is_all at.entry.attributes ≡ false
    its_alone = alone m shapes inv s u held is sync at

    at_first : UnservedFirst 0 at.entry.complete u.served r
    at_first = first_unserved-is 0 at.entry.complete u.served r next

    place_is : at_first.place ≡ r
    place_is = let same : r ≡ 0 + at_first.place = at_first.at in omega (arith, same)

    -- its node is complete, and not served
    complete : IsCompleteOn at.entry r
    complete = subst (IsCompleteOn at.entry) place_is at_first.complete

    free : slice_get u.served r ≡ Some false
    free = subst (λ n. slice_get u.served n ≡ Some false) place_is at_first.unserved

    pub below : r < 8
    below = subst (λ (n : ℕ). r < n) its_spread.nodes (index-within at.entry.complete r complete)

    within : r < length u.served
    within = subst (λ (n : ℕ). r < n) (sym (at_sync m shapes inv s u held is sync).nodes) below

    its_generation : has.pulled.generation ≡ at.entry.generation
    its_generation = ap (λ (q : PulledAt). q.generation) has.keeps ∙ present

    -- the active was served
    active_served : slice_get u.served at.node ≡ Some true
    active_served =
        let led = subst (λ o. IfSome o (λ p. IfSome (entry_of k m.cluster.entries) (HasServedActive u.served p))) has.in_hand (at_sync m shapes inv s u held is sync).led in
        let there : HasServedActive u.served has.pulled at.entry = subst (λ o. IfSome o (HasServedActive u.served has.pulled)) at.found led in
        subst (λ o. IsSomeAnd o (λ q. slice_get u.served q ≡ Some true)) at.active (there its_generation)

    -- so it is another
    other : is_active at.entry.active r ≡ false
    other = ap (λ o. is_active o r) at.active ∙ by_test (at.node == r) refl
      where
        by_test : (b : Bool) → (at.node == r) ≡ b → (at.node == r) ≡ false
        by_test false is_not = is_not
        by_test true same = absurd (let w : Some false ≡ Some true = sym free ∙ ap (slice_get u.served) (sym (eqb-true at.node r same)) ∙ active_served in cc w)

    -- its replica
    pub record OnNode : Type 0 where
      pub replica : ReplicaState
      pub there : m.replicas k r ≡ Some replica

    pub on_node : OnNode
    on_node = let (y, here, shaped) = IsSomeAnd-at (m.replicas k r) (IsShapedBy (is_all at.entry.attributes) (shapes k) at.entry.active r) (its_spread.replicas r complete) in record { replica = y; there = here }

    pub target : IsPutTarget m k r on_node.replica
    target = record { entry = at.entry; found = at.found; there = on_node.there; alone = its_alone; elsewhere = other }

    -- what is installed there has the checkpoint's generation
    installed_keeps : InvariantIn shapes (record m { replicas = put2 m.replicas k r (Some (replica_from has.pulled on_node.replica)) })
    unfolding target
    installed_keeps = put_target m shapes inv k r has.pulled on_node.replica target its_generation

    abbrev x : ReplicaState
    x = on_node.replica

    -- ---- the answer

    abbrev pub request : Request
    request = requests.Install u.call k

    its_seen : seen_at m k r ≡ Some (seen k at.entry.attributes x)
    its_seen = ap (λ o. seen_by k o (m.replicas k r)) at.found ∙ ap (seen_by k (Some at.entry)) on_node.there

    -- nothing is staged there, and no marks stand
    pub free_there : IsSomeAnd (seen_at m k r) (IsReadyFor request)
    free_there = let free = target_free m shapes inv k r x target in IsSomeAnd-from (seen_at m k r) (IsReadyFor request) (seen k at.entry.attributes x) its_seen (ap (seen_slot (length x.effects)) free.0, free.1)

    -- it declares what it did at the beginning
    pub declares_still : s.kept.declares ≡ Some at.entry.attributes
    declares_still = subst (λ o. IfSome o (λ (e : Entry). s.kept.declares ≡ Some e.attributes)) at.found (at_sync m shapes inv s u held is sync).declares

    -- the snapshot that travels is the one in hand
    travels : seen_snapshot s.kept.declares s.snapshot ≡ seen_snapshot (Some at.entry.attributes) (Some has.pulled)
    travels = λ i. seen_snapshot (declares_still i) (has.in_hand i)

    by_present : install_reply at.entry.generation (seen_snapshot (Some at.entry.attributes) (Some has.pulled)) (seen k at.entry.attributes x)
        ≡ older_reply (cond (is_behind x has.pulled) (Ok tt) (Err (record { generation = x.generation; count = length x.effects })))
    by_present = ap (λ b. cond b (older_reply (cond (is_behind x has.pulled) (Ok tt) (Err (record { generation = x.generation; count = length x.effects })))) (replies.Stale has.pulled.generation at.entry.generation)) (eq-eqb has.pulled.generation at.entry.generation its_generation)

    answered : (t : Told) (served : IsServed m s r request t) (b : Bool) → is_behind x has.pulled ≡ b → served.answer ≡ older_reply (cond b (Ok tt) (Err (record { generation = x.generation; count = length x.effects })))
    answered t served b behind =
        served.may
        ∙ ap (reply_at request (payload_due m s) (record_seen m.cluster k r)) its_seen
        ∙ (λ i. install_reply (generation_seen (entry_seen r (at.found i))) (travels i) (seen k at.entry.attributes x))
        ∙ by_present
        ∙ ap (λ b. older_reply (cond b (Ok tt) (Err (record { generation = x.generation; count = length x.effects })))) behind

    nothing_told : details_due m s request r ≡ beside.Nothing
    nothing_told = ap (details_at request (payload_due m s) (record_seen m.cluster k r)) its_seen

    -- ---- behind it

    abbrev served_then : List Bool
    served_then = slice_set u.served r true

    led_then : IfSome s.snapshot (λ p. IfSome (entry_of k m.cluster.entries) (HasServedActive served_then p))
    led_then = IfSome-from s.snapshot _ (λ y there. IfSome-from (entry_of k m.cluster.entries) _ (λ e found now.
        let e_is : at.entry ≡ e = same_Some at.entry e (sym at.found ∙ found) in
        IsSomeAnd-from e.active (λ q. slice_get served_then q ≡ Some true) at.node (ap (λ (e : Entry). e.active) (sym e_is) ∙ at.active) (served_still u.served r at.node within active_served)))

    -- the step, as its call keeps it
    abbrev install_done : StepReply → StepDone
    install_done word = counting 0 (done_of m.cluster verbs.Install (Some k) (Some r) word)

    -- the call with it
    abbrev state_then : StepReply → CallState
    state_then word = then_state m shapes inv s u held is sync (install_done word) s.snapshot u.pulled served_then

    module _ (word : StepReply) (tells : (q : ℕ) → q < 8 → slice_get served_then q ≡ Some (list_any (serves q) (install_done word ∷ s.steps))) (takes : driver_taken (install_done word) (drivers.Sync u) ≡ drivers.Sync (record u { served = served_then })) where
      -- it goes on with it, or ends, with these replicas
      install_keeps : (f : ℕ → ℕ → Option ReplicaState) (end : Option Outcome) → InvariantIn shapes (record m { replicas = f }) → Invariant (record m { replicas = f; in_hand = put_who m.in_hand (who s) (left end (state_then word)) })
      install_keeps f end holds =
          let hands = put_who m.in_hand (who s) (left end (state_then word)) in
          record {
            shapes = shapes;
            holds = plain_steps (record m { replicas = f }) shapes holds s held (plain m shapes inv s u held is sync) (left end (state_then word)) (same_call-left s (state_then word) end refl refl) (λ w same. subst (IsInHand (record m { replicas = f; in_hand = hands }) shapes (who s)) (left_is end (state_then word) w same)
                (hand_then m shapes inv s u held is sync (install_done word) s.snapshot u.pulled served_then f hands takes
                (here_then m shapes inv s u held is sync (install_done word) s.snapshot u.pulled served_then f hands (at_sync m shapes inv s u held is sync).pulled (set_length u.served r true ∙ (at_sync m shapes inv s u held is sync).nodes) tells led_then (at_sync m shapes inv s u held is sync).older)));
          }

      -- it ends where all are served
      install_ends : sync_ended (complete_of (entry_of k m.cluster.entries)) served_then u.pulled ≡ unless_unserved (install_done word ∷ s.steps) at.entry.complete (length has.pulled.effects)
      install_ends =
          (λ i. sync_ended (complete_of (at.found i)) served_then (keeps i))
          ∙ ap (λ (q : PulledAt). ended_by q.count (first_unserved 0 at.entry.complete served_then)) (sym has.keeps)
          ∙ ends_alike (install_done word ∷ s.steps) (length has.pulled.effects) 0 at.entry.complete served_then (tells_all (install_done word ∷ s.steps) at.entry.complete served_then its_spread.nodes tells)

      -- it comes nearer to its end
      install_nearer : (f : ℕ → ℕ → Option ReplicaState) → steps_left m.cluster f (driver_taken (install_done word) (driver_of s)) < steps_left m.cluster m.replicas (driver_of s)
      install_nearer f =
          let cs : List ℕ = complete_of (entry_of k m.cluster.entries) in
          let cs_is : cs ≡ at.entry.complete = ap complete_of at.found in
          let less : unserved cs served_then + 1 ≡ unserved cs u.served = subst (λ cs. unserved cs served_then + 1 ≡ unserved cs u.served) (sym cs_is) (unserved-set at.entry.complete u.served r complete free) in
          subst (λ d. steps_left m.cluster f (driver_taken (install_done word) d) < steps_left m.cluster m.replicas d) (sym is)
          (subst (λ d. steps_left m.cluster f d < steps_left m.cluster m.replicas (drivers.Sync u)) (sym takes)
          (subst (λ kind. kind_left (entry_of k m.cluster.entries) (record u { served = served_then }) kind < kind_left (entry_of k m.cluster.entries) u kind) (sym sync.1)
          (subst (λ o. sync_left cs (record u { served = served_then }) o < sync_left cs u o) (sym keeps) (omega (arith, less)))))

    -- ---- the step

    module _ (early : IsInTime m s) where
      -- how its label ends the call
      abbrev install_end : Option Outcome
      install_end = sync_ended (complete_of (entry_of k m.cluster.entries)) served_then u.pulled

      -- its row
      install_row : (t : Told) (b : Bool) → is_behind x has.pulled ≡ b → t.end ≡ unless_unserved (steps_with m s t) at.entry.complete (length has.pulled.effects) → OnReplica m k r (InstallOk m s r t b)
      install_row t b behind ends = IsSomeAnd-from (entry_of k m.cluster.entries) (λ e. IsSomeAnd (m.replicas k r) (InstallOk m s r t b e)) at.entry at.found (IsSomeAnd-from (m.replicas k r) (InstallOk m s r t b at.entry) x on_node.there (record {
        alone = its_alone;
        led = ap is_some at.active;
        other = other;
        in_time = early;
        pulled = has.pulled;
        in_hand = has.in_hand;
        present = its_generation;
        behind_is = behind;
        answer = ends;
      }))

      tells_ok : (q : ℕ) → q < 8 → slice_get served_then q ≡ Some (list_any (serves q) (install_done words.Ok ∷ s.steps))
      tells_ok q low = served_set u.served r q (list_any (serves q) s.steps) within ((at_sync m shapes inv s u held is sync).served q low)

      tells_older : (q : ℕ) → q < 8 → slice_get served_then q ≡ Some (list_any (serves q) (install_done words.Older ∷ s.steps))
      tells_older q low = served_set u.served r q (list_any (serves q) s.steps) within ((at_sync m shapes inv s u held is sync).served q low)

      -- by whether the replica is behind what was pulled
      install_by : (t : Told) → IsServed m s r request t → (b : Bool) → is_behind x has.pulled ≡ b → Goes m s (driver_of s) t
      install_by t served true behind = subst (Goes m s (driver_of s)) (sym (IsServed-told m s r request t (drivers.Sync u) (replies.Done answers.Nothing) served is (answered t served true behind))) (record {
        row = (
          ((at_sync m shapes inv s u held is sync).place, (at_sync m shapes inv s u held is sync).timeout, (at_sync m shapes inv s u held is sync).asks, install_row _ true behind (install_ends words.Ok tells_ok refl)),
          ended_nothing install_end _ nothing_told,
        );
        holds = subst (λ (z : Option ReplicaState × Option Snapshot). let n = change_replica m k r z.0 (with_installed z.1) in Invariant (left_in_hand n (kept_behind m s n.cluster verbs.Install (Some k) (Some r) words.Ok) install_end)) (λ i. (sym on_node.there i, sym has.in_hand i))
            (install_keeps words.Ok tells_ok refl (put2 m.replicas k r (Some (replica_from has.pulled x))) install_end installed_keeps);
        nearer = λ goes_on. subst (λ o. let n = change_replica m k r o (with_installed s.snapshot) in
            steps_left n.cluster n.replicas (driver_taken (counting 0 (done_of n.cluster verbs.Install (Some k) (Some r) words.Ok)) (driver_of s)) < steps_left m.cluster m.replicas (driver_of s)) (sym on_node.there) (install_nearer words.Ok tells_ok refl (put2 m.replicas k r (Some (with_installed s.snapshot x))));
      })
      install_by t served false not_behind = subst (Goes m s (driver_of s)) (sym (IsServed-told m s r request t (drivers.Sync u) (replies.Older x.generation (length x.effects)) served is (answered t served false not_behind))) (record {
        row = (
          ((at_sync m shapes inv s u held is sync).place, (at_sync m shapes inv s u held is sync).timeout, (at_sync m shapes inv s u held is sync).asks, install_row _ false not_behind (install_ends words.Older tells_older refl)),
          ended_nothing install_end _ nothing_told,
        );
        holds = install_keeps words.Older tells_older refl m.replicas install_end inv;
        nearer = λ goes_on. install_nearer words.Older tells_older refl m.replicas;
      })

      pub install_goes : (t : Told) → IsServed m s r request t → Goes m s (driver_of s) t
      install_goes t served = install_by t served (is_behind x has.pulled) refl

-- ---- whatever is next

module _ (m : Machine) (shapes : ℕ → Shape) (inv : InvariantIn shapes m) (s : CallState) (u : SyncState) (held : m.in_hand (who s) ≡ Some s) (is : driver_of s ≡ drivers.Sync u) (sync : (deadline : Option ℤ) × (u.kind ≡ Synchronize deadline)) where
  module _ (at : ActiveOf m (shapes u.ckpt).marks u.ckpt) (early : IsInTime m s) where
    -- of a node that is left, or of none
    next_goes : (p : PulledAt) → u.pulled ≡ Some p → p.generation ≡ at.entry.generation → (r : Option ℕ) → first_unserved 0 at.entry.complete u.served ≡ r → (t : Told) → IsDone m s (install_next u.call u.ckpt p.count r) t → Goes m s (driver_of s) t
    next_goes p keeps present None none t done = done_goes m shapes inv s u held is sync at early p keeps present none t done
    next_goes p keeps present (Some r) next t done = install_goes m shapes inv s u held is sync at p keeps present r next early t done

    -- by what it has pulled
    pulled_goes : (o : Option PulledAt) → u.pulled ≡ o → (t : Told) → IsDone m s (unless_stale u at.entry at.node o) t → Goes m s (driver_of s) t
    pulled_goes None first t done = pull_goes m shapes inv s u held is sync at early first t done
    pulled_goes (Some p) keeps t done = by_generation (p.generation == at.entry.generation) refl done
      where
        by_generation : (b : Bool) → (p.generation == at.entry.generation) ≡ b → IsDone m s (cond b (install_next u.call u.ckpt p.count (first_unserved 0 at.entry.complete u.served)) (End (Refused TryAgain (Generations p.generation at.entry.generation)))) t → Goes m s (driver_of s) t
        by_generation true same done = next_goes p keeps (eqb-true p.generation at.entry.generation same) (first_unserved 0 at.entry.complete u.served) refl t done
        by_generation false other done = stale_goes m shapes inv s u held is sync at early p keeps other t done

  -- the next step of a synchronisation
  pub synchronize_goes : (t : Told) → IsDone m s (sync_next m.cluster u) t → Goes m s (driver_of s) t
  synchronize_goes t done = by_entry (entry_of u.ckpt m.cluster.entries) refl
    where
      its : IsSynchronizeIn m s u
      its = at_sync m shapes inv s u held is sync

      led_goes : (at : ActiveOf m (shapes u.ckpt).marks u.ckpt) → IsDone m s (in_time (deadline_of s) m.cluster.moment (unless_stale u at.entry at.node u.pulled)) t → Goes m s (driver_of s) t
      led_goes at = in_time-cases (λ next. IsDone m s next t → Goes m s (driver_of s) t) (deadline_of s) m.cluster.moment (unless_stale u at.entry at.node u.pulled)
          (λ deadline has reached done. late_goes m shapes inv s u held is sync at deadline has reached t done)
          (λ early done. pulled_goes at early u.pulled refl t done)

      by_entry : (o : Option Entry) → entry_of u.ckpt m.cluster.entries ≡ o → Goes m s (driver_of s) t
      by_entry None gone = unled_goes m shapes inv s u held is sync (subst (λ o. HasNoActive o) (sym gone) tt) t (subst (λ next. IsDone m s next t) (ap (sync_on m.cluster u) gone) done)
      by_entry (Some e) found = elim (active_of m shapes u.ckpt e inv its.made found) [
        | inl none ↦ unled_goes m shapes inv s u held is sync (subst (λ o. HasNoActive o) (sym found) none) t (subst (λ next. IsDone m s next t) (ap (sync_on m.cluster u) found ∙ ap (kind_next m.cluster u e) its.kind ∙ ap (synchronize_next m.cluster u (deadline_of s) e) none) done)
        | inr at ↦ led_goes at (subst (λ next. IsDone m s next t) (ap (sync_on m.cluster u) at.found ∙ ap (kind_next m.cluster u at.entry) its.kind ∙ ap (synchronize_next m.cluster u (deadline_of s) at.entry) at.active) done)
      ]
