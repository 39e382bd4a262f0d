-- A synchronisation: it pulls what the active has and installs it at each other complete node, and is refused or done by a look where the record says so.
use Rattle.std.specs.List.{list_any}
use Rattle.std.specs.Option.{option_map}
use Rattle.std.proofs.Common.{◌≡◌, inl, ℕ, ◌<◌, ◌≤◌, List, ◌∷◌, length, Option, Some, None, Bool, true, false, cond, ◌==◌, ℤ, refl, sym, ap, subst, ◌∙◌, arith}
use Rattle.std.specs.Prelude.{is_some, IfSome, IsSomeAnd, slice_get, slice_set}
use Rattle.std.proofs.lemmas.Option.{same_Some}
use Rattle.moment_rules.specs.Times.{is_reached}
use Rattle.ckpt_types.specs.declared.ais_error.AisError.{AisError}
use Rattle.ckpt_types.specs.declared.ais_error.AisError.TheVariants.{NotExist, TryAgain, Timeout}
use Rattle.ckpt_types.specs.declared.answers.Answer.TheVariants as answers
use Rattle.ckpt_types.specs.declared.answers.Cause.{Cause}
use Rattle.ckpt_types.specs.declared.answers.Cause.TheVariants.{Plain, Holder, Generations, Deadline}
use Rattle.ckpt_types.specs.declared.answers.Outcome.{Outcome}
use Rattle.ckpt_types.specs.declared.answers.Outcome.TheVariants.{Done, Refused}
use Rattle.ckpt_types.specs.declared.identities.Who.{Who}
use Rattle.ckpt_types.specs.Asks.{Ask, asked}
use Rattle.ckpt_types.specs.Asks as asks
use Rattle.weak_marks.specs.Marks.{Marked, call_of}
use Rattle.node_msgs.specs.declared.details.Details.{Details}
use Rattle.node_msgs.specs.declared.details.Details.TheVariants as beside
use Rattle.node_msgs.specs.declared.next.Next.TheVariants.{End}
use Rattle.node_msgs.specs.declared.requests.Request.{Request}
use Rattle.node_msgs.specs.declared.requests.Request.TheVariants as requests
use Rattle.node_msgs.specs.declared.replies.Reply.TheVariants as replies
use Rattle.node_msgs.specs.declared.steps.StepReply.TheVariants as words
use Rattle.node_msgs.specs.declared.steps.Verb.TheVariants as verbs
use Rattle.node_core.specs.Seen.{record_seen}
use Rattle.node_core.specs.Serving.{reply_at, details_at, pull_reply}
use Rattle.cluster_record.specs.declared.calls.SyncKind.TheVariants.{Synchronize}
use Rattle.cluster_record.specs.declared.calls.PulledAt.{PulledAt}
use Rattle.cluster_record.specs.declared.entries.Entry.{Entry}
use Rattle.cluster_record.specs.Calls.{same_call, left}
use Rattle.cluster_record.specs.DueSync.{SyncState, first_unserved, ended_by}
use Rattle.cluster_record.specs.RecordState.{entry_of, complete_of}
use Rattle.cluster_record.specs.StepDone.{StepDone, done_of, counting, generation_in}
use Rattle.ckpt_machine.specs.Drivers as drivers
use Rattle.ckpt_machine.specs.Driving.{driver_taken}
use Rattle.ckpt_machine.specs.LookGuards.{OnLed, HasNoActive, NoActiveLook, SyncLook, SyncDone, LookRefused, LookDone}
use Rattle.ckpt_machine.specs.ActiveGuards.{PullOk, PullHeld, serves, all_served, unless_unserved}
use Rattle.ckpt_machine.specs.GuardTerms.{deadline_of, IsInTime}
use Rattle.ckpt_machine.specs.InHand.{is_enter, IsInPlace, IsInHand, IsSyncBy, IsSynchronizeIn, HasServedActive, pulled_as}
use Rattle.ckpt_machine.specs.Invariant.{IsGoodIn, InvariantIn, Invariant}
use Rattle.ckpt_machine.specs.Left.{sync_left, kind_left, steps_left}
use Rattle.ckpt_machine.specs.Machine.{Machine, ReplicaState, Snapshot, CallState, who}
use Rattle.cluster_record.specs.Placement.{is_all}
use Rattle.ckpt_machine.specs.Propagation.{copied}
use Rattle.ckpt_machine.specs.Shape.{Shape, IsApart, IsSpread}
use Rattle.ckpt_machine.specs.After.{with_tables, without_syncs}
use Rattle.ckpt_machine.specs.Due.{Told, IsDone, IsServed, ended_details, driver_of, payload_due, details_due, count_in}
use Rattle.ckpt_machine.specs.Tables.{handle_closed, closing}
use Rattle.ckpt_machine.proofs.ActiveNode.{ActiveOf, active_seen, on_its_replica}
use Rattle.ckpt_machine.proofs.DueStep.{Goes}
use Rattle.ckpt_machine.proofs.OnTheActive.{marker_live}
use Rattle.ckpt_machine.proofs.OptionLemmas.{IsSomeAnd-from}
use Rattle.ckpt_machine.proofs.PlainCalls.{is_plain_sync, is_plain, ending, marker_apart, plain_steps, plain_ends, look_goes}
use Rattle.ckpt_machine.proofs.Actors.{same_call-false}
use Rattle.ckpt_machine.proofs.CallsKept.{same_call-left, apart_from}
use Rattle.ckpt_machine.proofs.Served.{slice_get-set, served_set, set_length, tells_all, ends_alike, all_are, unserved-few}
use Rattle.ckpt_machine.specs.Whose.{put_who}
use Rattle.ckpt_machine.proofs.StepLabels.{IsServed-told}
use Rattle.ckpt_machine.proofs.ByActor.{put_actor-same}

-- what is left of a call that has not ended
pub left_is : {X E : Type 0} (end : Option E) (x z : X) → left end x ≡ Some z → x ≡ z
left_is None x z is = same_Some x z is
left_is (Some e) x z is = absurd (cc is)

-- what tells nothing tells nothing at an end
pub ended_nothing : (end : Option Outcome) (details : Details) → details ≡ beside.Nothing → ended_details end details ≡ beside.Nothing
ended_nothing None details nothing = refl
ended_nothing (Some e) details nothing = nothing

-- the state that a look leaves, by what is asked for
abbrev closed_by : CallState → Machine → Ask → Machine
closed_by s m ask = with_tables s.call.actor (closing ask) (without_syncs (handle_closed ask (m.tables s.call.actor)) s.call.actor m)

-- a synchronisation ends no handle
closes_none : (s : CallState) (m : Machine) (place : ℕ) (timeout : Option ℤ) → closed_by s m (asks.Synchronize place timeout) ≡ m
closes_none s m place timeout = λ i. record m { tables = λ a. put_actor-same m.tables s.call.actor (m.tables s.call.actor) refl a i; pending = λ a. put_actor-same m.pending s.call.actor (m.pending s.call.actor) refl a i }

module _ (m : Machine) (shapes : ℕ → Shape) (inv : InvariantIn shapes m) (s : CallState) (u : SyncState) (held : m.in_hand (who s) ≡ Some s) (is : driver_of s ≡ drivers.Sync u) (sync : (deadline : Option ℤ) × (u.kind ≡ Synchronize deadline)) where
  -- where its steps have led it
  pub at_sync : IsSynchronizeIn m s u
  at_sync = subst (IsSyncBy m s u) sync.1 (subst (λ d. IsInPlace m shapes s d) is (inv.hands (who s) s held).here)

  -- it owns and makes nothing
  pub plain : is_plain (driver_of s) s.snapshot ≡ true
  plain = ap (λ d. is_plain d s.snapshot) is ∙ ap (λ kind. is_plain_sync kind s.snapshot) sync.1

  -- what holds of its checkpoint, which is there
  pub alone_at : (e : Entry) → entry_of u.ckpt m.cluster.entries ≡ Some e → is_all e.attributes ≡ false
  alone_at e found = subst (λ o. IfSome o (λ (e : Entry). is_all e.attributes ≡ false)) found at_sync.alone

  -- ---- what it has pulled

  -- a snapshot is in its hand, of which it keeps the generation and the count
  pub record HasPulled (p : PulledAt) : Type 0 where
    pub pulled : Snapshot
    pub in_hand : s.snapshot ≡ Some pulled
    pub keeps : pulled_as pulled ≡ p

  pub has_pulled : (p : PulledAt) → u.pulled ≡ Some p → HasPulled p
  has_pulled p keeps = by_snapshot s.snapshot refl
    where
      by_snapshot : (o : Option Snapshot) → s.snapshot ≡ o → HasPulled p
      by_snapshot None none = absurd (let w : Some p ≡ None = sym keeps ∙ at_sync.pulled ∙ ap (option_map pulled_as) none in cc w)
      by_snapshot (Some x) there = record { pulled = x; in_hand = there; keeps = same_Some (pulled_as x) p (sym (ap (option_map pulled_as) there) ∙ sym at_sync.pulled ∙ keeps) }

  -- ---- behind a step that serves a node

  module _ (d : StepDone) (snap : Option Snapshot) (pulled : Option PulledAt) (served : List Bool) where
    -- the call with one step more
    abbrev pub then_state : CallState
    then_state = record s { steps = d ∷ s.steps; snapshot = snap }

    abbrev pub then_driver : SyncState
    then_driver = record u { pulled = pulled; served = served }

    module _ (f : ℕ → ℕ → Option ReplicaState) (g : Who → Option CallState) where
      -- the state with these replicas, and with these calls in hand
      abbrev pub then_machine : Machine
      then_machine = record m { replicas = f; in_hand = g }

      pub here_then : pulled ≡ option_map pulled_as snap → length served ≡ 8 → ((r : ℕ) → r < 8 → slice_get served r ≡ Some (list_any (serves r) (d ∷ s.steps)))
          → IfSome snap (λ p. IfSome (entry_of u.ckpt m.cluster.entries) (HasServedActive served p)) → IfSome snap (λ p. IfSome (entry_of u.ckpt m.cluster.entries) (λ e. p.generation ≤ e.generation)) → IsSynchronizeIn then_machine then_state then_driver
      here_then keeps nodes tells led older = record {
        call = at_sync.call;
        place = at_sync.place;
        timeout = at_sync.timeout;
        asks = at_sync.asks;
        kind = at_sync.kind;
        kept = at_sync.kept;
        made = at_sync.made;
        alone = at_sync.alone;
        declares = at_sync.declares;
        pulled = keeps;
        nodes = nodes;
        served = tells;
        led = led;
        older = older;
      }

      -- it is in hand so
      pub hand_then : driver_taken d (drivers.Sync u) ≡ drivers.Sync then_driver → IsSynchronizeIn then_machine then_state then_driver → IsInHand then_machine shapes (who s) then_state
      hand_then takes at =
          let hand = inv.hands (who s) s held in
          record {
            whose = refl;
            asker = hand.asker;
            number = hand.number;
            built = hand.built;
            driven = hand.driven;
            live = λ others. hand.live (ap is_enter is);
            home = λ others. hand.home (ap is_enter is);
            here = subst (IsInPlace then_machine shapes then_state) (sym (ap (driver_taken d) is ∙ takes)) (subst (IsSyncBy then_machine then_state then_driver) (sym sync.1) at);
          }

  -- ---- looks

  pub refused_goes : (error : AisError) (cause : Cause) (t : Told) → SyncLook m s error cause → IsDone m s (End (Refused error cause)) t → Goes m s (driver_of s) t
  refused_goes error cause t look done = look_goes m shapes inv s held plain error cause t (subst (λ ask. LookRefused m s ask error cause) (sym at_sync.asks) look) done

  -- its checkpoint is gone, or has no active
  pub unled_goes : HasNoActive (entry_of u.ckpt m.cluster.entries) → (t : Told) → IsDone m s (End (Refused NotExist Plain)) t → Goes m s (driver_of s) t
  unled_goes none t done = refused_goes NotExist Plain t (subst (λ o. NoActiveLook m o NotExist Plain) (sym at_sync.kept) none) done

  module _ (at : ActiveOf m (shapes u.ckpt).marks u.ckpt) where
    -- what holds of its entry holds of a checkpoint that has an active
    pub on_led : (P : Entry → Type 0) → P at.entry → OnLed m s.kept.ckpt P
    on_led P p = subst (λ o. OnLed m o P) (sym at_sync.kept) (IsSomeAnd-from (entry_of u.ckpt m.cluster.entries) (λ e. is_some e.active ≡ true × P e) at.entry at.found (ap is_some at.active, p))

    -- it is too late
    pub late_goes : (deadline : ℤ) → deadline_of s ≡ Some deadline → is_reached deadline m.cluster.moment ≡ true → (t : Told) → IsDone m s (End (Refused Timeout (Deadline deadline m.cluster.moment))) t → Goes m s (driver_of s) t
    late_goes deadline has reached t done = refused_goes Timeout (Deadline deadline m.cluster.moment) t (on_led (λ e. Unit {0}) tt, has, refl, reached) done

    -- its checkpoint's updates go to the active alone
    pub alone : is_all at.entry.attributes ≡ false
    alone = alone_at at.entry at.found

    -- nothing is staged on the active, and the marks of the checkpoint stand there
    apart : IsApart (shapes u.ckpt).marks at.replica
    apart = at.apart alone

    pub spread : IsSpread m u.ckpt (shapes u.ckpt) at.entry
    spread = subst (IsGoodIn m u.ckpt (shapes u.ckpt) at.entry) at.made (inv.entries u.ckpt at.entry at.found)

    module _ (early : IsInTime m s) where
      -- the generation is another since it has pulled
      pub stale_goes : (p : PulledAt) → u.pulled ≡ Some p → (p.generation == at.entry.generation) ≡ false → (t : Told) → IsDone m s (End (Refused TryAgain (Generations p.generation at.entry.generation))) t → Goes m s (driver_of s) t
      stale_goes p keeps other t done =
          let has = has_pulled p keeps in
          refused_goes TryAgain (Generations p.generation at.entry.generation) t (
            on_led (λ e. e.generation ≡ at.entry.generation) refl,
            early,
            IsSomeAnd-from s.snapshot (λ x. x.generation ≡ p.generation) has.pulled has.in_hand (ap (λ (q : PulledAt). q.generation) has.keeps),
            other,
          ) done

      -- nothing is left to do
      pub done_goes : (p : PulledAt) → u.pulled ≡ Some p → p.generation ≡ at.entry.generation → first_unserved 0 at.entry.complete u.served ≡ None → (t : Told) → IsDone m s (End (Done (answers.Pulled p.count))) t → Goes m s (driver_of s) t
      done_goes p keeps present none t done =
          let has = has_pulled p keeps in
          let served : all_served s.steps 0 at.entry.complete ≡ true = all_are s.steps at.entry.complete u.served (tells_all s.steps at.entry.complete u.served spread.nodes at_sync.served) none in
          subst (Goes m s (driver_of s)) (sym done) (record {
            row = (
              refl,
              refl,
              subst (λ ask. LookDone m s ask (answers.Pulled p.count)) (sym at_sync.asks) (
                on_led (λ e. IsSomeAnd s.snapshot (SyncDone m s p.count e)) (IsSomeAnd-from s.snapshot (SyncDone m s p.count at.entry) has.pulled has.in_hand (ap (λ (q : PulledAt). q.generation) has.keeps ∙ present, ap (λ (q : PulledAt). q.count) has.keeps, served)),
                early,
              ),
              refl,
            );
            holds = subst (λ (b : Machine). Invariant (ending s b)) (sym (ap (closed_by s m) at_sync.asks ∙ closes_none s m at_sync.place at_sync.timeout)) (record { shapes = shapes; holds = plain_ends m shapes inv s held plain });
            nearer = λ none. absurd (cc none);
          })

      -- ---- a pull

      module _ (first : u.pulled ≡ None) where
        abbrev request : Request
        request = requests.Pull u.call u.ckpt

        marks_are : at.replica.marks ≡ (shapes u.ckpt).marks
        marks_are = apart.marks_are

        answered : (t : Told) (served : IsServed m s at.node request t) (o : Option Marked) → (shapes u.ckpt).marks ≡ o → served.answer ≡ pull_reply (call_of o) (length at.replica.effects)
        answered t served o stand =
            served.may
            ∙ ap (reply_at request (payload_due m s) (record_seen m.cluster u.ckpt at.node)) (active_seen m (shapes u.ckpt).marks u.ckpt at)
            ∙ ap (λ (marks : Option Marked). pull_reply (call_of marks) (length at.replica.effects)) (marks_are ∙ stand)

        nothing_told : details_due m s request at.node ≡ beside.Nothing
        nothing_told = ap (details_at request (payload_due m s) (record_seen m.cluster u.ckpt at.node)) (active_seen m (shapes u.ckpt).marks u.ckpt at)

        -- the step, as its call keeps it
        abbrev pull_done : StepDone
        pull_done = counting (count_in (m.replicas u.ckpt at.node)) (done_of m.cluster verbs.Pull (Some u.ckpt) (Some at.node) words.Ok)

        -- what the call keeps of it, and which nodes are served then
        abbrev keeps_then : PulledAt
        keeps_then = record { generation = generation_in (entry_of u.ckpt m.cluster.entries); count = count_in (m.replicas u.ckpt at.node) }

        abbrev served_then : List Bool
        served_then = slice_set u.served at.node true

        -- and the snapshot in its hand
        abbrev snap_then : Option Snapshot
        snap_then = option_map copied (m.replicas u.ckpt at.node)

        within : at.node < length u.served
        within = subst (λ (n : ℕ). at.node < n) (sym at_sync.nodes) at.within

        tells_then : (r : ℕ) → r < 8 → slice_get served_then r ≡ Some (list_any (serves r) (pull_done ∷ s.steps))
        tells_then r below = served_set u.served at.node r (list_any (serves r) s.steps) within (at_sync.served r below)

        pulled_then : Some keeps_then ≡ option_map pulled_as snap_then
        pulled_then =
            (λ i. Some (record { generation = generation_in (at.found i); count = count_in (at.there i) }))
            ∙ ap (λ (n : ℕ). Some (record { generation = n; count = length at.replica.effects })) (sym at.generation)
            ∙ sym (ap (λ o. option_map pulled_as (option_map copied o)) at.there)

        led_then : IfSome snap_then (λ p. IfSome (entry_of u.ckpt m.cluster.entries) (HasServedActive served_then p))
        led_then = subst (λ o. IfSome (option_map copied o) (λ p. IfSome (entry_of u.ckpt m.cluster.entries) (HasServedActive served_then p))) (sym at.there)
            (subst (λ o. IfSome o (HasServedActive served_then (copied at.replica))) (sym at.found) (λ present. IsSomeAnd-from at.entry.active (λ r. slice_get served_then r ≡ Some true) at.node at.active (slice_get-set u.served at.node true within)))

        older_then : IfSome snap_then (λ p. IfSome (entry_of u.ckpt m.cluster.entries) (λ e. p.generation ≤ e.generation))
        older_then = subst (λ o. IfSome (option_map copied o) (λ p. IfSome (entry_of u.ckpt m.cluster.entries) (λ e. p.generation ≤ e.generation))) (sym at.there)
            (subst (λ o. IfSome o (λ (e : Entry). at.replica.generation ≤ e.generation)) (sym at.found) (let same : at.replica.generation ≡ at.entry.generation = at.generation in omega (arith, same)))

        -- the call goes on with it, or ends
        pulled_keeps : (end : Option Outcome) → Invariant (record m { in_hand = put_who m.in_hand (who s) (left end (then_state pull_done snap_then (Some keeps_then) served_then)) })
        pulled_keeps end =
            let z = then_state pull_done snap_then (Some keeps_then) served_then in
            let hands = put_who m.in_hand (who s) (left end z) in
            record {
              shapes = shapes;
              holds = plain_steps m shapes inv s held plain (left end z) (same_call-left s z end refl refl) (λ w same. subst (IsInHand (record m { in_hand = hands }) shapes (who s)) (left_is end z w same)
                  (hand_then pull_done snap_then (Some keeps_then) served_then m.replicas hands refl (here_then pull_done snap_then (Some keeps_then) served_then m.replicas hands pulled_then (set_length u.served at.node true ∙ at_sync.nodes) tells_then led_then older_then)));
            }

        -- it ends where all are served
        pull_ends : ended_by (count_in (m.replicas u.ckpt at.node)) (first_unserved 0 (complete_of (entry_of u.ckpt m.cluster.entries)) served_then) ≡ unless_unserved (pull_done ∷ s.steps) at.entry.complete (length at.replica.effects)
        pull_ends =
            (λ i. ended_by (count_in (at.there i)) (first_unserved 0 (complete_of (at.found i)) served_then))
            ∙ ends_alike (pull_done ∷ s.steps) (length at.replica.effects) 0 at.entry.complete served_then (tells_all (pull_done ∷ s.steps) at.entry.complete served_then spread.nodes tells_then)

        -- it comes nearer to its end
        pull_nearer : steps_left m.cluster m.replicas (driver_taken pull_done (driver_of s)) < steps_left m.cluster m.replicas (driver_of s)
        pull_nearer = subst (λ d. steps_left m.cluster m.replicas (driver_taken pull_done d) < steps_left m.cluster m.replicas d) (sym is)
            (subst (λ kind. kind_left (entry_of u.ckpt m.cluster.entries) (record u { pulled = Some keeps_then; served = served_then }) kind < kind_left (entry_of u.ckpt m.cluster.entries) u kind) (sym sync.1)
            (subst (λ o. sync_left (complete_of (entry_of u.ckpt m.cluster.entries)) (record u { pulled = Some keeps_then; served = served_then }) (Some keeps_then) < sync_left (complete_of (entry_of u.ckpt m.cluster.entries)) u o) (sym first)
            (let few = unserved-few (complete_of (entry_of u.ckpt m.cluster.entries)) served_then in let nodes : length (complete_of (entry_of u.ckpt m.cluster.entries)) ≡ 8 = ap (λ o. length (complete_of o)) at.found ∙ spread.nodes in omega (arith, few, nodes))))

        -- the marks of another call hold it off, which is live
        another : (marks : Marked) → (shapes u.ckpt).marks ≡ Some marks → same_call marks.call s.call ≡ false
        another marks stand =
            let own = spread.marked marks stand in
            same_call-false marks.call s.call (λ same. apart_from m.in_hand m.pending m.next inv.calls s held (who own.state) own.state own.in_hand (marker_apart m shapes inv s held plain u.ckpt marks own) (own.call_is ∙ same))

        pull_by : (t : Told) → IsServed m s at.node request t → (o : Option Marked) → (shapes u.ckpt).marks ≡ o → Goes m s (driver_of s) t
        pull_by t served None stand = subst (Goes m s (driver_of s)) (sym (IsServed-told m s at.node request t (drivers.Sync u) (replies.Done (answers.Pulled (length at.replica.effects))) served is (answered t served None stand))) (record {
          row = (
            inl (at_sync.place, at_sync.timeout, at_sync.asks, on_its_replica m (shapes u.ckpt).marks u.ckpt at (PullOk m s at.node _) (record { alone = alone; active = at.active; in_time = early; unmarked = marks_are ∙ stand; answer = pull_ends })),
            ended_nothing _ _ nothing_told,
          );
          holds = pulled_keeps _;
          nearer = λ goes_on. pull_nearer;
        })
        pull_by t served (Some marks) stand =
            let told = IsServed-told m s at.node request t (drivers.Sync u) (replies.Held marks.call) served is (answered t served (Some marks) stand) in
            let live = marker_live m shapes u.ckpt marks inv (spread.marked marks stand) in
            subst (Goes m s (driver_of s)) (sym (told ∙ (λ i. record { verb = verbs.Pull; ckpt = Some u.ckpt; node = Some at.node; reply = words.Held marks.call; end = cond (live i) (Some (Refused TryAgain (Holder marks.call))) None; details = ended_details (cond (live i) (Some (Refused TryAgain (Holder marks.call))) None) (nothing_told i) }))) (record {
              row = (
                inl (
                  at_sync.place,
                  at_sync.timeout,
                  at_sync.asks,
                  on_its_replica m (shapes u.ckpt).marks u.ckpt at (PullHeld m s at.node marks.call _) (record {
                    active = at.active;
                    in_time = early;
                    held = record {
                      marks = subst (λ o. IsSomeAnd o (λ (w : Marked). w.call ≡ marks.call)) (sym (marks_are ∙ stand)) refl;
                      another = another marks stand;
                      live = live;
                      answer = refl;
                      told = refl;
                    };
                  }),
                ),
                refl,
              );
              holds = record { shapes = shapes; holds = plain_ends m shapes inv s held plain };
              nearer = λ none. absurd (cc none);
            })

        pub pull_goes : (t : Told) → IsServed m s at.node request t → Goes m s (driver_of s) t
        pull_goes t served = pull_by t served (shapes u.ckpt).marks refl
