-- An open that makes nothing yet is refused, creates a checkpoint, or opens one that is there; with any calls of others in hand.
use Rattle.std.proofs.Common.{◌≡◌, ◌≤◌, ℕ, ◌+◌, ◌<◌, inl, inr, ◌∷◌, length, Option, Some, None, Bool, true, false, cond, not, ◌==◌, nat_le, nat_lt, ℤ, refl, sym, ap, subst, ◌∙◌, arith}
use Rattle.std.specs.Prelude.{is_some, IsSomeAnd, slice_index}
use Rattle.std.proofs.lemmas.Bool.{leb-true, leb-false, ltb-true}
use Rattle.moment_rules.specs.Times.{is_reached}
use Rattle.ckpt_types.specs.declared.ais_error.AisError.{AisError}
use Rattle.ckpt_types.specs.declared.ais_error.AisError.TheVariants.{NotExist, Exist, Timeout, TryAgain, NoResources}
use Rattle.ckpt_types.specs.declared.answers.Cause.{Cause}
use Rattle.ckpt_types.specs.declared.answers.Cause.TheVariants.{Plain, Holder, Deadline, Count}
use Rattle.ckpt_types.specs.declared.answers.Outcome.TheVariants.{Refused, NoMemory}
use Rattle.ckpt_types.specs.declared.attributes.CreationAttributes.{CreationAttributes}
use Rattle.ckpt_types.specs.declared.calls.OpenAsk.{OpenAsk}
use Rattle.ckpt_types.specs.declared.identities.CallId.{CallId}
use Rattle.node_msgs.specs.declared.next.RecordStep.TheVariants as events
use Rattle.node_msgs.specs.declared.next.Next.TheVariants.{Event, End}
use Rattle.node_msgs.specs.declared.steps.Verb.TheVariants as verbs
use Rattle.node_msgs.specs.declared.steps.StepReply.TheVariants as words
use Rattle.cluster_record.specs.declared.calls.Making.{Making}
use Rattle.cluster_record.specs.declared.entries.Entry.{Entry}
use Rattle.cluster_record.specs.declared.opening.OpenAnswer.TheVariants as opening
use Rattle.cluster_record.specs.Calls.{client_of, same_call}
use Rattle.cluster_record.specs.DueOpen.{OpenState, IsBefore, accepts, create_next, entry_by, entry_next, on_named, on_free_name}
use Rattle.cluster_record.specs.LookUps.{identity_in}
use Rattle.cluster_record.specs.Opening.{answer_named, answer_by}
use Rattle.cluster_record.specs.RecordState.{RecordState, entry_of, home_of, named, no_nodes, is_live, is_live_client, new_entry, created_as, swept}
use Rattle.cluster_record.specs.Placement.{adds}
use Rattle.cluster_record.specs.Refusals.{plainly}
use Rattle.cluster_record.specs.StepDone.{StepDone, done_of, has}
use Rattle.cluster_record.proofs.IdentityLaws.{entry_of-find}
use Rattle.node_msgs.specs.declared.details.Details.TheVariants as beside
use Rattle.ckpt_types.specs.Asks.{asked}
use Rattle.ckpt_types.specs.Limits.{handles_max}
use Rattle.cluster_record.specs.Makings.{makings_of}
use Rattle.ckpt_machine.proofs.Whose.{other_call}
use Rattle.ckpt_machine.specs.Drivers as drivers
use Rattle.ckpt_machine.specs.Driving.{driver_taken, event_ckpt, event_node, event_refusal, refusal_in, opened_end}
use Rattle.ckpt_machine.specs.LookGuards.{MayExist, IsAccepted, OpenLook}
use Rattle.ckpt_machine.specs.OpenGuards.{MayCreate, IsOpenable, MayOpen, OpenRow}
use Rattle.ckpt_machine.specs.GuardTerms.{IsInTime}
use Rattle.ckpt_machine.specs.InHand.{attributes_asked, AreGoodAttributes, is_enter, IsInPlace, IsInHand, IsOpenIn}
use Rattle.ckpt_machine.specs.Invariant.{IsMaker, IsGoodIn, IsReservedFor, InvariantIn, Invariant}
use Rattle.ckpt_machine.specs.Left.{steps_left}
use Rattle.ckpt_machine.specs.Machine.{Machine, ReplicaState, CallState, who}
use Rattle.ckpt_machine.specs.After.{reservation_under, with_record, created_for}
use Rattle.ckpt_machine.specs.Due.{Told, IsDone, IsEvent, IsRecordAnswer, IsEventAnswer, driver_of, event_done, rooms_of}
use Rattle.ckpt_machine.specs.Shape.{Shape}
use Rattle.ckpt_machine.proofs.Askers.{client_makings}
use Rattle.ckpt_machine.proofs.Created.{entry_new, created_keeps}
use Rattle.ckpt_machine.proofs.Deadlines.{in_time-cases}
use Rattle.ckpt_machine.proofs.EntryLists.{entry_of-given, swept-all, AllStay-push}
use Rattle.ckpt_machine.proofs.StepLabels.{not_kept_off, IsEvent-told, Told-is}
use Rattle.ckpt_machine.proofs.OptionLemmas.{IsSomeAnd-from}
use Rattle.ckpt_machine.proofs.StepsLeft.{lacking-few}
use Rattle.ckpt_machine.proofs.NodeLists.{had-there, has-none}
use Rattle.ckpt_machine.proofs.OpenReady.{client_live}
use Rattle.ckpt_machine.proofs.OtherCalls.{home_stays}
use Rattle.ckpt_machine.proofs.OpenThere.{opened_keeps}
use Rattle.ckpt_machine.proofs.OpenFacts.{LookRefused-open}
use Rattle.ckpt_machine.proofs.OwnMaking.{open_at}
use Rattle.ckpt_machine.proofs.PlainCalls.{is_plain, maker_apart, plain_ends, look_goes}
use Rattle.ckpt_machine.specs.Whose.{put_who}
use Rattle.ckpt_machine.proofs.DueStep.{Goes}
use Rattle.ckpt_types.proofs.Lists.{slice_index-replicate}

module _ (m : Machine) (shapes : ℕ → Shape) (inv : InvariantIn shapes m) (s : CallState) (held : m.in_hand (who s) ≡ Some s) (call : CallId) (ask : OpenAsk) (deadline : Option ℤ) (is : driver_of s ≡ drivers.Open (record { call = call; ask = ask; deadline = deadline; making = None })) where
  -- what it keeps
  abbrev asking : OpenState
  asking = record { call = call; ask = ask; deadline = deadline; making = None }

  -- where its steps have led it
  at_open : IsOpenIn m s asking
  at_open = open_at m shapes inv s asking held is

  -- its client is live
  own_live : is_live_client (client_of s.call) m.cluster ≡ true
  own_live = client_live m.cluster s.call at_open.caller ((inv.hands (who s) s held).live (ap is_enter is))

  -- the call ends, and nothing else changes
  ends : Invariant (record m { in_hand = put_who m.in_hand (who s) None })
  ends = record { shapes = shapes; holds = plain_ends m shapes inv s held (ap (λ d. is_plain d s.snapshot) is) }

  -- it is refused
  refused : (t : Told) (error : AisError) (cause : Cause) → OpenLook m s ask.name ask.attrs error cause → IsDone m s (End (Refused error cause)) t → Goes m s (drivers.Open asking) t
  refused t error cause look done = subst (λ d. Goes m s d t) is (look_goes m shapes inv s held (ap (λ d. is_plain d s.snapshot) is) error cause t (LookRefused-open m s ask.name ask.attrs error cause at_open.asks look) done)

  -- at its deadline
  refused_late : (t : Told) (d : ℤ) → MayExist (named ask.name m.cluster.entries) ask.attrs → deadline ≡ Some d → is_reached d m.cluster.moment ≡ true → IsDone m s (End (Refused Timeout (Deadline d m.cluster.moment))) t → Goes m s (drivers.Open asking) t
  refused_late t d may at_d late done = refused t Timeout (Deadline d m.cluster.moment) (may, sym at_open.deadline ∙ at_d, refl, late) done

  -- its client has a free place for a handle
  has_room : (rooms_of m s).handles ≡ true → length (m.tables s.call.actor).handles + makings_of (client_of s.call) m.cluster.entries < handles_max
  has_room room =
      ltb-true (length (m.tables s.call.actor).handles + makings_of (client_of s.call) m.cluster.entries) handles_max
      (ap (λ n. nat_lt (length (m.tables s.call.actor).handles + n) handles_max) (sym (client_makings m.cluster.entries s.call.actor at_open.caller)) ∙ room)

  -- before it
  in_time_is : IsBefore m.cluster.moment deadline → IsInTime m s
  in_time_is before = subst (IsBefore m.cluster.moment) at_open.deadline before

  -- ---- a checkpoint is created

  module _ (a : CreationAttributes) (given : ask.attrs ≡ Some a) (free : named ask.name m.cluster.entries ≡ None) (before : IsBefore m.cluster.moment deadline) where
    -- the next identity
    abbrev next : ℕ
    next = m.cluster.last_identity + 1

    -- the entry that is new
    abbrev new : Entry
    new = new_entry s.call ask.name a m.cluster

    -- the record with it
    abbrev after_it : RecordState
    after_it = created_as s.call ask.name (Some a) m.cluster

    -- the step as the call keeps it
    abbrev create_done : StepDone
    create_done = done_of after_it verbs.Create (Some next) None words.Ok

    -- the making as it begins
    abbrev making : Making
    making = record { ckpt = next; reserved = no_nodes; refused = false }

    -- what the call keeps then
    abbrev at_making : OpenState
    at_making = record { call = call; ask = ask; deadline = deadline; making = Some making }

    -- the call then
    abbrev then_state : CallState
    then_state = record s { steps = create_done ∷ s.steps }

    -- the state then
    abbrev then_machine : Machine
    then_machine = record (with_record m after_it) { in_hand = put_who m.in_hand (who s) (Some then_state) }

    -- where the step has led it
    driver_then : driver_of then_state ≡ drivers.Open at_making
    driver_then = ap (driver_taken create_done) is

    -- it has reserved nowhere
    none_reserved : (r c : ℕ) → has c (slice_index no_nodes r) ≡ true → ⊥
    none_reserved r c had = (let w : true ≡ false = sym had ∙ ap (has c) (slice_index-replicate 8 r) ∙ has-none c (had-there c (slice_index no_nodes r) had) in cc w)

    -- so in no incarnation beyond the last
    none_later : (r : ℕ) → slice_index no_nodes r ≤ slice_index m.cluster.last_incarnations r
    none_later r = let none : slice_index no_nodes r ≡ 0 = slice_index-replicate 8 r in omega (arith, none)

    -- the call is there
    own_then : (rooms_of m s).handles ≡ true → IsInHand then_machine shapes (who s) then_state
    own_then room = let hand = inv.hands (who s) s held in record {
      whose = refl;
      asker = hand.asker;
      number = hand.number;
      built = hand.built;
      driven = hand.driven;
      live = λ others. hand.live (ap is_enter is);
      home = λ others. hand.home (ap is_enter is) ∙ sym (home_stays s.call.actor m.cluster after_it refl);
      here = subst (IsInPlace then_machine shapes then_state) (sym driver_then) (record {
        caller = at_open.caller;
        client = at_open.client;
        within = at_open.within;
        node = at_open.node;
        home = at_open.home;
        asks = let open_asks = at_open.asks in record { place = open_asks.place; flags = open_asks.flags; timeout = open_asks.timeout; asks = open_asks.asks };
        named = at_open.named;
        declared = at_open.declared;
        deadline = at_open.deadline;
        making = record { there = IsSomeAnd-from (entry_of next after_it.entries) (λ e. e.making ≡ Some s.call) new found_new refl; declares = IsSomeAnd-from (entry_of next after_it.entries) _ new found_new (ap attributes_asked at_open.asks.asks ∙ given); nodes = refl; reserved = λ r had. absurd (none_reserved r (slice_index m.cluster.up r) had); only = λ r none. never_reserved r; within = λ r some. absurd (let w : false ≡ true = sym (ap is_some (never_reserved r)) ∙ some in cc w); no_later = λ r. none_later r };
        given = λ some. ap is_some given;
      });
    }
      where
        -- nobody has reserved for an identity that was not given
        not_given : (r : ℕ) → m.reserved next r ≡ None
        not_given r = by_reserved (m.reserved next r) refl
          where
            by_entry : (n : ℕ) (e : Option Entry) → entry_of next m.cluster.entries ≡ e → IsSomeAnd e (IsReservedFor m.cluster r n) → m.reserved next r ≡ None
            by_entry n None found some = absurd some
            by_entry n (Some e) found some = absurd (let below : next ≤ m.cluster.last_identity = entry_of-given m.cluster.last_identity next m.cluster.entries e inv.up_to found in omega (arith, below))

            by_reserved : (n : Option ℕ) → m.reserved next r ≡ n → m.reserved next r ≡ None
            by_reserved None none = none
            by_reserved (Some n) some = by_entry n (entry_of next m.cluster.entries) refl (inv.reserves next r n some)

        -- its entry is the new one
        found_new : entry_of next after_it.entries ≡ Some new
        found_new = entry_new m shapes inv s held (ap (λ d. is_plain d s.snapshot) is) ask.name a (subst AreGoodAttributes given at_open.declared) then_state refl refl at_open.caller (has_room room) at_making driver_then making refl refl

        never_reserved : (r : ℕ) → then_machine.reserved next r ≡ None
        never_reserved r = ap (λ o. reservation_under o r (m.reserved next r)) found_new ∙ ap (λ b. cond b (m.reserved next r) None) (ap (λ (n : ℕ). n == 0) (slice_index-replicate 8 r)) ∙ not_given r

    -- no sweep takes anything
    created_is : swept (created_for s.call (asked s.op) m.cluster) ≡ after_it
    created_is =
        ap (λ ask. swept (created_for s.call ask m.cluster)) at_open.asks.asks
        ∙ ap (λ b. swept (created_as s.call ask.name b m.cluster)) given
        ∙ swept-all after_it (AllStay-push m.cluster.moment m.cluster.entries new inv.swept refl)

    -- the call goes on, making it
    create_keeps : (rooms_of m s).handles ≡ true → length m.cluster.entries < 16 → Invariant then_machine
    create_keeps room few = record {
      shapes = shapes;
      holds = created_keeps m shapes inv s held (ap (λ d. is_plain d s.snapshot) is) ask.name a (subst AreGoodAttributes given at_open.declared) then_state refl refl at_open.caller (has_room room) at_making driver_then making refl refl few (own_then room);
    }

    -- its reservations and its finish are left
    create_nearer : (f : ℕ → ℕ → Option ReplicaState) → steps_left after_it f (drivers.Open at_making) < steps_left m.cluster m.replicas (drivers.Open asking)
    create_nearer f = let few = lacking-few m.cluster.up no_nodes in let nodes : length m.cluster.up ≡ 8 = inv.up in omega (arith, few, nodes)

    -- it may be created
    may_create : (rooms_of m s).handles ≡ true → length m.cluster.entries < 16 → MayCreate m s ask.name ask.attrs next
    may_create room few = record { free = free; asked = ap is_some given; in_time = in_time_is before; room = room; few = few; next = refl }

    -- the creation
    create_goes : (t : Told) → (rooms_of m s).handles ≡ true → length m.cluster.entries < 16 → IsEvent m s events.Create t → Goes m s (drivers.Open asking) t
    create_goes t room few event = elim (IsEvent-told m s events.Create t (drivers.Open asking) event is refl tt) [
      | inl ok ↦ subst (Goes m s (drivers.Open asking)) (sym ok) (record {
        row = ((ask.name, ask.attrs, at_open.asks, (may_create room few, refl)), refl);
        holds = subst (λ R. Invariant (record (with_record m R) { in_hand = put_who m.in_hand (who s) (Some (record s { steps = done_of R verbs.Create (Some next) None words.Ok ∷ s.steps })) })) (sym created_is) (create_keeps room few);
        nearer = λ none. subst (λ R. steps_left R (with_record m R).replicas (driver_taken (done_of R verbs.Create (Some next) None words.Ok) (drivers.Open asking)) < steps_left m.cluster m.replicas (drivers.Open asking)) (sym created_is) (create_nearer (with_record m after_it).replicas);
      })
      | inr memory ↦ subst (Goes m s (drivers.Open asking)) (sym memory.1) (record {
        row = ((ask.name, ask.attrs, at_open.asks, (may_create room few, refl)), refl);
        holds = ends;
        nearer = λ none. absurd (cc none);
      })
    ]

  -- ---- a checkpoint that is there

  module _ (e : Entry) (found : named ask.name m.cluster.entries ≡ Some e) (before : IsBefore m.cluster.moment deadline) where
    -- its identity finds it
    there : entry_of e.identity m.cluster.entries ≡ Some e
    there = entry_of-find _ m.cluster.entries e inv.rises found

    -- what the record answers
    answered : event_refusal m.cluster events.Open (driver_of s) ≡ refusal_in (answer_by e.making ask.attrs (home_of ask.client m.cluster) e)
    answered = ap (event_refusal m.cluster events.Open) is ∙ ap (λ o. refusal_in (answer_named m.cluster ask.attrs (home_of ask.client m.cluster) o)) found

    -- another call, which is live, is making it
    module _ (by : CallId) (made_by : e.making ≡ Some by) where
      -- the call that is making it is in hand
      maker : IsMaker m e.identity by
      maker = let good : IsGoodIn m e.identity (shapes e.identity) e (Some by) = subst (IsGoodIn m e.identity (shapes e.identity) e) made_by (inv.entries e.identity e there) in good.1

      -- the guard
      held_row : OpenRow m s ask.name ask.attrs e.identity words.Refused (Some (Refused TryAgain (Holder by)))
      held_row = (
        by,
        record {
          there = IsSomeAnd-from (named ask.name m.cluster.entries) (λ x. (x.identity ≡ e.identity) × (x.making ≡ Some by)) e found (refl, made_by);
          in_time = in_time_is before;
          live = ap (is_live m.cluster) (sym maker.call_is) ∙ (inv.hands (who maker.state) maker.state maker.in_hand).live (ap is_enter maker.driver_is);
          another = ap (λ (c : CallId). same_call c s.call) (sym maker.call_is) ∙ other_call m.in_hand m.pending m.next inv.calls (who maker.state) (who s) maker.state s maker.in_hand held (maker_apart m shapes inv s held (ap (λ d. is_plain d s.snapshot) is) e.identity by maker);
          answer = refl;
        },
      )

      -- the label
      held_told : (t : Told) → IsEvent m s events.Open t → t ≡ record { verb = verbs.Open; ckpt = Some e.identity; node = None; reply = words.Refused; end = Some (Refused TryAgain (Holder by)); details = beside.Nothing }
      held_told t event =
          let refusal : event_refusal m.cluster events.Open (driver_of s) ≡ Some (Refused TryAgain (Holder by)) = answered ∙ ap (λ c. refusal_in (answer_by c ask.attrs (home_of ask.client m.cluster) e)) made_by in
          let (reply, end) = subst (λ o. IsRecordAnswer o (event_done m s events.Open t) events.Open t) refusal (subst (λ o. IsEventAnswer o (event_refusal m.cluster events.Open (driver_of s)) (event_done m s events.Open t) events.Open t) (not_kept_off m t.ckpt events.Open tt) event.answer) in
          let ckpt : t.ckpt ≡ Some e.identity = event.ckpt ∙ ckpt_then is ∙ ap identity_in found in
          let node : t.node ≡ None = event.node ∙ node_then is in
          Told-is t (record { verb = verbs.Open; ckpt = Some e.identity; node = None; reply = words.Refused; end = Some (Refused TryAgain (Holder by)); details = beside.Nothing }) event.verb ckpt node reply end event.details
        where
          ckpt_then : driver_of s ≡ drivers.Open asking → event_ckpt m.cluster (driver_of s) events.Open ≡ identity_in (named ask.name m.cluster.entries)
          ckpt_then at = ap (λ d. event_ckpt m.cluster d events.Open) at

          node_then : driver_of s ≡ drivers.Open asking → event_node (driver_of s) events.Open ≡ None
          node_then at = ap (λ d. event_node d events.Open) at

      -- it is to try again
      held_goes : (t : Told) → IsEvent m s events.Open t → Goes m s (drivers.Open asking) t
      held_goes t event = subst (Goes m s (drivers.Open asking)) (sym (held_told t event)) (record {
        row = ((ask.name, ask.attrs, at_open.asks, held_row), refl);
        holds = ends;
        nearer = λ none. absurd (cc none);
      })

    -- it is made
    module _ (made : e.making ≡ None) where
      -- it may be opened
      may_open : accepts ask.attrs e ≡ true → (rooms_of m s).handles ≡ true → MayOpen m s ask.name ask.attrs e.identity
      may_open accepted room = record {
        there = IsSomeAnd-from (named ask.name m.cluster.entries) (IsOpenable ask.attrs e.identity) e found (record { identity = refl; made = made; accepted = accepted });
        in_time = in_time_is before;
        room = room;
      }

      -- the record does not refuse it
      granted : accepts ask.attrs e ≡ true → event_refusal m.cluster events.Open (drivers.Open asking) ≡ None
      granted accepted =
          ap (λ o. refusal_in (answer_named m.cluster ask.attrs (home_of ask.client m.cluster) o)) found
          ∙ ap (λ c. refusal_in (answer_by c ask.attrs (home_of ask.client m.cluster) e)) made
          ∙ ap (λ b. refusal_in (cond (not b) (opening.Refused (plainly Exist)) (opening.Opened e.identity (adds e.attributes (home_of ask.client m.cluster) e.complete)))) accepted

      -- the opening
      open_goes : (t : Told) → accepts ask.attrs e ≡ true → (rooms_of m s).handles ≡ true → IsEvent m s events.Open t → Goes m s (drivers.Open asking) t
      open_goes t accepted room event = elim (IsEvent-told m s events.Open t (drivers.Open asking) event is (granted accepted) tt) [
        | inl ok ↦
            subst (Goes m s (drivers.Open asking)) (sym (ok ∙ (λ i. record { verb = verbs.Open; ckpt = identity_in (found i); node = None; reply = words.Ok; end = opened_end (identity_in (found i)); details = beside.Nothing }))) (record {
              row = ((ask.name, ask.attrs, at_open.asks, (may_open accepted room, refl)), refl);
              holds = opened_keeps m shapes inv s held (ap (λ d. is_plain d s.snapshot) is) at_open.caller own_live e there made (has_room room);
              nearer = λ none. absurd (cc none);
            })
        | inr memory ↦
            subst (Goes m s (drivers.Open asking)) (sym (memory.1 ∙ (λ i. record { verb = verbs.Open; ckpt = identity_in (found i); node = None; reply = words.Memory; end = Some NoMemory; details = beside.Nothing }))) (record {
              row = ((ask.name, ask.attrs, at_open.asks, (may_open accepted room, refl)), refl);
              holds = ends;
              nearer = λ none. absurd (cc none);
            })
      ]

  -- ---- by the name

  -- of a name that is free, where a checkpoint is asked for in time
  create_next-goes : (room : Bool) (a : CreationAttributes) (t : Told) → (rooms_of m s).handles ≡ room → ask.attrs ≡ Some a → named ask.name m.cluster.entries ≡ None → IsBefore m.cluster.moment deadline → IsDone m s (create_next m.cluster room) t → Goes m s (drivers.Open asking) t
  create_next-goes false a t has_room given free before done =
      refused t NoResources (Count 32) (in_time_is before, inl (record { accepted = subst (λ o. IsAccepted o ask.attrs) (sym free) (ap is_some given); full = has_room; limit = refl })) done
  create_next-goes true a t has_room given free before done =
      elim (nat_le 16 (length m.cluster.entries)) as (λ b. nat_le 16 (length m.cluster.entries) ≡ b → IsDone m s (cond b (End (Refused NoResources (Count 16))) (Event events.Create)) t → Goes m s (drivers.Open asking) t) [
        | true ↦ λ full done. refused t NoResources (Count 16) (in_time_is before, inr (record { free = free; asked = ap is_some given; room = has_room; full = leb-true 16 (length m.cluster.entries) full; limit = refl })) done
        | false ↦ λ few done. create_goes a given free before t has_room (leb-false 16 (length m.cluster.entries) few) done
      ] refl done

  -- of a name that is free
  on_free_name-goes : (room : Bool) (a : Option CreationAttributes) (t : Told) → (rooms_of m s).handles ≡ room → ask.attrs ≡ a → named ask.name m.cluster.entries ≡ None → IsDone m s (on_free_name m.cluster room deadline a) t → Goes m s (drivers.Open asking) t
  on_free_name-goes room None t has_room given free done = refused t NotExist Plain (free, given) done
  on_free_name-goes room (Some a) t has_room given free done =
      in_time-cases (λ next. IsDone m s next t → Goes m s (drivers.Open asking) t) deadline m.cluster.moment (create_next m.cluster room)
      (λ d at_d late. refused_late t d (subst (λ o. MayExist o ask.attrs) (sym free) (ap is_some given)) at_d late) (λ before. create_next-goes room a t has_room given free before) done

  -- of a name that a checkpoint has which is made, in time
  made_next-goes : (room : Bool) (e : Entry) (t : Told) → (rooms_of m s).handles ≡ room → named ask.name m.cluster.entries ≡ Some e → IsBefore m.cluster.moment deadline → e.making ≡ None → (accepted : Bool) → accepts ask.attrs e ≡ accepted
      → IsDone m s (cond (not accepted) (End (Refused Exist Plain)) (cond (not room) (End (Refused NoResources (Count 32))) (Event events.Open))) t → Goes m s (drivers.Open asking) t
  made_next-goes room e t has_room found before made false accepted done = refused t Exist Plain (in_time_is before, IsSomeAnd-from (named ask.name m.cluster.entries) (λ f. (f.making ≡ None) × (accepts ask.attrs f ≡ false)) e found (made, accepted)) done
  made_next-goes false e t has_room found before made true accepted done =
      refused t NoResources (Count 32) (in_time_is before, inl (record { accepted = subst (λ o. IsAccepted o ask.attrs) (sym found) (made, accepted); full = has_room; limit = refl })) done
  made_next-goes true e t has_room found before made true accepted done = open_goes e found before made t accepted has_room done

  -- of a name that a checkpoint has, in time
  entry_next-goes : (room : Bool) (e : Entry) (t : Told) → (rooms_of m s).handles ≡ room → named ask.name m.cluster.entries ≡ Some e → IsBefore m.cluster.moment deadline → (maker : Option CallId) → e.making ≡ maker → IsDone m s (entry_by maker room ask.attrs e) t → Goes m s (drivers.Open asking) t
  entry_next-goes room e t has_room found before (Some by) made_by done = held_goes e found before by made_by t done
  entry_next-goes room e t has_room found before None made done = made_next-goes room e t has_room found before made (accepts ask.attrs e) refl done

  -- of any name
  on_named-goes : (room : Bool) (o : Option Entry) (t : Told) → (rooms_of m s).handles ≡ room → named ask.name m.cluster.entries ≡ o → IsDone m s (on_named m.cluster room deadline ask.attrs o) t → Goes m s (drivers.Open asking) t
  on_named-goes room None t has_room free done = on_free_name-goes room ask.attrs t has_room refl free done
  on_named-goes room (Some e) t has_room found done =
      in_time-cases (λ next. IsDone m s next t → Goes m s (drivers.Open asking) t) deadline m.cluster.moment (entry_next room ask.attrs e)
      (λ d at_d late. refused_late t d (subst (λ o. MayExist o ask.attrs) (sym found) tt) at_d late) (λ before done. entry_next-goes room e t has_room found before e.making refl done) done

  -- the next step of an open that makes nothing yet
  pub asking_goes : (room : Bool) (t : Told) → (rooms_of m s).handles ≡ room → IsDone m s (on_named m.cluster room deadline ask.attrs (named ask.name m.cluster.entries)) t → Goes m s (drivers.Open asking) t
  asking_goes room t has_room done = on_named-goes room (named ask.name m.cluster.entries) t has_room refl done
