-- An open that is making a checkpoint reserves it on each node that is up, and finishes it; or undoes it, where memory was refused or its deadline is reached; with any calls of others in hand.
use Rattle.std.proofs.Common.{◌≡◌, ◌⊎◌, ℕ, ◌+◌, ◌<◌, ◌≤◌, inl, inr, ◌∷◌, length, Option, Some, None, Bool, true, false, cond, not, ◌==◌, ◌&&◌, nat_lt, ℤ, refl, sym, ap, subst, ◌∙◌, arith}
use Rattle.std.specs.Prelude.{IsSome, IsSomeAnd, IfSome, is_some, slice_index, slice_set}
use Rattle.std.proofs.lemmas.Bool.{eqb-true, eq-eqb, lt-ltb, ltb-true, and_parts}
use Rattle.std.proofs.lemmas.Option.{same_Some}
use Rattle.moment_rules.specs.Times.{is_reached}
use Rattle.ckpt_types.specs.declared.ais_error.AisError.TheVariants.{Timeout}
use Rattle.ckpt_types.specs.declared.answers.Answer.TheVariants as answers
use Rattle.ckpt_types.specs.declared.answers.Cause.TheVariants.{Deadline}
use Rattle.ckpt_types.specs.declared.answers.Outcome.TheVariants.{Refused}
use Rattle.ckpt_types.specs.declared.calls.OpenAsk.{OpenAsk}
use Rattle.ckpt_types.specs.declared.identities.CallId.{CallId}
use Rattle.node_msgs.specs.declared.requests.Request.TheVariants as requests
use Rattle.node_msgs.specs.declared.replies.Reply.{Reply}
use Rattle.node_msgs.specs.declared.replies.Reply.TheVariants as replies
use Rattle.node_msgs.specs.declared.next.RecordStep.TheVariants as events
use Rattle.node_msgs.specs.declared.next.Next.TheVariants.{Event, End}
use Rattle.node_msgs.specs.declared.steps.Verb.TheVariants as verbs
use Rattle.node_msgs.specs.declared.steps.StepReply.TheVariants as words
use Rattle.node_core.specs.Nodes.{MayReserve}
use Rattle.cluster_record.specs.declared.calls.Making.{Making}
use Rattle.cluster_record.specs.declared.entries.Entry.{Entry}
use Rattle.cluster_record.specs.Calls.{client_of}
use Rattle.cluster_record.specs.DueOpen.{OpenState, IsBefore, in_time, reserve_or_finish, targets_by, targets_of, on_making}
use Rattle.cluster_record.specs.Placement.{is_collocated, targets}
use Rattle.cluster_record.specs.Places.{put2}
use Rattle.ckpt_types.specs.Asks.{asked}
use Rattle.ckpt_types.specs.Limits.{handles_max}
use Rattle.ckpt_types.specs.declared.identities.ActorName.TheVariants.{Client}
use Rattle.cluster_record.specs.Makings.{making_call, makings_of}
use Rattle.cluster_record.proofs.MakingCounts.{is_call_of-own, makings_of-finished_own}
use Rattle.ckpt_machine.proofs.EndedTables.{client_by_number}
use Rattle.cluster_record.specs.RecordState.{RecordState, entry_of, identity_of, named, is_up, is_live_client, first_complete, home_of, made_with, finished, swept, stays, is_call_of}
use Rattle.cluster_record.specs.StepDone.{StepDone, done_of, first_lacking, has, lacks}
use Rattle.ckpt_machine.specs.Drivers as drivers
use Rattle.ckpt_machine.specs.Driving.{driver_taken}
use Rattle.ckpt_machine.specs.OpenGuards.{IsMadeBy, IsTarget}
use Rattle.ckpt_machine.specs.GuardTerms.{IsInTime}
use Rattle.ckpt_machine.specs.Tables.{takes_copy}
use Rattle.ckpt_machine.specs.Entries.{WasMade, IsMakingEntry, AllStay}
use Rattle.ckpt_machine.specs.InHand.{is_enter, attributes_asked, IsMakingIn, IsInPlace, IsOpenIn}
use Rattle.ckpt_machine.specs.Invariant.{InvariantIn, Invariant}
use Rattle.ckpt_machine.specs.Left.{steps_left, lacking}
use Rattle.ckpt_machine.specs.Machine.{Machine, Snapshot, CallState, who}
use Rattle.ckpt_machine.specs.After.{with_record, with_given, with_reservation, record_step, without_making}
use Rattle.ckpt_machine.specs.Due.{Told, IsDone, IsServed, IsEvent, driver_of}
use Rattle.ckpt_machine.specs.Shape.{Shape, IsCompleteOn}
use Rattle.ckpt_machine.proofs.Askers.{IsCopyAsk, kept_still}
use Rattle.ckpt_machine.proofs.Deadlines.{in_time-cases}
use Rattle.ckpt_machine.proofs.Finished.{finish_keeps}
use Rattle.ckpt_machine.proofs.EntryLists.{swept-all, entry_of-given, find_key-change_key, AllStay-change_key, open-stays, list_any-first}
use Rattle.ckpt_machine.proofs.StepLabels.{IsServed-told, IsEvent-told}
use Rattle.ckpt_machine.proofs.StepsLeft.{lacking-set}
use Rattle.ckpt_machine.proofs.NodeLists.{first_lacking-is, first_lacking-None, index-set, index-other, length-slice_set, index-within, not-lacked, lacked-has, first_complete-there}
use Rattle.ckpt_machine.proofs.OpenReady.{client_live, home_is_up, none_else}
use Rattle.ckpt_machine.proofs.OptionLemmas.{IsSomeAnd-from}
use Rattle.ckpt_machine.proofs.Targets.{targets-length, target-up, target-home}
use Rattle.ckpt_machine.proofs.Handles.{IsGivable}
use Rattle.ckpt_machine.proofs.OpenFacts.{LookRefused-open, may_exist, given_ends}
use Rattle.ckpt_machine.proofs.OpenThere.{not_not}
use Rattle.ckpt_machine.proofs.OwnMaking.{open_at, making_at, made_by, making_entry}
use Rattle.ckpt_machine.proofs.PlainCalls.{ending}
use Rattle.ckpt_machine.proofs.Reserved.{reserved_keeps}
use Rattle.ckpt_machine.proofs.Undone.{undone_keeps}
use Rattle.ckpt_machine.specs.Whose.{put_who}
use Rattle.ckpt_machine.proofs.DueStep.{Goes}

-- a reservation is done, or is refused for memory where none stands
reserve_answers : (o : Option ℕ) (answer : Reply) → MayReserve (is_some o) answer → (answer ≡ replies.Done answers.Nothing) ⊎ ((answer ≡ replies.NoMemory) × (o ≡ None))
reserve_answers None answer (inl done) = inl done
reserve_answers None answer (inr refused) = inr (refused, refl)
reserve_answers (Some n) answer done = inl done

-- the call is in hand, with one step more, and with this in its hand
abbrev going_on : CallState → StepDone → Option Snapshot → Machine → Machine
going_on s d copy m = record m { in_hand = put_who m.in_hand (who s) (Some (record s { steps = d ∷ s.steps; snapshot = copy })) }

module _ (m : Machine) (shapes : ℕ → Shape) (inv : InvariantIn shapes m) (s : CallState) (held : m.in_hand (who s) ≡ Some s) (call : CallId) (ask : OpenAsk) (deadline : Option ℤ) (making : Making) (is : driver_of s ≡ drivers.Open (record { call = call; ask = ask; deadline = deadline; making = Some making })) where
  -- what it keeps
  abbrev at_making : OpenState
  at_making = record { call = call; ask = ask; deadline = deadline; making = Some making }

  -- its checkpoint
  abbrev k : ℕ
  k = making.ckpt

  -- where its steps have led it
  at_open : IsOpenIn m s at_making
  at_open = open_at m shapes inv s at_making held is

  -- how far the making is
  its : IsMakingIn m s making
  its = making_at m shapes inv s at_making making held is refl

  -- its checkpoint is in the making by it
  by : IsMadeBy m s.call k
  by = made_by m shapes inv s at_making making held is refl

  -- the entry, as it was created
  abbrev entry : (e : Entry) × (entry_of k m.cluster.entries ≡ Some e) × (e.making ≡ Some s.call) × IsMakingEntry e
  entry = making_entry m shapes inv s at_making making held is refl

  -- the deadline is not reached
  in_time_is : IsBefore m.cluster.moment deadline → IsInTime m s
  in_time_is before = subst (IsBefore m.cluster.moment) at_open.deadline before

  -- ---- undone

  -- at its deadline
  late_goes : (t : Told) (d : ℤ) → deadline ≡ Some d → is_reached d m.cluster.moment ≡ true → IsDone m s (End (Refused Timeout (Deadline d m.cluster.moment))) t → Goes m s (drivers.Open at_making) t
  late_goes t d at_d late done = subst (Goes m s (drivers.Open at_making)) (sym done) (record {
    row = (
      refl,
      refl,
      LookRefused-open m s ask.name ask.attrs Timeout (Deadline d m.cluster.moment) at_open.asks (may_exist (named ask.name m.cluster.entries) ask.attrs (at_open.given refl), sym at_open.deadline ∙ at_d, refl, late),
      refl,
    );
    holds = subst (λ o. Invariant (ending s (without_making o m))) (sym by) (undone_keeps m shapes inv s at_making making held is refl);
    nearer = λ none. absurd (cc none);
  })

  -- where memory was refused
  undo_goes : (t : Told) → IsBefore m.cluster.moment deadline → IsEvent m s events.Undo t → Goes m s (drivers.Open at_making) t
  undo_goes t before event = elim (IsEvent-told m s events.Undo t (drivers.Open at_making) event is refl tt) [
    | inl ok ↦ subst (Goes m s (drivers.Open at_making)) (sym ok) (record {
      row = ((ask.name, ask.attrs, at_open.asks, (by, in_time_is before, refl)), refl);
      holds = undone_keeps m shapes inv s at_making making held is refl;
      nearer = λ none. absurd (cc none);
    })
    | inr memory ↦ absurd (cc (memory.0))
  ]

  -- ---- finished

  -- the record with the checkpoint made
  abbrev finished_then : RecordState
  finished_then = finished k ask.client m.cluster

  -- the entry then
  abbrev made : Entry
  made = made_with (home_of ask.client m.cluster) m.cluster.up ask.client entry.0

  -- its maker has it open
  finished_stays : AllStay m.cluster.moment finished_then.entries
  finished_stays = AllStay-change_key m.cluster.moment (made_with (home_of ask.client m.cluster) m.cluster.up ask.client) k m.cluster.entries inv.swept (λ e found stay.
      let same : entry.0 ≡ e = same_Some entry.0 e (sym entry.1 ∙ found) in
      subst (λ f. stays m.cluster.moment (made_with (home_of ask.client m.cluster) m.cluster.up ask.client f) ≡ true) same (open-stays m.cluster.moment made (list_any-first entry.0.references ask.client (subst (λ n. ask.client < n) (sym entry.3.clients) at_open.within))))

  -- its entry is found
  found_now : entry_of k finished_then.entries ≡ Some made
  found_now = find_key-change_key identity_of k k (made_with (home_of ask.client m.cluster) m.cluster.up ask.client) (λ x. refl) m.cluster.entries entry.0 entry.1 ∙ ap (λ b. cond b (Some made) (entry_of k m.cluster.entries)) (eq-eqb k k refl)

  -- it is made now
  made_now : WasMade finished_then k
  made_now = record {
    given = entry_of-given m.cluster.last_identity k m.cluster.entries entry.0 inv.up_to entry.1;
    made = subst (λ o. IfSome o (λ (e : Entry). e.making ≡ None)) (sym found_now) refl;
  }

  -- its client is live
  own_live : is_live_client (client_of s.call) m.cluster ≡ true
  own_live = client_live m.cluster s.call at_open.caller ((inv.hands (who s) s held).live (ap is_enter is))

  -- its client's node is up
  home_up : is_up (home_of ask.client m.cluster) m.cluster ≡ true
  home_up = home_is_up m shapes inv ask.client (subst (λ (c : ℕ). is_live_client c m.cluster ≡ true) (sym at_open.client) own_live)

  -- what is asked for is what the checkpoint declares, so these are the nodes on which it is made
  targets_are : targets_of ask m.cluster ≡ targets entry.0.attributes (home_of ask.client m.cluster) m.cluster.up
  targets_are = ap (λ a. targets_by a (home_of ask.client m.cluster) m.cluster.up) (sym (ap attributes_asked at_open.asks.asks) ∙ subst (λ o. IsSomeAnd o (λ (e : Entry). attributes_asked (asked s.op) ≡ Some e.attributes)) entry.1 its.declares)

  targets_length : length (targets_of ask m.cluster) ≡ 8
  targets_length = ap length targets_are ∙ targets-length entry.0.attributes (home_of ask.client m.cluster) m.cluster.up inv.up

  -- one of them is up, in its incarnation
  there_up : (r : ℕ) → (slice_index (targets_of ask m.cluster) r == 0) ≡ false → slice_index (targets_of ask m.cluster) r ≡ slice_index m.cluster.up r
  there_up r there = ap (λ nodes. slice_index nodes r) targets_are ∙ target-up entry.0.attributes (home_of ask.client m.cluster) m.cluster.up r (ap (λ nodes. slice_index nodes r == 0) (sym targets_are) ∙ there)

  -- its client's node is one of them
  home_there : IsCompleteOn made (home_of ask.client m.cluster)
  home_there =
      let (below, there) = and_parts (nat_lt (home_of ask.client m.cluster) 8) (not (slice_index m.cluster.up (home_of ask.client m.cluster) == 0)) home_up in
      target-home entry.0.attributes (home_of ask.client m.cluster) m.cluster.up (ltb-true (home_of ask.client m.cluster) 8 below) (not_not (slice_index m.cluster.up (home_of ask.client m.cluster) == 0) there)

  -- one is up
  some_up : IsSome (first_complete 0 (targets entry.0.attributes (home_of ask.client m.cluster) m.cluster.up))
  some_up = first_complete-there 0 (targets entry.0.attributes (home_of ask.client m.cluster) m.cluster.up) (home_of ask.client m.cluster) home_there

  -- its client may be given a handle
  may_give : IsGivable finished_then s.call.actor k
  may_give = record {
    client = at_open.caller;
    live = own_live;
    made = made_now;
    placed = subst (λ o. IfSome o (λ (e : Entry). is_collocated e.attributes ≡ true → IsCompleteOn e (home_of (client_of s.call) m.cluster))) (sym found_now) (λ collocated. subst (λ (c : ℕ). IsCompleteOn made (home_of c m.cluster)) at_open.client home_there);
  }

  -- its client makes one less, so it has room for the handle
  room_then : length (m.tables s.call.actor).handles + makings_of (client_of s.call) finished_then.entries < handles_max
  room_then =
      let own : is_call_of (client_of s.call) (making_call (entry_of k m.cluster.entries)) ≡ true = ap (λ o. is_call_of (client_of s.call) (making_call o)) entry.1 ∙ ap (is_call_of (client_of s.call)) entry.2 ∙ is_call_of-own s.call at_open.caller in
      let fewer = makings_of-finished_own (client_of s.call) k m.cluster ask.client own in
      let few : length (m.tables (Client (client_of s.call))).handles + makings_of (client_of s.call) m.cluster.entries ≤ handles_max = inv.places (client_of s.call) in
      let here : length (m.tables s.call.actor).handles ≡ length (m.tables (Client (client_of s.call))).handles = ap (λ b. length (m.tables b).handles) (client_by_number s.call.actor at_open.caller) in
      omega (arith, fewer, few, here)

  -- the client of the call finishes it, and no sweep takes anything
  finished_is : swept (finished k (client_of s.call) m.cluster) ≡ finished_then
  finished_is = ap (λ c. swept (finished k c m.cluster)) (sym at_open.client) ∙ swept-all finished_then finished_stays

  -- the call ends, and its client has the handle
  finished_keeps : Invariant (ending s (with_given s k (record_step (finished k (client_of s.call)) m)))
  finished_keeps = subst (λ R. Invariant (ending s (with_given s k (with_record m R)))) (sym finished_is) (record {
    shapes = _;
    holds = given_ends (with_record m finished_then) _ s k (finish_keeps m shapes inv s at_making making held is refl ask.client entry.0 entry.1 entry.2 some_up (none_else m shapes inv s at_making held is making refl) finished_stays) may_give room_then;
  })

  -- every node on which it is made has reserved
  all_reserved : first_lacking 0 (targets_of ask m.cluster) making.reserved ≡ None → (r : ℕ) → IsTarget m s k r → m.reserved k r ≡ Some (slice_index m.cluster.up r)
  all_reserved none r target =
      let there : (slice_index (targets_of ask m.cluster) r == 0) ≡ false = ap (λ nodes. slice_index nodes r == 0) targets_are ∙ ap (λ c. slice_index (targets entry.0.attributes (home_of c m.cluster) m.cluster.up) r == 0) at_open.client ∙ subst (λ o. IsSomeAnd o (λ (e : Entry). (slice_index (targets e.attributes (home_of (client_of s.call) m.cluster) m.cluster.up) r == 0) ≡ false)) entry.1 target in
      its.reserved r (ap (λ n. has n (slice_index making.reserved r)) (sym (there_up r there)) ∙ not-lacked (slice_index (targets_of ask m.cluster) r) (slice_index making.reserved r) there (first_lacking-None 0 (targets_of ask m.cluster) making.reserved (its.nodes ∙ sym targets_length) none r))

  -- the finish
  finish_goes : (t : Told) → IsBefore m.cluster.moment deadline → first_lacking 0 (targets_of ask m.cluster) making.reserved ≡ None → IsEvent m s events.Finish t → Goes m s (drivers.Open at_making) t
  finish_goes t before none event = elim (IsEvent-told m s events.Finish t (drivers.Open at_making) event is refl tt) [
    | inl ok ↦ subst (Goes m s (drivers.Open at_making)) (sym ok) (record {
      row = ((ask.name, ask.attrs, at_open.asks, (by, in_time_is before, all_reserved none, refl)), refl);
      holds = finished_keeps;
      nearer = λ none. absurd (cc none);
    })
    | inr memory ↦ absurd (cc (memory.0))
  ]

  -- ---- reserved

  module _ (r : ℕ) (target : (slice_index (targets_of ask m.cluster) r == 0) ≡ false) (lacked : lacks (slice_index m.cluster.up r) (slice_index making.reserved r) ≡ true) (was_given : making.refused ≡ false) (before : IsBefore m.cluster.moment deadline) where
    -- what it keeps with another making
    abbrev with_making : Making → OpenState
    with_making w = record { call = call; ask = ask; deadline = deadline; making = Some w }

    -- the reservation as the call keeps it
    abbrev reserve_done : StepDone
    reserve_done = done_of m.cluster verbs.Reserve (Some k) (Some r) words.Ok

    -- the making with this node reserved
    abbrev reserved : Making
    reserved = record { ckpt = making.ckpt; reserved = slice_set making.reserved r (slice_index m.cluster.up r); refused = making.refused }

    -- its refusal as the call keeps it
    abbrev memory_done : StepDone
    memory_done = done_of m.cluster verbs.Reserve (Some k) (Some r) words.Memory

    -- the making that was refused memory
    abbrev refused : Making
    refused = record { ckpt = making.ckpt; reserved = making.reserved; refused = true }

    -- it keeps one incarnation for each node
    same_length : length making.reserved ≡ length m.cluster.up
    same_length = its.nodes ∙ sym inv.up

    -- the node is up
    up_there : is_up r m.cluster ≡ true
    up_there =
        let there : (slice_index m.cluster.up r == 0) ≡ false = (lacked-has (slice_index m.cluster.up r) (slice_index making.reserved r) lacked).0 in
        let within : r < 8 = subst (λ (n : ℕ). r < n) inv.up (index-within m.cluster.up r there) in
        λ i. lt-ltb r 8 within i && not (there i)

    -- it is to be made there
    is_target : IsTarget m s k r
    is_target = IsSomeAnd-from (entry_of k m.cluster.entries) _ entry.0 entry.1 (ap (λ c. slice_index (targets entry.0.attributes (home_of c m.cluster) m.cluster.up) r == 0) (sym at_open.client) ∙ ap (λ nodes. slice_index nodes r == 0) (sym targets_are) ∙ target)

    -- ---- where the call is then

    module _ (d : StepDone) (copy : Option Snapshot) (w : Making) (g : ℕ → ℕ → Option ℕ) (taken : driver_taken d (drivers.Open at_making) ≡ drivers.Open (with_making w)) (same_ckpt : w.ckpt ≡ making.ckpt) (elsewhere : (j q : ℕ) → (j == making.ckpt) ≡ false → g j q ≡ m.reserved j q) where
      -- the call with one step more, and with this in its hand
      abbrev then_state : CallState
      then_state = record s { steps = d ∷ s.steps; snapshot = copy }

      -- the state with these reservations
      abbrev then_machine : Machine
      then_machine = record m { reserved = g; in_hand = put_who m.in_hand (who s) (Some then_state) }

      -- where the step has led the call
      driver_then : driver_of then_state ≡ drivers.Open (with_making w)
      driver_then = ap (driver_taken d) is ∙ taken

      -- the invariant holds then, where it holds of the making
      goes_on : IsMakingIn then_machine then_state w → InvariantIn shapes then_machine
      goes_on making_then = reserved_keeps m shapes inv s at_making making held is refl g elsewhere then_state refl refl (with_making w) driver_then w refl same_ckpt (let hand = inv.hands (who s) s held in record {
        whose = refl;
        asker = hand.asker;
        number = hand.number;
        built = hand.built;
        driven = hand.driven;
        live = λ others. hand.live (ap is_enter is);
        home = λ others. hand.home (ap is_enter is);
        here = subst (IsInPlace then_machine shapes then_state) (sym driver_then) (record {
          caller = at_open.caller;
          client = at_open.client;
          within = at_open.within;
          node = at_open.node;
          home = at_open.home;
          asks = let open_asks = at_open.asks in record { place = open_asks.place; flags = open_asks.flags; timeout = open_asks.timeout; asks = open_asks.asks };
          named = at_open.named;
          declared = at_open.declared;
          deadline = at_open.deadline;
          making = making_then;
          given = λ some. at_open.given refl;
        });
      })

    -- ---- done

    -- the reservations with this one
    abbrev put_there : ℕ → ℕ → Option ℕ
    put_there = put2 m.reserved k r (Some (slice_index m.cluster.up r))

    -- each node that it has for reserved has
    reserved_then : (q : ℕ) → has (slice_index m.cluster.up q) (slice_index (slice_set making.reserved r (slice_index m.cluster.up r)) q) ≡ true → put_there k q ≡ Some (slice_index m.cluster.up q)
    reserved_then q had =
        subst (λ b. cond (b && (q == r)) (Some (slice_index m.cluster.up r)) (m.reserved k q) ≡ Some (slice_index m.cluster.up q)) (sym (eq-eqb k k refl))
        (elim (q == r) as (λ b. (q == r) ≡ b → cond b (Some (slice_index m.cluster.up r)) (m.reserved k q) ≡ Some (slice_index m.cluster.up q)) [
          | true ↦ λ same. ap (λ (n : ℕ). Some (slice_index m.cluster.up n)) (sym (eqb-true q r same))
          | false ↦ λ other. its.reserved q (ap (has (slice_index m.cluster.up q)) (sym (index-other making.reserved r q (slice_index m.cluster.up r) other)) ∙ had)
        ] refl)

    -- the node is up, so it is kept as one that has reserved
    up_some : (slice_index (slice_set making.reserved r (slice_index m.cluster.up r)) r == 0) ≡ false
    up_some =
        let there : (slice_index m.cluster.up r == 0) ≡ false = (lacked-has (slice_index m.cluster.up r) (slice_index making.reserved r) lacked).0 in
        let below : r < length making.reserved = subst (λ (n : ℕ). r < n) (sym same_length) (index-within m.cluster.up r there) in
        ap (λ (n : ℕ). n == 0) (index-set making.reserved r (slice_index m.cluster.up r) below) ∙ there

    -- no other node has
    only_then : (q : ℕ) → (slice_index (slice_set making.reserved r (slice_index m.cluster.up r)) q == 0) ≡ true → put_there k q ≡ None
    only_then q none =
        subst (λ b. cond (b && (q == r)) (Some (slice_index m.cluster.up r)) (m.reserved k q) ≡ None) (sym (eq-eqb k k refl))
        (elim (q == r) as (λ b. (q == r) ≡ b → cond b (Some (slice_index m.cluster.up r)) (m.reserved k q) ≡ None) [
          | true ↦ λ same. absurd (let w : true ≡ false = sym none ∙ ap (λ (n : ℕ). slice_index (slice_set making.reserved r (slice_index m.cluster.up r)) n == 0) (eqb-true q r same) ∙ up_some in cc w)
          | false ↦ λ other. its.only q (ap (λ (n : ℕ). n == 0) (sym (index-other making.reserved r q (slice_index m.cluster.up r) other)) ∙ none)
        ] refl)

    -- it is to be made on each that has
    targets_now : targets_by (attributes_asked (asked s.op)) (home_of (client_of s.call) m.cluster) m.cluster.up ≡ targets_of ask m.cluster
    targets_now = (λ i. targets_by (ap attributes_asked at_open.asks.asks i) (home_of (sym at_open.client i) m.cluster) m.cluster.up)

    within_then : (q : ℕ) → IsSome (put_there k q) → (slice_index (targets_by (attributes_asked (asked s.op)) (home_of (client_of s.call) m.cluster) m.cluster.up) q == 0) ≡ false
    within_then q some = elim (q == r) as (λ b. (q == r) ≡ b → IsSome (cond b (Some (slice_index m.cluster.up r)) (m.reserved k q)) → (slice_index (targets_by (attributes_asked (asked s.op)) (home_of (client_of s.call) m.cluster) m.cluster.up) q == 0) ≡ false) [
      | true ↦ λ same has. ap (λ nodes. slice_index nodes q == 0) targets_now ∙ ap (λ (n : ℕ). slice_index (targets_of ask m.cluster) n == 0) (eqb-true q r same) ∙ target
      | false ↦ λ other had. its.within q had
    ] refl (subst (λ b. IsSome (cond (b && (q == r)) (Some (slice_index m.cluster.up r)) (m.reserved k q))) (eq-eqb k k refl) some)

    -- it did so in the incarnation that it has
    no_later_then : (q : ℕ) → slice_index (slice_set making.reserved r (slice_index m.cluster.up r)) q ≤ slice_index m.cluster.last_incarnations q
    no_later_then q = elim (q == r) as (λ b. (q == r) ≡ b → slice_index (slice_set making.reserved r (slice_index m.cluster.up r)) q ≤ slice_index m.cluster.last_incarnations q) [
      | true ↦ λ same.
          let up_within : slice_index m.cluster.up r ≤ slice_index m.cluster.last_incarnations r = inv.incarnations.no_later r in
          let there : (slice_index m.cluster.up r == 0) ≡ false = (lacked-has (slice_index m.cluster.up r) (slice_index making.reserved r) lacked).0 in
          let below : r < length making.reserved = subst (λ (n : ℕ). r < n) (sym same_length) (index-within m.cluster.up r there) in
          let own : slice_index (slice_set making.reserved r (slice_index m.cluster.up r)) r ≡ slice_index m.cluster.up r = index-set making.reserved r (slice_index m.cluster.up r) below in
          subst (λ (q : ℕ). slice_index (slice_set making.reserved r (slice_index m.cluster.up r)) q ≤ slice_index m.cluster.last_incarnations q) (sym (eqb-true q r same)) (omega (arith, up_within, own))
      | false ↦ λ other. subst (λ (n : ℕ). n ≤ slice_index m.cluster.last_incarnations q) (sym (index-other making.reserved r q (slice_index m.cluster.up r) other)) (its.no_later q)
    ] refl

    -- the invariant holds after the reservation
    reserved_holds : Invariant (going_on s reserve_done None (with_reservation k r m))
    reserved_holds = record {
      shapes = shapes;
      holds = goes_on reserve_done None reserved put_there refl refl (λ j q other. ap (λ b. cond (b && (q == r)) (Some (slice_index m.cluster.up r)) (m.reserved j q)) other)
          (record { there = its.there; declares = its.declares; nodes = length-slice_set making.reserved r (slice_index m.cluster.up r) ∙ its.nodes; reserved = reserved_then; only = only_then; within = within_then; no_later = no_later_then });
    }

    -- and after its refusal
    refused_holds : Invariant (going_on s memory_done s.snapshot m)
    refused_holds = record {
      shapes = shapes;
      holds = goes_on memory_done s.snapshot refused m.reserved refl refl (λ j q other. refl) (record { there = its.there; declares = its.declares; nodes = its.nodes; reserved = its.reserved; only = its.only; within = its.within; no_later = its.no_later });
    }

    -- ---- nearer to its end

    -- the steps that are left of a making that was not refused
    left_is : (w : Making) → w.refused ≡ false → steps_left m.cluster m.replicas (drivers.Open (with_making w)) ≡ lacking m.cluster.up w.reserved + 1
    left_is w given = ap (λ b. cond b 1 (lacking m.cluster.up w.reserved + 1)) given

    -- a node fewer is lacked
    one_fewer : lacking m.cluster.up (slice_set making.reserved r (slice_index m.cluster.up r)) + 1 ≡ lacking m.cluster.up making.reserved
    one_fewer = lacking-set m.cluster.up making.reserved r same_length lacked

    -- so a reservation brings the call nearer to its end
    reserved_nearer : steps_left m.cluster m.replicas (drivers.Open (with_making reserved)) < steps_left m.cluster m.replicas (drivers.Open at_making)
    reserved_nearer =
        let a : steps_left m.cluster m.replicas (drivers.Open (with_making reserved)) ≡ lacking m.cluster.up (slice_set making.reserved r (slice_index m.cluster.up r)) + 1 = left_is reserved was_given in
        let b : steps_left m.cluster m.replicas (drivers.Open at_making) ≡ lacking m.cluster.up making.reserved + 1 = left_is making was_given in
        let c = one_fewer in
        subst (λ (n : ℕ). n < steps_left m.cluster m.replicas (drivers.Open at_making)) (sym a) (subst (λ (n : ℕ). lacking m.cluster.up (slice_set making.reserved r (slice_index m.cluster.up r)) + 1 < n) (sym b) (omega (arith, c)))

    -- and its refusal does
    refused_nearer : steps_left m.cluster m.replicas (drivers.Open (with_making refused)) < steps_left m.cluster m.replicas (drivers.Open at_making)
    refused_nearer =
        let b : steps_left m.cluster m.replicas (drivers.Open at_making) ≡ lacking m.cluster.up making.reserved + 1 = left_is making was_given in
        let c = one_fewer in
        subst (λ (n : ℕ). 1 < n) (sym b) (omega (arith, c))

    -- it takes no room for a copy with it, so the memory may be wanting where none stands alone
    no_copy : (is_some (m.reserved k r) && not (takes_copy (asked s.op))) ≡ is_some (m.reserved k r)
    no_copy = ap (λ ask. is_some (m.reserved k r) && not (takes_copy ask)) at_open.asks.asks ∙ kept (is_some (m.reserved k r)) where
      kept : (b : Bool) → (b && true) ≡ b
      kept true = refl
      kept false = refl

    -- the reservation is done, or refused memory
    reserve_goes : (t : Told) → IsServed m s r (requests.Reserve k) t → Goes m s (drivers.Open at_making) t
    reserve_goes t served = elim (reserve_answers (m.reserved k r) served.answer (subst (λ b. MayReserve b served.answer) no_copy served.may)) [
      | inl ok ↦ subst (Goes m s (drivers.Open at_making)) (sym (IsServed-told m s r (requests.Reserve k) t (drivers.Open at_making) (replies.Done answers.Nothing) served is ok)) (record {
        row = (inl (ask.name, ask.attrs, at_open.asks, (up_there, by, in_time_is before, is_target, refl)), refl);
        holds = subst (λ kept. Invariant (record (with_reservation k r m) { in_hand = put_who m.in_hand (who s) (Some (record s { steps = reserve_done ∷ s.steps; snapshot = None; kept = kept })) })) (sym (kept_still m s verbs.Reserve (Some k) words.Ok (λ copy. subst IsCopyAsk at_open.asks.asks copy))) reserved_holds;
        nearer = λ none. reserved_nearer;
      })
      | inr memory ↦ subst (Goes m s (drivers.Open at_making)) (sym (IsServed-told m s r (requests.Reserve k) t (drivers.Open at_making) replies.NoMemory served is memory.0)) (record {
        row = (inl (ask.name, ask.attrs, at_open.asks, (up_there, by, in_time_is before, is_target, memory.1, refl)), refl);
        holds = refused_holds;
        nearer = λ none. refused_nearer;
      })
    ]

  -- ---- any making

  -- what is lacked first is reserved next, and where none is lacked it is finished
  reserve_or_finish-goes : (first : Option ℕ) → first_lacking 0 (targets_of ask m.cluster) making.reserved ≡ first → making.refused ≡ false → IsBefore m.cluster.moment deadline → (t : Told) → IsDone m s (reserve_or_finish k first) t → Goes m s (drivers.Open at_making) t
  reserve_or_finish-goes (Some r) lacked was_given before t done =
      let at_r = first_lacking-is 0 (targets_of ask m.cluster) making.reserved r lacked in
      let here : r ≡ 0 + at_r.place = at_r.at in
      let same : at_r.place ≡ r = omega (arith, here) in
      let lacked_there : lacks (slice_index (targets_of ask m.cluster) r) (slice_index making.reserved r) ≡ true = subst (λ (q : ℕ). lacks (slice_index (targets_of ask m.cluster) q) (slice_index making.reserved q) ≡ true) same at_r.lacked in
      let target : (slice_index (targets_of ask m.cluster) r == 0) ≡ false = (lacked-has (slice_index (targets_of ask m.cluster) r) (slice_index making.reserved r) lacked_there).0 in
      reserve_goes r target (ap (λ n. lacks n (slice_index making.reserved r)) (sym (there_up r target)) ∙ lacked_there) was_given before t done
  reserve_or_finish-goes None none was_given before t done = finish_goes t before none done

  -- one that was refused memory is undone
  by_memory : (b : Bool) → making.refused ≡ b → IsBefore m.cluster.moment deadline → (t : Told) → IsDone m s (cond b (Event events.Undo) (reserve_or_finish k (first_lacking 0 (targets_of ask m.cluster) making.reserved))) t → Goes m s (drivers.Open at_making) t
  by_memory true was_refused before t done = undo_goes t before done
  by_memory false was_given before t done = reserve_or_finish-goes (first_lacking 0 (targets_of ask m.cluster) making.reserved) refl was_given before t done

  -- the next step of a making
  pub making_goes : (t : Told) → IsDone m s (in_time deadline m.cluster.moment (on_making m.cluster ask making)) t → Goes m s (drivers.Open at_making) t
  making_goes t done = in_time-cases (λ next. IsDone m s next t → Goes m s (drivers.Open at_making) t) deadline m.cluster.moment (on_making m.cluster ask making)
      (λ d at_d late. late_goes t d at_d late) (λ before. by_memory making.refused refl before t) done
