-- A step of a call that a node serves, for a request that goes to a replica.
use Rattle.std.proofs.Common.{◌≡◌, ◌⊎◌, inl, inr, ℕ, ℤ, true, List, refl, sym, ap, subst, ◌∙◌, cond}
use Rattle.std.specs.Prelude.{Option, Some, None, ◌==◌, ◌&&◌, IsSomeAnd, slice_index}
use Rattle.ckpt_types.specs.declared.answers.Outcome.{Outcome}
use Rattle.ckpt_types.specs.declared.identities.ActorName.TheVariants.{Client}
use Rattle.ckpt_types.specs.declared.identities.CallId.{CallId}
use Rattle.ckpt_types.specs.Asks.{Ask, asked}
use Rattle.ckpt_types.specs.Asks as asks
use Rattle.node_msgs.specs.declared.requests.Request.{Request}
use Rattle.node_msgs.specs.declared.requests.Request.TheVariants.{Stage}
use Rattle.node_msgs.specs.declared.requests.Request.TheVariants as requests
use Rattle.node_msgs.specs.declared.steps.StepReply.{StepReply}
use Rattle.node_msgs.specs.declared.replies.Reply.{Reply}
use Rattle.node_msgs.specs.declared.next.Next.TheVariants.{Serve}
use Rattle.node_msgs.specs.declared.details.Details.{Details}
use Rattle.run_labels.specs.declared.labels.Label.{Label}
use Rattle.run_labels.specs.declared.labels.Label.TheVariants.{Stepped}
use Rattle.ckpt_types.specs.OpWord.{word_of_op}
use Rattle.section_iter.specs.KeptIds.{KeptIds}
use Rattle.client_calls.specs.declared.in_hand.InHand.{InHand}
use Rattle.replica.specs.Replicas.{Replica}
use Rattle.world_core.specs.declared.world.World.{World}
use Rattle.cluster_record.specs.Places.{put2}
use Rattle.cluster_record.specs.RecordState.{entry_of, complete_of}
use Rattle.cluster_record.specs.StepDone.{StepDone, counting, count_told, done_of}
use Rattle.snap_copy.specs.Snapshots as copies
use Rattle.node_msgs.specs.Requests.{ckpt_of}
use Rattle.node_msgs.specs.Steps.{verb_of, word_of}
use Rattle.node_core.specs.Nodes.{MayReply, replica_served}
use Rattle.node_core.specs.Payloads.{Payload}
use Rattle.node_core.specs.Seen.{RecordSeen, record_seen, is_complete}
use Rattle.node_core.specs.Serving.{reply_at, reply_of, details_at, iteration_behind, snapshot_behind, replica_after}
use Rattle.node_core.specs.Fitting.{IsReadyFor}
use Rattle.ckpt_machine.specs.Nodes.{node_at, nodes_after, replica_in}
use Rattle.ckpt_machine.specs.Holding.{HoldsOnlyWhatStands}
use Rattle.client_calls.specs.Lending.{IsValidFor, iteration_lent}
use Rattle.world_core.specs.TablesLending.{tables_lending, tables_keeping}
use Rattle.cluster_record.specs.Ends.{served_done}
use Rattle.client_calls.specs.HandSteps.{end_by}
use Rattle.world_core.specs.Happenings.{rooms_at}
use Rattle.world_core.specs.TablesState.{kept_by}
use Rattle.ckpt_machine.specs.Driving.{Kept, driver_next, driver_taken, driver_end}
use Rattle.ckpt_machine.specs.Machine.{Machine, Effect, ReplicaState, CallState}
use Rattle.ckpt_machine.specs.After.{changed, created_by, pulled_by, staged_moment}
use Rattle.ckpt_machine.specs.After as after
use Rattle.ckpt_machine.proofs.Askers.{IsCopyAsk, copy_ask}
use Rattle.ckpt_machine.specs.Due.{due, driver_of, ended_details, ids_asked, payload_due, counted_at}
use Rattle.ckpt_machine.specs.Tables.{ids_of, kept_asked}
use Rattle.ckpt_machine.specs.Facts.{HasNoSlot, IsServable}
use Rattle.world_core.specs.Shows.{Does, HistoryFits, History, KeepsMade, machine_of, tables_of}
use Rattle.ckpt_machine.specs.Shown.{shown_replica, shown_slot, complete_replica, FitsReplica, IsRoomToCopy}
use Rattle.ckpt_machine.proofs.Calls.{IsOwn, own_request}
use Rattle.world_core.proofs.Carrying.{payload_with}
use Rattle.ckpt_machine.proofs.Carried.{GoesToReplica, Carries, reply_carried, details_carried, replica_carried, carried_on}
use Rattle.world_core.proofs.Finding.{There}
use Rattle.world_core.proofs.Finding as finding
use Rattle.world_core.proofs.Held.{state_in, in_hand_is, client_asks, driver_is, IsCopyBehind, copy_stays}
use Rattle.ckpt_machine.proofs.CopySteps.{counts_effects, counts_seen, counts_told, pulled_after, room_alike, copy_behind}
use Rattle.world_core.proofs.IterationSteps.{tables_move, rooms_moved}
use Rattle.world_core.proofs.LiveRooms.{rooms_ended}
use Rattle.ckpt_machine.proofs.HoldingLaws.{holds_served}
use Rattle.ckpt_machine.proofs.NodeMaps.{complete_at_node, put_replica, fits_replica, reserved_same}
use Rattle.ckpt_machine.proofs.RequestRows.{effects_in, effects_after, effects_carried, origin_after, row_moves, row_fits, tables_moved}
use Rattle.client_calls.specs.MadeIds.{made_behind}
use Rattle.world_core.proofs.MadeIds.{made_served}
use Rattle.world_core.proofs.Told.{told_world}
use Rattle.world_core.proofs.CallSteps.{IsKnown, known_by, IsShownBehind, step_before}
use Rattle.world_core.specs.HandsState.{hand_at}
use Rattle.client_calls.specs.Names.{client_by}
use Rattle.ckpt_types.specs.declared.identities.Who.{Who}
use Rattle.world_core.proofs.Freeing.{does_before}
use Rattle.ckpt_machine.proofs.ServedNodes.{may_answer, node_within, replied, served_there}

-- ---- who asks

-- a copying is asked for, or something else
copies_or : (ask : Ask) → IsCopyAsk ask ⊎ (IsCopyAsk ask → ⊥)
copies_or asks.Copy = inl tt
copies_or ask = inr (λ copies. copies)

-- a call keeps the same of its checkpoint behind what goes to a replica
kept_served : (m : Machine) (s : CallState) (request : Request) (reply : StepReply) → GoesToReplica request → after.kept_by m s (verb_of request) (Some (ckpt_of request)) reply ≡ s.kept
kept_served m s (requests.Reserve k) reply goes = absurd goes
kept_served m s request reply goes = refl

-- ---- the step

-- the parts of a step that a node serves, by its reply
module _ (w : World) (v : Who) (r : ℕ) (request : Request) (hand : InHand) (p : Payload) (reply : Reply) where
  abbrev pub sight : RecordSeen
  sight = record_seen w.cluster (ckpt_of request) r

  abbrev pub replica_there : Option Replica
  replica_there = replica_served (record_seen w.cluster (ckpt_of request) r) (node_at w.nodes r) (ckpt_of request)

  abbrev pub its_done : StepDone
  its_done = served_done w.cluster request r reply

  abbrev pub its_end : Option Outcome
  its_end = end_by w.cluster its_done reply hand

  abbrev pub its_details : Details
  its_details = details_at request p sight replica_there

  abbrev pub its_iteration : Option KeptIds
  its_iteration = iteration_behind request sight replica_there (iteration_lent request hand (kept_by w.tables (client_by v)))

  -- the room that the call has for a snapshot, with what it has pulled then
  abbrev pub its_copy : Option copies.Snapshot
  its_copy = snapshot_behind request replica_there hand.snapshot

  -- and what it keeps of what it has made
  abbrev pub its_made : Option (List (List ℕ))
  its_made = made_behind hand.op request reply its_details hand.made

  -- the world in which the node has served it, the call being in hand still
  abbrev pub behind : World
  behind = record w { nodes = nodes_after w.cluster w.nodes r request p reply; tables = tables_keeping request (client_by v) hand.op reply its_iteration (tables_lending request (client_by v) hand.op w.tables) }

  abbrev pub served_world : World
  served_world = told_world behind v hand its_copy its_made its_done its_end

  abbrev pub served_label : Label
  served_label = Stepped hand.call (word_of_op hand.op) (verb_of request) (Some (ckpt_of request)) (Some r) (word_of reply) its_end (ended_details its_end its_details)

module _ (w : World) (v : Who) (r : ℕ) (request : Request) (hand : InHand) (p : Payload) (reply : Reply) (goes : GoesToReplica request) (held : hand_at w.hands v ≡ Some hand) (next : driver_next w.cluster (rooms_at w (client_by v)) hand.driver ≡ Serve r request)
    (carries : Carries request p (payload_with hand (kept_by w.tables (client_by v)))) (may : MayReply (record_seen w.cluster (ckpt_of request) r) (node_at w.nodes r) request p reply) (valid : IsValidFor request (kept_by w.tables (client_by v))) where
  abbrev k : ℕ
  k = ckpt_of request

  abbrev y : Option Replica
  y = replica_in w.nodes k r

  abbrev new : World
  new = behind w v r request hand p reply

  abbrev end : Option Outcome
  end = its_end w v r request hand p reply

  abbrev seen : RecordSeen
  seen = record_seen w.cluster k r

  -- the effects of what the call has pulled
  abbrev had : History → List Effect
  had h = effects_in (state_in h v hand).snapshot

  -- its history, where the node has this replica
  abbrev later : Option Replica → History → History
  later y h = record h { effects = put2 h.effects k r (effects_after hand.call request p seen y (h.origins k r) (had h) (h.effects k r)); origins = put2 h.origins k r (origin_after request y (h.origins k r)) }

  -- and the effects that the call has pulled then
  abbrev then_pulled : History → Option (List Effect)
  then_pulled h = pulled_after request y (h.effects k r) (h.pulled v)

  module _ (h : History) (known : IsKnown w h) where
    abbrev m : Machine
    m = machine_of w h

    abbrev s : CallState
    s = state_in h v hand

    abbrev E : List Effect
    E = h.effects k r

    abbrev o : CallId
    o = h.origins k r

    abbrev q : Payload
    q = payload_due m s

    -- it is of the client of its name, where it asks for no copying
    actor : (IsCopyAsk (asked hand.op) → ⊥) → hand.call.actor ≡ Client (client_by v)
    actor = client_asks w h v hand held known.facts

    -- what it keeps of an iteration is kept of that client
    kept_own : kept_asked (asked hand.op) (tables_of w.tables hand.call.actor) ≡ kept_asked (asked hand.op) (kept_by w.tables (client_by v))
    kept_own = either (copies_or (asked hand.op)) where
      either : IsCopyAsk (asked hand.op) ⊎ (IsCopyAsk (asked hand.op) → ⊥) → kept_asked (asked hand.op) (tables_of w.tables hand.call.actor) ≡ kept_asked (asked hand.op) (kept_by w.tables (client_by v))
      either (inl copies) = let is = copy_ask (asked hand.op) copies in ap (λ a. kept_asked a (tables_of w.tables hand.call.actor)) is ∙ sym (ap (λ a. kept_asked a (kept_by w.tables (client_by v))) is)
      either (inr other) = ap (λ b. kept_asked (asked hand.op) (tables_of w.tables b)) (actor other)

    due_here : due m s ≡ Serve r request
    due_here = finding.due_here w h v r request hand known.facts known.fits held next

    abbrev found : There k (slice_index (complete_of (entry_of k w.cluster.entries)) r) (entry_of k w.cluster.entries) E o y (IsReadyFor request)
    found = finding.found w h v r request hand known.facts known.fits held next goes

    seen_complete : is_complete seen ≡ true
    seen_complete = finding.seen_complete w h v r request hand known.facts known.fits held next goes

    served_is : replica_there w v r request hand p reply ≡ Some found.replica
    served_is = finding.served_is w h v r request hand known.facts known.fits held next goes

    shown : m.replicas k r ≡ shown_replica E o (Some found.replica)
    shown = finding.shown w h v r request hand known.facts known.fits held next goes

    abbrev x : Replica
    x = found.replica

    -- what travels beside the request is what the machine's call has
    carried : Carries request p q
    carried =
        carried_on request p (payload_with hand (kept_by w.tables (client_by v))) q carries refl refl (sym (ap ids_of kept_own))
        (finding.copy_carried w h v r hand known.facts known.fits held request due_here)

    reply_is : reply ≡ reply_of request q seen x
    reply_is = replied w.cluster (node_at w.nodes r) request p reply goes may ∙ ap (reply_at request p seen) served_is ∙ reply_carried request p q seen (Some x) carried

    own : IsOwn s.call request
    own = own_request w.cluster _ s r request (known.facts.driven v s (in_hand_is w h v hand held)) due_here

    moment : (call : CallId) (j : ℕ) (t : ℤ) → request ≡ Stage call j t → x.slot ≡ None → staged_moment m j ≡ t
    moment call j t is free =
        known.facts.moments v s r call j t (in_hand_is w h v hand held) (due_here ∙ ap (Serve r) is)
        (subst (λ (q : Request). IsSomeAnd (m.replicas (ckpt_of q) r) HasNoSlot) is (subst (λ (y : Option ReplicaState). IsSomeAnd y HasNoSlot) (sym shown) (ap (shown_slot o) free)))

    abbrev x' : Replica
    x' = replica_after request p seen x

    at_each : (j i : ℕ) → replica_in new.nodes j i ≡ cond ((j == k) && (i == r)) (Some x') (replica_in w.nodes j i)
    at_each = served_there w.cluster w.nodes r request p reply x goes seen_complete found.is

    complete_each : (j i : ℕ) → complete_replica w.cluster new.nodes j i ≡ cond ((j == k) && (i == r)) (Some x') (complete_replica w.cluster w.nodes j i)
    complete_each = complete_at_node w.cluster w.nodes new.nodes k r x' at_each found.complete

    -- the machine's replicas with the one that is served, this being what it becomes
    abbrev with : List Effect → Replica → Machine
    with E' x' = record m { replicas = put2 m.replicas k r (shown_replica E' (origin_after request (Some x) o) (Some x')) }

    abbrev E' : List Effect
    E' = effects_after hand.call request p seen (Some x) o (had h) E

    abbrev served_nodes : World
    served_nodes = record w { nodes = new.nodes }

    with_is : with E' x' ≡ machine_of served_nodes (later (Some x) h)
    with_is =
        let replicas = put_replica h.effects h.origins (complete_replica w.cluster w.nodes) (complete_replica w.cluster new.nodes) k r E' (origin_after request (Some x) o) x' complete_each in
        let reserved = reserved_same w.cluster w.nodes new.nodes k r x' x found.is at_each in
        λ i. record (machine_of served_nodes (later (Some x) h)) { replicas = replicas i; reserved = λ j q. reserved j q i }

    change : changed m s (verb_of request) (Some k) (Some r) (word_of reply) ≡ machine_of new (later y h)
    change =
        ap (λ a. changed m s (verb_of request) (Some k) (Some r) (word_of a)) reply_is
        ∙ row_moves m s r E o x found.entry request goes found.at found.attributes shown found.seen found.holds own moment
        ∙ sym (λ i. tables_moved request s (ids_asked m s) w.cluster.moment x.sections (with (effects_carried hand.call request p q seen x o (had h) E carried i) (replica_carried request p q seen x carried i)))
        ∙ ap (tables_moved request s (ids_asked m s) w.cluster.moment x.sections) with_is
        ∙ tables_move served_nodes (later (Some x) h) m s (client_by v) hand actor refl (ids_asked m s) seen x request q reply (finding.tables_ready w h v r hand known.facts known.fits held request due_here) valid
        (ap ids_of kept_own) reply_is
        ∙ ap (λ it. machine_of (record new { tables = tables_keeping request (client_by v) hand.op reply (iteration_behind request seen it (iteration_lent request hand (kept_by w.tables (client_by v)))) (tables_lending request (client_by v) hand.op w.tables) }) (later (Some x) h)) (sym served_is)
        ∙ ap (λ (y : Option Replica). machine_of new (later y h)) (sym found.is)

    -- the replica that is served counts its effects
    row_there : FitsReplica k (entry_of k w.cluster.entries) E' (Some x')
    row_there =
        subst (λ (z : List Effect × Replica). FitsReplica k (entry_of k w.cluster.entries) z.0 (Some z.1)) (λ i. (sym (effects_carried hand.call request p q seen x o (had h) E carried) i, sym (replica_carried request p q seen x carried) i))
        (row_fits k (entry_of k w.cluster.entries) (had h) E o x hand.call request q seen goes found.holds (counts_seen s.kept.declares s.snapshot) found.fits)

    fits_behind : HistoryFits new (later y h)
    fits_behind = subst (λ (y : Option Replica). HistoryFits new (later y h)) (sym found.is) (record {
      replicas = fits_replica w.cluster h.effects (complete_replica w.cluster w.nodes) (complete_replica w.cluster new.nodes) k r E' x' complete_each row_there known.fits.replicas;
      copies = known.fits.copies;
      hands = known.fits.hands;
    })

    -- the count that it is told is that of the replica
    count_here : counted_at m (verb_of request) (Some k) (Some r) (word_of reply) ≡ count_told reply
    count_here = subst (λ a. counted_at m (verb_of request) (Some k) (Some r) (word_of a) ≡ count_told a) (sym reply_is) (counts_told m r E o x request q seen goes shown (counts_effects k E x (entry_of k w.cluster.entries) found.fits) found.fits.3)

    -- so it ends as the machine's call does
    its_end_is : end ≡ (let done = counting (counted_at m (verb_of request) (Some k) (Some r) (word_of reply)) (done_of w.cluster (verb_of request) (Some k) (Some r) (word_of reply)) in driver_end w.cluster hand.op done reply (driver_taken done (driver_of s)))
    its_end_is = λ i. let done = counting (sym count_here i) (done_of w.cluster (verb_of request) (Some k) (Some r) (word_of reply)) in driver_end w.cluster hand.op done reply (driver_taken done (driver_is w h v hand held known.fits i))

    -- and what is in its hand then
    copy_here : IsCopyBehind (after.kept_by m s (verb_of request) (Some k) (word_of reply)) hand (pulled_by m s (verb_of request) (Some k) (Some r) (word_of reply)) (then_pulled h) (its_copy w v r request hand p reply)
    copy_here =
        let found_copy = copy_behind m s r E o x request q seen hand.snapshot (h.pulled v) refl shown (finding.copy_there w h v r hand known.facts known.fits held request due_here) (counts_effects k E x (entry_of k w.cluster.entries) found.fits)
        (λ a. IsRoomToCopy (asked hand.op) s.kept.declares a) (λ s1 t attributes. room_alike (asked hand.op) s.kept.declares s1 t attributes) (copy_stays w h v hand held known.fits).room (copy_stays w h v hand held known.fits).counts in
        let same = ap (λ a. pulled_by m s (verb_of request) (Some k) (Some r) (word_of a)) reply_is ∙ found_copy.same in
        subst (λ (z : Option Replica × Option Replica × Kept). IsCopyBehind z.2 hand (pulled_by m s (verb_of request) (Some k) (Some r) (word_of reply)) (pulled_after request z.0 E (h.pulled v)) (snapshot_behind request z.1 hand.snapshot))
        (λ i. (sym found.is i, sym served_is i, sym (kept_served m s request (word_of reply) goes) i)) (record { same = same; room = found_copy.room; counts = found_copy.counts })

    -- what comes beside the answer
    details_are : its_details w v r request hand p reply ≡ details_at request q seen (Some x)
    details_are = details_carried request p q seen (replica_there w v r request hand p reply) carried ∙ ap (details_at request q seen) served_is

    -- and what it keeps of what it has made
    made_here : (d : StepDone) → d.verb ≡ verb_of request → KeepsMade hand.op (driver_taken d hand.driver) (created_by m s (verb_of request) (Some k) (Some r)) (its_made w v r request hand p reply)
    made_here d verb = made_served w h v hand held known.fits r E o x request q seen reply (its_details w v r request hand p reply) d verb reply_is details_are shown (λ call j is. known.facts.commits v s r call j (in_hand_is w h v hand held) (due_here ∙ ap (Serve r) is))

    is_served : IsShownBehind w v hand held new (later y) (verb_of request) (Some k) (Some r) (word_of reply) end (ended_details end (its_details w v r request hand p reply)) (count_told reply) (its_copy w v r request hand p reply) (its_made w v r request hand p reply) then_pulled (Serve r request) h
    is_served = record {
      done = record {
        answer = reply;
        may = may_answer m s r request reply goes (reply_is ∙ ap (reply_at request q seen) (sym found.seen));
        verb = refl;
        ckpt = refl;
        node = refl;
        reply = refl;
        details = ap (ended_details end) (details_are ∙ ap (details_at request q seen) (sym found.seen));
        end = its_end_is;
      };
      change = change;
      fits = fits_behind;
      count_is = count_here;
      copy_is = copy_here;
      made_is = made_here (counting (count_told reply) (done_of new.cluster (verb_of request) (Some k) (Some r) (word_of reply))) refl;
    }

    holds_behind : HoldsOnlyWhatStands w.cluster new.nodes
    holds_behind =
        holds_served w.cluster w.nodes r request p reply known.holds (node_within w.nodes k r x found.is) (λ j e. subst (IsServable m r) e (finding.ready w h v r request hand known.facts known.fits held next).1)

  -- the node serves the request
  pub serve_does : Does w (served_world w v r request hand p reply) (served_label w v r request hand p reply)
  serve_does = does_before w (served_world w v r request hand p reply) (served_label w v r request hand p reply)
      (step_before w v hand held new (later y) (verb_of request) (Some k) (Some r) (word_of reply) end (ended_details end (its_details w v r request hand p reply)) (count_told reply) (its_copy w v r request hand p reply) (its_made w v r request hand p reply) then_pulled (Serve r request) next held (λ h. refl) is_served)
      (λ m s f. holds_behind s.history (known_by w m s f))
      (λ m s f. s.keeps)
      (λ m s f. rooms_ended new w.cluster v end (rooms_moved w w.cluster (client_by v) hand.op request reply (its_iteration w v r request hand p reply) s.rooms))
