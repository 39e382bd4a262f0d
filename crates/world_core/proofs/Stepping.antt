-- The steps of a call in hand, with the call that the code finds there.
use Rattle.std.proofs.Common.{◌≡◌, ℕ, ◌-◌, ◌^◌, ◌<◌, Bool, length, refl, sym, ap, subst, cond, ◌∙◌}
use Rattle.std.specs.Prelude.{Option, Some, None, IsSome, IsSomeAnd, slice_set}
use Rattle.ckpt_types.specs.declared.answers.Answer.{Answer}
use Rattle.ckpt_types.specs.declared.answers.Answer.TheVariants as answers
use Rattle.ckpt_types.specs.declared.operation.Op.{Op}
use Rattle.node_msgs.specs.declared.requests.Request.{Request}
use Rattle.node_msgs.specs.declared.requests.Request.TheVariants.{Reserve}
use Rattle.node_msgs.specs.declared.requests.Request.TheVariants as requests
use Rattle.node_msgs.specs.declared.replies.Reply.{Reply}
use Rattle.node_msgs.specs.declared.replies.Reply.TheVariants as replies
use Rattle.node_msgs.specs.declared.next.Next.TheVariants.{Serve}
use Rattle.node_msgs.specs.declared.steps.Verb.TheVariants as verbs
use Rattle.cluster_record.specs.DueActive.{active_end}
use Rattle.ckpt_types.specs.OpWord.{word_of_op}
use Rattle.client_handles.specs.ClientState.{ClientState}
use Rattle.client_calls.specs.declared.in_hand.InHand.{InHand}
use Rattle.replica.specs.Replicas.{Replica}
use Rattle.world_core.specs.declared.world.World.{World}
use Rattle.cluster_record.specs.declared.entries.Entry.{Entry}
use Rattle.cluster_record.specs.Places.{change_key, find_key}
use Rattle.cluster_record.specs.RecordState.{RecordState, entry_of}
use Rattle.cluster_record.specs.StepDone.{StepDone}
use Rattle.node_msgs.specs.Requests.{ckpt_of}
use Rattle.node_msgs.specs.Steps.{verb_of, word_of}
use Rattle.node_core.specs.declared.lent.Lent.{Lent}
use Rattle.node_core.specs.Fitting.{HasCountLeft, IsReadyFor, MayBeMade}
use Rattle.ckpt_machine.specs.Asking.{ReplicaMayBeAsked, MayCome}
use Rattle.node_core.specs.Nodes.{NodeState, MayReply, replica_key, replica_served, seen_from}
use Rattle.node_core.specs.Payloads.{Payload}
use Rattle.node_core.specs.Seen.{entry_seen, record_seen, is_complete}
use Rattle.node_core.specs.Serving.{reply_at, replica_after}
use Rattle.ckpt_machine.specs.Drivers.{Driver}
use Rattle.ckpt_machine.specs.Drivers as drivers
use Rattle.ckpt_machine.specs.Driving.{driver_next, driver_taken, driver_end}
use Rattle.ckpt_machine.specs.Facts.{Facts, IsActive, IsReservable, IsServable, IsToCommit}
use Rattle.ckpt_machine.specs.Machine.{Machine, CallState, ReplicaState}
use Rattle.ckpt_machine.specs.Shown.{shown_slot}
use Rattle.ckpt_types.specs.declared.identities.CallId.{CallId}
use Rattle.ckpt_machine.specs.Due.{due, driver_of, ended_details}
use Rattle.ckpt_machine.specs.Nodes.{node_at, nodes_after, replica_in, with_changed}
use Rattle.client_calls.specs.Lending.{IsLentBy, IsValidFor, CanLend, CanKeep}
use Rattle.world_core.specs.TablesLending.{tables_lending}
use Rattle.cluster_record.specs.Ends.{served_done}
use Rattle.client_calls.specs.HandSteps.{hand_taken}
use Rattle.world_core.specs.TablesState.{kept_by}
use Rattle.world_core.specs.CommitLending.{IsLentAt}
use Rattle.world_core.specs.Shows.{Does, IsShown, HasNumbersLeft, History, HistoryFits, machine_of}
use Rattle.world_core.specs.Happenings.{rooms_at, IsNext, IsStep}
use Rattle.world_core.proofs.CallSteps.{IsKnown, known, step_under}
use Rattle.world_core.proofs.Carrying.{IsOfCall, lent_on, lent_with, payload_with, has_lent}
use Rattle.ckpt_types.specs.Asks.{asked}
use Rattle.ckpt_machine.proofs.Askers.{IsCopyAsk}
use Rattle.ckpt_machine.proofs.Carried.{GoesToReplica, Carries, reserves_none}
use Rattle.world_core.proofs.Finding.{IsReservationOr}
use Rattle.world_core.proofs.Finding as finding
use Rattle.world_core.proofs.Held.{state_in, in_hand_is, driver_is, next_for, with_made}
use Rattle.ckpt_machine.proofs.HoldingLaws.{replicas_served}
use Rattle.world_core.proofs.IterationSteps.{TablesReady, HasIterationRoom, EndsIts, can_lend, can_keep}
use Rattle.world_core.proofs.Maps.{hand_left}
use Rattle.ckpt_machine.proofs.OpenRoom.{iterate_room}
use Rattle.world_core.proofs.Reserve.{reserve_does}
use Rattle.world_core.specs.HandsState.{hand_at}
use Rattle.client_calls.specs.Names.{client_by}
use Rattle.ckpt_types.specs.declared.identities.Who.{Who}
use Rattle.world_core.proofs.Serve.{its_copy, its_done, its_end, its_details, served_world, served_label, serve_does, its_made}

-- ---- a step that a node serves

-- a reservation is of a checkpoint whose attributes passed their check
well_formed_there : (R : RecordState) (r q : ℕ) (o : Option Entry) → IsSomeAnd o (IsReservable R r) → MayBeMade (entry_seen q o)
well_formed_there R r q None can = absurd can
well_formed_there R r q (Some e) can = can.well_formed

fits_by : (request : Request) (m : Machine) (r : ℕ) (n : NodeState) (lent : Lent) → IsReservationOr request → IsServable m r request →
    (GoesToReplica request → ReplicaMayBeAsked (is_complete (seen_from m.cluster n (ckpt_of request))) request lent (find_key replica_key (ckpt_of request) n.replicas)) → MayCome m.cluster n request lent
fits_by (Reserve k) m r n lent goes servable fits = well_formed_there m.cluster r n.number (entry_of k m.cluster.entries) servable
fits_by request m r n lent goes servable fits = fits goes

count_left : (request : Request) (x : Replica) → x.count < 2 ^ 64 - 1 → HasCountLeft request x
count_left (requests.Stage call k t) x room = room
count_left (requests.Apply call k) x room = room
count_left (requests.Mark call k) x room = room
count_left request x room = tt

has_own_place : (request : Request) (w : World) (v : Who) (r : ℕ) (x : Driver) → driver_next w.cluster (rooms_at w (client_by v)) x ≡ Serve r request → HasIterationRoom request (kept_by w.tables (client_by v))
has_own_place (requests.Iterate call k choice) w v r x next = iterate_room w.cluster (rooms_at w (client_by v)) x r call k choice next
has_own_place request w v r x next = tt

-- a call to the active ends where its iteration has started
active_ends : (R : RecordState) (op : Op) (d : StepDone) (answer : Answer) (x : Driver) → d.verb ≡ verbs.Iter → IsActive x → IsSome (driver_end R op d (replies.Done answer) (driver_taken d x))
active_ends R op d answer (drivers.Active a) iterates is = subst (λ verb. IsSome (active_end answer verb)) (sym iterates) refl
active_ends R op d answer x iterates is = absurd is

-- so one that starts an iteration has ended
ends_by : (request : Request) (w : World) (h : History) (v : Who) (r : ℕ) (hand : InHand) (p : Payload) (reply : Reply) (known_is : IsKnown w h) (held : hand_at w.hands v ≡ Some hand) → driver_next w.cluster (rooms_at w (client_by v)) hand.driver ≡ Serve r request → MayReply (record_seen w.cluster (ckpt_of request) r) (node_at w.nodes r) request p reply → EndsIts request (its_end w v r request hand p reply)
ends_by (requests.Iterate call k choice) w h v r hand p reply known_is held next may =
    let request = requests.Iterate call k choice in
    let served = finding.served_is w h v r request hand known_is.facts known_is.fits held next tt in
    let due_here = finding.due_here w h v r request hand known_is.facts known_is.fits held next in
    let starting = known_is.facts.starts v (state_in h v hand) r call k choice (in_hand_is w h v hand held) due_here in
    let done : reply ≡ replies.Done answers.Nothing = may ∙ ap (reply_at request p (record_seen w.cluster k r)) served in
    subst (λ (z : Reply × Driver). IsSome (driver_end w.cluster hand.op (served_done w.cluster request r z.0) z.0 (driver_taken (served_done w.cluster request r z.0) z.1)))
    (λ i. (sym done i, sym (driver_is w h v hand held known_is.fits) i)) (active_ends w.cluster hand.op (served_done w.cluster request r (replies.Done answers.Nothing)) answers.Nothing (driver_of (state_in h v hand)) refl starting.active)
ends_by request w h v r hand p reply known_is held next may = tt

-- a copying reserves in a step of its own, so no such reservation comes here
abbrev pub ReservesNoCopy : Request → InHand → Type 0
ReservesNoCopy (Reserve k) hand = IsCopyAsk (asked hand.op) → ⊥
ReservesNoCopy request hand = Unit {0}

pub no_copying : (request : Request) (hand : InHand) → (IsCopyAsk (asked hand.op) → ⊥) → ReservesNoCopy request hand
no_copying (Reserve k) hand other = other
no_copying request hand other = tt

-- a node does what is due
does_by : (request : Request) (w : World) (v : Who) (r : ℕ) (hand : InHand) (p : Payload) (reply : Reply) → ReservesNoCopy request hand → IsReservationOr request → hand_at w.hands v ≡ Some hand → driver_next w.cluster (rooms_at w (client_by v)) hand.driver ≡ Serve r request → Carries request p (payload_with hand (kept_by w.tables (client_by v))) →
    MayReply (record_seen w.cluster (ckpt_of request) r) (node_at w.nodes r) request p reply → IsValidFor request (kept_by w.tables (client_by v)) → r < length w.nodes → Does w (served_world w v r request hand p reply) (served_label w v r request hand p reply)
does_by (Reserve k) w v r hand p reply other goes held next carries may valid within = reserve_does w v r k hand p reply held next may within other
does_by request w v r hand p reply other goes held next carries may valid within = serve_does w v r request hand p reply goes held next carries may valid

module _ (w : World) (v : Who) (r : ℕ) (request : Request) (hand : InHand) (held : hand_at w.hands v ≡ Some hand) (next : IsNext w v (Serve r request)) where
  abbrev kept : ClientState
  kept = kept_by w.tables (client_by v)

  abbrev its_next : driver_next w.cluster (rooms_at w (client_by v)) hand.driver ≡ Serve r request
  its_next = next_for w v (Serve r request) hand held next

  -- what is lent, with the call's own
  abbrev pub with_own : Lent → Lent
  with_own lent = lent_with request hand kept lent

  module _ (shown : IsShown w) where
    abbrev h : History
    h = shown.shows.history

    abbrev m : Machine
    m = machine_of w h

    abbrev s : CallState
    s = state_in h v hand

    abbrev facts : Facts m
    facts = (known w shown).facts

    abbrev fitting : HistoryFits w h
    fitting = (known w shown).fits

    due_here : due m s ≡ Serve r request
    due_here = finding.due_here w h v r request hand facts fitting held its_next

    goes : IsReservationOr request
    goes = finding.built w h v r request hand facts fitting held its_next

    ready : TablesReady request m s hand kept
    ready = finding.tables_ready w h v r hand facts fitting held request due_here

    -- what the step asks: its node is one of eight
    pub node_there : r < 8
    node_there = (finding.ready w h v r request hand facts fitting held its_next).0

    -- its iteration may go out
    pub lends : CanLend request hand.op kept
    lends = can_lend request m s hand kept ready

    -- and come back
    pub keeps : HasNumbersLeft w → CanKeep request hand.op (kept_by (tables_lending request (client_by v) hand.op w.tables) (client_by v))
    keeps room = can_keep request m s (client_by v) hand w.tables ready (facts.built v s (in_hand_is w h v hand held)) (has_own_place request w v r hand.driver its_next) (room.iterations (client_by v))

    -- THE STEP
    told_so : (p : Payload) (reply : Reply) → Does w (served_world w v r request hand p reply) (served_label w v r request hand p reply) → IsStep v w (served_world w v r request hand p reply) (served_label w v r request hand p reply)
    told_so p reply does =
        step_under v w (served_world w v r request hand p reply) hand (hand_taken (its_done w v r request hand p reply) (with_made hand (its_copy w v r request hand p reply) (its_made w v r request hand p reply))) (word_of_op hand.op) (verb_of request) (Some (ckpt_of request)) (Some r) (word_of reply) (its_end w v r request hand p reply) (ended_details (its_end w v r request hand p reply) (its_details w v r request hand p reply))
        held refl refl (hand_left w.hands v hand (hand_taken (its_done w v r request hand p reply) (with_made hand (its_copy w v r request hand p reply) (its_made w v r request hand p reply))) (its_end w v r request hand p reply) held refl) does

    pub serve_is : (p : Payload) (reply : Reply) → ReservesNoCopy request hand → Carries request p (payload_with hand kept) → MayReply (record_seen w.cluster (ckpt_of request) r) (node_at w.nodes r) request p reply → IsValidFor request kept → r < length w.nodes →
        IsStep v w (served_world w v r request hand p reply) (served_label w v r request hand p reply)
    serve_is p reply other carries may valid within = told_so p reply (does_by request w v r hand p reply other goes held its_next carries may valid within)

    pub ends_its : (p : Payload) (reply : Reply) → MayReply (record_seen w.cluster (ckpt_of request) r) (node_at w.nodes r) request p reply → EndsIts request (its_end w v r request hand p reply)
    ends_its p reply may = ends_by request w h v r hand p reply (known w shown) held its_next may

    -- where the request goes to a replica
    module _ (to : GoesToReplica request) where
      abbrev pub its_replica : Replica
      its_replica = (finding.found w h v r request hand facts fitting held its_next to).replica

      -- the node serves it with that one
      pub its_served : replica_served (record_seen w.cluster (ckpt_of request) r) (node_at w.nodes r) (ckpt_of request) ≡ Some its_replica
      its_served = finding.served_is w h v r request hand facts fitting held its_next to

      pub its_ready : IsReadyFor request its_replica
      its_ready = (finding.found w h v r request hand facts fitting held its_next to).holds

      -- it is the one that the node has
      pub its_there : replica_in w.nodes (ckpt_of request) r ≡ Some its_replica
      its_there = (finding.found w h v r request hand facts fitting held its_next to).is

      -- and becomes what the request makes of it
      pub its_nodes : (p : Payload) (reply : Reply) → with_changed (ckpt_of request) r (replica_after request p (record_seen w.cluster (ckpt_of request) r)) w.nodes ≡ nodes_after w.cluster w.nodes r request p reply
      its_nodes p reply =
          let n = node_at w.nodes r in
          ap (slice_set w.nodes r) (sym (replicas_served w.cluster n request p reply (reserves_none request to)
          ∙ ap (λ b. cond b (change_key replica_key (ckpt_of request) (replica_after request p (record_seen w.cluster (ckpt_of request) r)) n.replicas) n.replicas) (finding.seen_complete w h v r request hand facts fitting held its_next to)))

      -- which has the call's own
      pub its_own : IsOfCall request hand kept its_replica
      its_own =
          let f = finding.found w h v r request hand facts fitting held its_next to in
          finding.of_call w h v r hand facts fitting held request due_here (h.effects (ckpt_of request) r) (h.origins (ckpt_of request) r) f.replica f.entry f.at f.attributes (finding.shown w h v r request hand facts fitting held its_next to)

      -- and what a commit finds staged there
      pub its_staged : (call : CallId) (k : ℕ) → request ≡ requests.Commit call k → IsSomeAnd (shown_slot (h.origins (ckpt_of request) r) its_replica.slot) (IsToCommit s (driver_of s))
      its_staged call k is =
          subst (λ (y : Option ReplicaState). IsSomeAnd y (λ y. IsSomeAnd y.slot (IsToCommit s (driver_of s)))) (finding.shown w h v r request hand facts fitting held its_next to)
          (subst (λ (q : Request). IsSomeAnd (m.replicas (ckpt_of q) r) (λ y. IsSomeAnd y.slot (IsToCommit s (driver_of s)))) (sym is) (facts.commits v s r call k (in_hand_is w h v hand held) (due_here ∙ ap (Serve r) is)))

      -- and a number left for an update
      pub its_room : HasNumbersLeft w → its_replica.count < 2 ^ 64 - 1
      its_room room = room.updates (ckpt_of request) r its_replica (finding.complete_is w h v r request hand facts fitting held its_next to)

      pub answered_is : (p : Payload) (reply : Reply) → Carries request p (payload_with hand kept) → MayReply (record_seen w.cluster (ckpt_of request) r) (node_at w.nodes r) request p reply → IsValidFor request kept →
          IsStep v w (served_world w v r request hand p reply) (served_label w v r request hand p reply)
      answered_is p reply carries may valid = told_so p reply (serve_does w v r request hand p reply to held its_next carries may valid)

    -- the request may come, with what is lent
    pub fits_lent : HasNumbersLeft w → (lent : Lent) → IsLentBy hand.op request lent → IsLentAt w.nodes r request lent → MayCome w.cluster (node_at w.nodes r) request (with_own lent)
    fits_lent room lent is at = fits_by request m r (node_at w.nodes r) (with_own lent) goes (finding.ready w h v r request hand facts fitting held its_next).1 to_replica where
      to_replica : GoesToReplica request → ReplicaMayBeAsked (is_complete (record_seen w.cluster (ckpt_of request) r)) request (with_own lent) (replica_in w.nodes (ckpt_of request) r)
      to_replica to =
          subst (λ (z : Bool × Option Replica). ReplicaMayBeAsked z.0 request (with_own lent) z.1)
          (λ i. (sym (finding.seen_complete w h v r request hand facts fitting held its_next to) i, sym (its_there to) i)) (record {
            ready = its_ready to;
            room = count_left request (its_replica to) (its_room to room);
            beside = has_lent request hand kept lent (its_replica to) to is (lent_on w.nodes r request lent (its_replica to) (its_there to) at) (its_own to);
          })
