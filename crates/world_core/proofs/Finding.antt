-- What a due request finds on its node: for all but a reservation the replica that the machine has there.
use Rattle.std.proofs.Common.{◌≡◌, ℕ, ◌<◌, ◌==◌, Bool, true, false, not, cond, List, length, refl, sym, ap, subst, ◌∙◌}
use Rattle.std.specs.Prelude.{Option, Some, None, IfSome, IsSome, IsSomeAnd, slice_index}
use Rattle.std.specs.Option.{option_and_then}
use Rattle.ckpt_types.specs.declared.identities.ActorName.TheVariants.{Client}
use Rattle.ckpt_types.specs.declared.attributes.CreationAttributes.{CreationAttributes}
use Rattle.ckpt_types.specs.declared.identities.CallId.{CallId}
use Rattle.snap_copy.specs.Snapshots as copies
use Rattle.node_msgs.specs.declared.requests.Request.{Request}
use Rattle.node_msgs.specs.declared.requests.Request.TheVariants.{Reserve}
use Rattle.node_msgs.specs.declared.requests.Request.TheVariants as requests
use Rattle.node_msgs.specs.declared.next.Next.{Next}
use Rattle.node_msgs.specs.declared.next.Next.TheVariants.{Serve}
use Rattle.cluster_record.specs.DueActive.{weak_request, request_by}
use Rattle.cluster_record.specs.declared.calls.MarksMade.{MarksMade}
use Rattle.cluster_record.specs.declared.calls.ActiveKind.{ActiveKind}
use Rattle.cluster_record.specs.declared.calls.ActiveKind.TheVariants as kinds
use Rattle.cluster_record.specs.declared.copying.Copying.{Copying}
use Rattle.cluster_record.specs.declared.entries.Entry.{Entry}
use Rattle.replica.specs.Replicas.{Replica}
use Rattle.weak_marks.specs.Marks.{Marked}
use Rattle.stage_slot.specs.Slots.{Slot}
use Rattle.client_calls.specs.declared.in_hand.InHand.{InHand}
use Rattle.world_core.specs.declared.world.World.{World}
use Rattle.cluster_record.specs.RecordState.{entry_of, complete_of, no_nodes}
use Rattle.node_msgs.specs.Requests.{ckpt_of}
use Rattle.node_core.specs.Nodes.{replica_served, where_seen}
use Rattle.node_core.specs.Seen.{record_seen, entry_seen, is_complete, is_complete_in}
use Rattle.node_core.specs.Fitting.{IsReadyFor}
use Rattle.ckpt_machine.specs.Nodes.{node_at, replica_in}
use Rattle.ckpt_machine.specs.Drivers.{Driver}
use Rattle.ckpt_machine.specs.Drivers as drivers
use Rattle.ckpt_machine.specs.Driving.{driver_next}
use Rattle.ckpt_machine.specs.Machine.{Machine, Effect, CallState}
use Rattle.ckpt_machine.specs.Tables.{handle_asked}
use Rattle.ckpt_machine.specs.Due.{due, payload_due, room_in}
use Rattle.ckpt_machine.specs.Seen.{seen_by, seen_at, seen_slot, seen_snapshot}
use Rattle.cluster_record.specs.LookUps.{declared_in}
use Rattle.ckpt_types.specs.Asks.{asked}
use Rattle.client_handles.specs.ClientState.{ClientState, iteration_at}
use Rattle.client_handles.specs.declared.handle_view.HandleView.{HandleView}
use Rattle.section_iter.specs.KeptIds.{KeptIds}
use Rattle.section_iter.specs.Room.{room_declared, IsRoomFor}
use Rattle.world_core.specs.TablesState.{kept_by}
use Rattle.world_core.specs.Happenings.{rooms_at}
use Rattle.ckpt_machine.specs.Facts.{Facts, HasCopyRoom, IsServable}
use Rattle.world_core.specs.Shows.{HistoryFits, History, machine_of, tables_of}
use Rattle.ckpt_machine.specs.Shown.{FitsReplica, FitsSlot, FitsCopy, shown_replica, shown_slot, shown_copy, where_complete, complete_replica}
use Rattle.client_calls.specs.HandRooms.{room_for}
use Rattle.ckpt_machine.proofs.NextOf.{OfAsked, OfCopying, next_of}
use Rattle.ckpt_machine.proofs.OptionLemmas.{IsSomeAnd-at}
use Rattle.ckpt_machine.proofs.LentReplicas.{has_one}
use Rattle.world_core.proofs.Carrying.{IsOfCall, payload_with}
use Rattle.ckpt_machine.proofs.Carried.{GoesToReplica, IsSameCopy}
use Rattle.ckpt_machine.proofs.CopySteps.{HasCopyRoomFor, room_is}
use Rattle.ckpt_machine.proofs.Askers.{IsCopyAsk}
use Rattle.world_core.proofs.Held.{client_asks, state_in, in_hand_is, iteration_is, due_is, copy_stays}
use Rattle.world_core.proofs.IterationSteps.{TablesReady, goes_on_with, asked_is, room_for_declared}
use Rattle.world_core.specs.HandsState.{hand_at}
use Rattle.client_calls.specs.Names.{client_by}
use Rattle.ckpt_types.specs.declared.identities.Who.{Who}
use Rattle.ckpt_machine.proofs.GoesAt.{zero_there}

-- ---- what may be due

-- a reservation, or what goes to a replica
abbrev pub IsReservationOr : Request → Type 0
IsReservationOr (Reserve k) = Unit {0}
IsReservationOr request = GoesToReplica request

abbrev AsksSo : Next → Type 0
AsksSo (Serve r request) = IsReservationOr request
AsksSo next = Unit {0}

weak_goes : (call : CallId) (k : ℕ) (marks : Option MarksMade) → IsReservationOr (weak_request call k marks)
weak_goes call k None = tt
weak_goes call k (Some marks) = by_left (marks.left == 0)
  where
    by_left : (b : Bool) → IsReservationOr (cond b (requests.Unmark call k) (requests.Element call k))
    by_left true = tt
    by_left false = tt

kind_goes : (call : CallId) (k : ℕ) (kind : ActiveKind) (marks : Option MarksMade) → IsReservationOr (request_by call k kind marks)
kind_goes call k (kinds.Weak n) marks = weak_goes call k marks
kind_goes call k kind marks = tt

asked_goes : (x : Driver) → OfAsked AsksSo x
asked_goes (drivers.Update u) = (λ r t. tt, λ r. tt, λ r. tt, λ r. tt)
asked_goes (drivers.Active a) = λ r. kind_goes a.call a.ckpt a.kind a.marks
asked_goes (drivers.Sync u) = (λ r. tt, λ r. tt, λ r. tt, λ r. tt)
asked_goes (drivers.Copy c) = by_copying c.copying where
  by_copying : (o : Option Copying) → IfSome o (OfCopying AsksSo c)
  by_copying None = tt
  by_copying (Some at) = record { update = (λ r t. tt, λ r. tt, λ r. tt, λ r. tt); pulls = λ r. tt; completes = λ moment. tt }
asked_goes x = tt

-- ---- the replica that is there

seen_same : (o : CallId) (n : ℕ) (marks : Option Marked) (p : Option Slot) → FitsSlot n marks p → seen_slot n (shown_slot o p) ≡ p
seen_same o n marks None fits = refl
seen_same o n marks (Some slot) fits = λ i. Some (record slot { count = sym fits.0 i })

-- a replica that the machine has, the node has, and is complete for its checkpoint
pub replica_shown : (E : List Effect) (o : CallId) (n : ℕ) (y : Option Replica) → IsSome (shown_replica E o (where_complete n y)) → (x : Replica) × (y ≡ Some x) × (where_complete n y ≡ Some x)
replica_shown E o n y there = by_test (n == 0) y there where
  by_test : (b : Bool) (y : Option Replica) → IsSome (shown_replica E o (cond b None y)) → (x : Replica) × (y ≡ Some x) × (cond b None y ≡ Some x)
  by_test true y there = absurd (cc there)
  by_test false None there = absurd (cc there)
  by_test false (Some x) there = (x, refl, refl)

-- the replica that a due request finds
pub record There (k c : ℕ) (e : Option Entry) (E : List Effect) (o : CallId) (y : Option Replica) (P : Replica → Type 0) : Type 0 where
  pub replica : Replica
  pub entry : Entry
  pub at : e ≡ Some entry
  pub is : y ≡ Some replica
  pub complete : (c == 0) ≡ false
  pub attributes : replica.attributes ≡ entry.attributes
  pub fits : FitsReplica k e E (Some replica)
  pub seen : seen_by k e (shown_replica E o (where_complete c y)) ≡ Some replica
  pub holds : P replica

there : (k c : ℕ) (e : Option Entry) (E : List Effect) (o : CallId) (y : Option Replica) (P : Replica → Type 0) → FitsReplica k e E (where_complete c y) → IsSomeAnd (seen_by k e (shown_replica E o (where_complete c y))) P → There k c e E o y P
there k c None E o y P fits some = absurd some
there k c (Some e) E o y P fits some = by_test (c == 0) refl y fits some where
  by_test : (b : Bool) → (c == 0) ≡ b → (y : Option Replica) → FitsReplica k (Some e) E (cond b None y) → IsSomeAnd (seen_by k (Some e) (shown_replica E o (cond b None y))) P → There k c (Some e) E o y P
  by_test true t y fits some = absurd some
  by_test false t None fits some = absurd some
  by_test false t (Some x) fits some =
      let slot : seen_slot (length E) (shown_slot o x.slot) ≡ x.slot = ap (λ n. seen_slot n (shown_slot o x.slot)) fits.2 ∙ seen_same o x.count x.marks x.slot fits.3 in
      let same : record { ckpt = k; attributes = e.attributes; sections = x.sections; count = length E; generation = x.generation; slot = seen_slot (length E) (shown_slot o x.slot); marks = x.marks } ≡ x
      = λ i. record { ckpt = sym fits.0 i; attributes = sym fits.1 i; sections = x.sections; count = fits.2 i; generation = x.generation; slot = slot i; marks = x.marks } in
      record {
        replica = x;
        entry = e;
        at = refl;
        is = refl;
        complete = t;
        attributes = fits.1;
        fits = fits;
        seen = ap (λ b. seen_by k (Some e) (shown_replica E o (cond b None (Some x)))) t ∙ ap Some same;
        holds = subst P same some;
      }

-- ---- what the node itself sees of it

complete_where : (r : ℕ) (e : Option Entry) → (slice_index (complete_of e) r == 0) ≡ false → is_complete_in (entry_seen r e) ≡ true
complete_where r None t = let z : (slice_index no_nodes r == 0) ≡ true = ap (λ n. n == 0) (zero_there r) in absurd (let bad : true ≡ false = sym z ∙ t in cc bad)
complete_where r (Some e) t = ap not t

-- ---- for a request that is due

-- what goes to a replica is asked of one that is ready for it
servable : (m : Machine) (r : ℕ) (request : Request) → GoesToReplica request → IsServable m r request → IsSomeAnd (seen_at m (ckpt_of request) r) (IsReadyFor request)
servable m r (Reserve k) goes h = absurd goes
servable m r request goes h = h

module _ (w : World) (h : History) (v : Who) (r : ℕ) (request : Request) (hand : InHand) (facts : Facts (machine_of w h)) (fits : HistoryFits w h) (held : hand_at w.hands v ≡ Some hand) (next : driver_next w.cluster (rooms_at w (client_by v)) hand.driver ≡ Serve r request) where
  abbrev m : Machine
  m = machine_of w h

  abbrev k : ℕ
  k = ckpt_of request

  -- what is due of the call
  pub due_here : due m (state_in h v hand) ≡ Serve r request
  due_here = due_is w h v hand held facts fits (Serve r request) next

  -- its node is one of eight, and can serve it
  pub ready : (r < 8) × IsServable m r request
  ready = facts.ready v (state_in h v hand) r request (in_hand_is w h v hand held) due_here

  -- and it is one of a call that is built
  pub built : IsReservationOr request
  built = subst AsksSo next (next_of AsksSo (λ o. tt) (λ step none. tt) (λ r k. tt) w.cluster (rooms_at w (client_by v)) hand.driver (asked_goes hand.driver))

  module _ (goes : GoesToReplica request) where
    -- the node has the replica
    pub found : There k (slice_index (complete_of (entry_of k w.cluster.entries)) r) (entry_of k w.cluster.entries) (h.effects k r) (h.origins k r) (replica_in w.nodes k r) (IsReadyFor request)
    found = there k (slice_index (complete_of (entry_of k w.cluster.entries)) r) (entry_of k w.cluster.entries) (h.effects k r) (h.origins k r) (replica_in w.nodes k r) (IsReadyFor request) (fits.replicas k r) (servable m r request goes ready.1)

    pub complete_is : complete_replica w.cluster w.nodes k r ≡ Some found.replica
    complete_is = ap (λ b. cond b None (replica_in w.nodes k r)) found.complete ∙ found.is

    -- by the record it is complete for it, and serves with it
    pub seen_complete : is_complete (record_seen w.cluster k r) ≡ true
    seen_complete = complete_where r (entry_of k w.cluster.entries) found.complete

    pub served_is : replica_served (record_seen w.cluster k r) (node_at w.nodes r) k ≡ Some found.replica
    served_is = ap (λ b. where_seen b (replica_in w.nodes k r)) seen_complete ∙ found.is

    pub shown : m.replicas k r ≡ shown_replica (h.effects k r) (h.origins k r) (Some found.replica)
    shown = ap (shown_replica (h.effects k r) (h.origins k r)) complete_is

-- ---- what is the call's own

-- nothing is staged that the machine does not have
pub no_slot : (o : CallId) (slot : Option Slot) → shown_slot o slot ≡ None → slot ≡ None
no_slot o None none = refl
no_slot o (Some slot) none = absurd (cc none)

-- what follows from something is there where that is
from_there : {X Y : Type 0} (f : X → Option Y) (o : Option X) → IsSome (option_and_then f o) → IsSome o
from_there f None there = absurd (cc there)
from_there f (Some x) there = refl

-- the snapshot in a hand is seen as the code has it, once something was pulled
copy_seen : (pulled : Option (List Effect)) (s : Option copies.Snapshot) (a : CreationAttributes) → IsSome (shown_copy pulled s) → IsSomeAnd s (λ s. s.attributes ≡ a) → FitsCopy pulled s → seen_snapshot (Some a) (shown_copy pulled s) ≡ s
copy_seen None s a there room counts = absurd (cc there)
copy_seen (Some E) None a there room counts = absurd room
copy_seen (Some E) (Some s) a there room counts = λ i. Some (record s { attributes = sym room i; count = counts i })

module _ (w : World) (h : History) (v : Who) (r : ℕ) (hand : InHand) (facts : Facts (machine_of w h)) (fits : HistoryFits w h) (held : hand_at w.hands v ≡ Some hand) where
  abbrev M : Machine
  M = machine_of w h

  abbrev s : CallState
  s = state_in h v hand

  abbrev kept : ClientState
  kept = kept_by w.tables (client_by v)

  -- the iteration that it starts or with which it goes on
  pub tables_ready : (request : Request) → due M s ≡ Serve r request → TablesReady request M s hand kept
  tables_ready (requests.Iterate call k choice) is =
      let starting = facts.starts v s r call k choice (in_hand_is w h v hand held) is in
      (starting, iteration_is w h v hand held fits ∙ ap (λ a. room_for a s.kept.room) starting.asks)
  tables_ready (requests.Next call k) is =
      let going = facts.goes_on v s r call k (in_hand_is w h v hand held) is in
      let caller : hand.call.actor ≡ Client (client_by v) = client_asks w h v hand held facts (λ copies. subst IsCopyAsk going.asks copies) in
      goes_on_with (asked hand.op) kept going.iteration going.asks going.within
      (from_there _ (iteration_at going.iteration kept) (subst (λ (o : Option HandleView). IsSome o) (λ i. handle_asked (going.asks i) (tables_of w.tables (caller i))) going.handle))
      (facts.rest (Client (client_by v)))
  tables_ready request is = tt

  -- the room for what it copies is what its checkpoint declares
  pub copy_room_is : (k : ℕ) → HasCopyRoom M s k → (e : Entry) → entry_of k w.cluster.entries ≡ Some e → IsSomeAnd hand.snapshot (λ s. s.attributes ≡ e.attributes)
  copy_room_is k has e at =
      let declares : s.kept.declares ≡ Some e.attributes = subst (λ (o : Option Entry). IsSomeAnd o (λ e. s.kept.declares ≡ Some e.attributes)) at has.declares in
      room_is (asked hand.op) s.kept.declares hand.snapshot e.attributes (copy_stays w h v hand held fits).room has.takes declares

  pub copy_declared : (k : ℕ) → HasCopyRoom M s k → (x : Replica) (e : Entry) → entry_of k w.cluster.entries ≡ Some e → x.attributes ≡ e.attributes → IsSomeAnd hand.snapshot (λ s. s.attributes ≡ x.attributes)
  copy_declared k has x e at same = subst (λ a. IsSomeAnd hand.snapshot (λ s. s.attributes ≡ a)) (sym same) (copy_room_is k has e at)

  -- a call that pulls has room
  pub copy_there : (request : Request) → due M s ≡ Serve r request → HasCopyRoomFor request hand.snapshot
  copy_there (requests.Pull call k) is =
      let has = facts.pulls v s r call k (in_hand_is w h v hand held) is in
      let (e, at, declares) = IsSomeAnd-at (entry_of k w.cluster.entries) (λ e. s.kept.declares ≡ Some e.attributes) has.declares in
      has_one hand.snapshot (λ s. s.attributes ≡ e.attributes) (copy_room_is k has e at)
  copy_there request is = tt

  -- and one that installs has in hand what the machine's call has
  pub copy_carried : (request : Request) → due M s ≡ Serve r request → IsSameCopy request (payload_with hand kept) (payload_due M s)
  copy_carried (requests.Install call k) is =
      let (has, there) = facts.installs v s r call k (in_hand_is w h v hand held) is in
      let (e, at, declares) = IsSomeAnd-at (entry_of k w.cluster.entries) (λ e. s.kept.declares ≡ Some e.attributes) has.declares in
      sym (ap (λ d. seen_snapshot d s.snapshot) declares ∙ copy_seen (h.pulled v) hand.snapshot e.attributes there (copy_room_is k has e at) (copy_stays w h v hand held fits).counts)
  copy_carried request is = tt

  -- and what else of its own it uses at a replica
  pub of_call : (request : Request) → due M s ≡ Serve r request → (E : List Effect) (o : CallId) (x : Replica) (e : Entry) → entry_of (ckpt_of request) w.cluster.entries ≡ Some e → x.attributes ≡ e.attributes → M.replicas (ckpt_of request) r ≡ shown_replica E o (Some x) → IsOfCall request hand kept x
  of_call (requests.Mark call k) is E o x e at same is_shown = facts.marks v s r call k (in_hand_is w h v hand held) is
  of_call (requests.Iterate call k choice) is E o x e at same is_shown =
      let ready = tables_ready (requests.Iterate call k choice) is in
      let room : room_declared x.attributes ≡ s.kept.room = ap room_declared same ∙ sym (ready.0.room ∙ ap (λ o. room_in (declared_in o)) at) in
      subst (λ (o : Option KeptIds). IsSomeAnd o (λ it. IsRoomFor x.attributes it.room)) (sym ready.1) (subst (IsRoomFor x.attributes) room (room_for_declared x.attributes))
  of_call (requests.Next call k) is E o x e at same is_shown =
      let ready = tables_ready (requests.Next call k) is in
      subst (λ (o : Option KeptIds). IsSome o) (sym (asked_is (asked hand.op) kept ready)) refl
  of_call (requests.Pull call k) is E o x e at same is_shown = copy_declared k (facts.pulls v s r call k (in_hand_is w h v hand held) is) x e at same
  of_call (requests.Install call k) is E o x e at same is_shown = copy_declared k (facts.installs v s r call k (in_hand_is w h v hand held) is).0 x e at same
  of_call request is E o x e at same is_shown = tt
