-- What the code relies on in every state of a run.
use Rattle.std.specs.Prelude.{◌≡◌, ℕ, ◌<◌, length, if◌then◌else◌, Option, Some, None, IsSome, IsSomeAnd, IfSome, is_some, true, false, ◌==◌, ℤ, pos, ◌≤ℤ◌, slice_index}
use Rattle.ckpt_types.specs.declared.identities.ActorName.{ActorName}
use Rattle.ckpt_types.specs.declared.identities.ActorName.TheVariants.{Node}
use Rattle.ckpt_types.specs.declared.identities.Who.{Who}
use Rattle.ckpt_types.specs.declared.calls.OpenAsk.{OpenAsk}
use Rattle.ckpt_types.specs.declared.identities.CallId.{CallId}
use Rattle.ckpt_types.specs.declared.sections.Choice.{Choice}
use Rattle.ckpt_types.specs.Attributes.{is_malformed}
use Rattle.ckpt_types.specs.Limits.{nodes_max, clients_max, checkpoints_max, places_max}
use Rattle.node_msgs.specs.declared.requests.Request.{Request}
use Rattle.node_msgs.specs.declared.requests.Request.TheVariants as requests
use Rattle.node_msgs.specs.declared.next.RecordStep.{RecordStep}
use Rattle.node_msgs.specs.declared.next.RecordStep.TheVariants as events
use Rattle.node_msgs.specs.declared.next.Next.TheVariants.{Serve, Event}
use Rattle.cluster_record.specs.Makings.{IsMakingOf, making_of}
use Rattle.cluster_record.specs.DueOnce as once
use Rattle.cluster_record.specs.DueOpen.{making_ckpt, accepts}
use Rattle.ckpt_machine.specs.Drivers.{Driver}
use Rattle.ckpt_machine.specs.Drivers as drivers
use Rattle.cluster_record.specs.declared.calls.Making.{Making}
use Rattle.cluster_record.specs.DueOpen.{OpenState}
use Rattle.cluster_record.specs.declared.entries.Entry.{Entry}
use Rattle.cluster_record.specs.Calls.{IsClient, client_of}
use Rattle.cluster_record.specs.Identities.{IdentitiesRise, AllUpTo}
use Rattle.cluster_record.specs.DueCopy.{lacks_replica}
use Rattle.cluster_record.specs.Placement.{is_all, is_collocated, targets}
use Rattle.cluster_record.specs.DueSync.{SyncState}
use Rattle.cluster_record.specs.RecordState.{RecordState, entry_of, home_of, named, is_up, is_live, is_live_client, can_be_held, can_lead}
use Rattle.weak_marks.specs.Marks.{call_of}
use Rattle.node_msgs.specs.Requests.{ckpt_of}
use Rattle.node_core.specs.Fitting.{IsReadyFor}
use Rattle.replica.specs.Replicas.{IsWrite}
use Rattle.ckpt_machine.specs.Driving.{making_in}
use Rattle.ckpt_machine.specs.Holding.{IsAwaited}
use Rattle.ckpt_machine.specs.Entries.{AllStay}
use Rattle.cluster_record.specs.RecordReady.{CanBecomeLive, CanOpen}
use Rattle.ckpt_types.specs.Asks.{MayAsk, asked, update_of, IsBuilt}
use Rattle.client_handles.specs.ClientState.{NoneLent, has_handle_room}
use Rattle.ckpt_types.specs.Asks as asks
use Rattle.ckpt_machine.specs.Tables.{choice_of, takes_copy}
use Rattle.cluster_record.specs.declared.calls.UpdatePhase.{UpdatePhase}
use Rattle.cluster_record.specs.declared.calls.UpdatePhase.TheVariants.{Staging, Committing}
use Rattle.ckpt_machine.specs.Machine.{Machine, Staged, ReplicaState, Snapshot, CallState, who}
use Rattle.ckpt_machine.specs.Invariant.{AreCalls}
use Rattle.ckpt_machine.specs.Propagation.{target_at}
use Rattle.ckpt_machine.specs.After.{staged_moment}
use Rattle.ckpt_machine.specs.Due.{due, driver_of, IsDriven, room_at, asked_handle}
use Rattle.ckpt_machine.specs.Seen.{seen_at}

-- a replica can be reserved: it is awaited on this node, which is up and not complete, and the attributes passed their check
pub record IsReservable (R : RecordState) (r : ℕ) (e : Entry) : Type 0 where
  pub up : is_up r R ≡ true
  pub awaited : IsAwaited r e
  pub not_complete : slice_index e.complete r ≡ 0
  pub well_formed : is_malformed e.attributes ≡ false

-- what a due request asks of its node
abbrev pub IsServable : Machine → ℕ → Request → Type 0
IsServable m r (requests.Reserve k) = IsSomeAnd (entry_of k m.cluster.entries) (IsReservable m.cluster r)
IsServable m r request = IsSomeAnd (seen_at m (ckpt_of request) r) (IsReadyFor request)

-- a replica on which nothing is staged
abbrev pub HasNoSlot : ReplicaState → Type 0
HasNoSlot x = x.slot ≡ None

-- every node on which a client's checkpoint is to be made has reserved under its present incarnation
abbrev pub AllReserved : Machine → ℕ → ℕ → Entry → Type 0
AllReserved m c k e =
    (r : ℕ) → (slice_index (targets e.attributes (home_of c m.cluster) m.cluster.up) r == 0) ≡ false → m.reserved k r ≡ Some (slice_index m.cluster.up r)

-- and no other node has
abbrev pub NoneReservedElse : Machine → ℕ → ℕ → Entry → Type 0
NoneReservedElse m c k e = (r : ℕ) → (slice_index (targets e.attributes (home_of c m.cluster) m.cluster.up) r == 0) ≡ true → m.reserved k r ≡ None

-- a making of a client can be finished
abbrev pub IsFinishable : Machine → ℕ → Option Making → Type 0
IsFinishable m c None = ⊥
IsFinishable m c (Some making) =
    IsSomeAnd (entry_of making.ckpt m.cluster.entries) (λ e. AllReserved m c making.ckpt e × NoneReservedElse m c making.ckpt e × (e.generation ≡ 1)
    × ((r : ℕ) → slice_index e.complete r ≡ 0))

-- what is staged is the call's own update
pub record IsOwnStaged (s : CallState) (slot : Staged) : Type 0 where
  pub origin : slot.origin ≡ s.call
  pub update : slot.update ≡ update_of s.op

-- a call that stages, or commits, commits its own update; one that resolves commits what it has claimed
abbrev pub IsOwnWhere : CallState → UpdatePhase → Staged → Type 0
IsOwnWhere s Staging slot = IsOwnStaged s slot
IsOwnWhere s Committing slot = IsOwnStaged s slot
IsOwnWhere s phase slot = Unit {0}

-- so is what is staged, by what drives the call
abbrev pub IsToCommit : CallState → Driver → Staged → Type 0
IsToCommit s (drivers.Update u) slot = IsOwnWhere s u.phase slot
IsToCommit s driver slot = Unit {0}

-- an open of a client can add a replica of a checkpoint: the entry has each node, the client's is up, and has nothing reserved for it where it is collocated
pub record IsAddable (m : Machine) (c : ℕ) (e : Entry) : Type 0 where
  pub nodes : length e.complete ≡ nodes_max
  pub up : is_up (home_of c m.cluster) m.cluster ≡ true
  pub unreserved : is_collocated e.attributes ≡ true → m.reserved e.identity (home_of c m.cluster) ≡ None

-- a checkpoint fits an open: it is in the making, and the record refuses it, or it has the attributes asked for, and a replica of it can be added
abbrev pub FitsOpen : Machine → OpenAsk → Entry → Type 0
FitsOpen m ask e = e.making ≡ None → (accepts ask.attrs e ≡ true) × IsAddable m ask.client e

-- a call has room for a copy in hand, for what the checkpoint declares, which is there
pub record HasCopyRoom (m : Machine) (s : CallState) (k : ℕ) : Type 0 where
  pub takes : takes_copy (asked s.op) ≡ true
  pub declares : IsSomeAnd (entry_of k m.cluster.entries) (λ e. s.kept.declares ≡ Some e.attributes)

-- nothing is staged on a replica, and no marks stand
abbrev pub IsAtRest : ReplicaState → Type 0
IsAtRest x = (x.slot ≡ None) × (x.marks ≡ None)

-- a node can lead: where it takes over what is in hand, its replica is at rest; and something is in hand just where the checkpoint is held
pub record IsLeadable (m : Machine) (s : CallState) (k r : ℕ) (e : Entry) : Type 0 where
  pub rest : IsSome s.snapshot → IfSome (m.replicas k r) IsAtRest
  pub held : is_some s.snapshot ≡ is_some e.hold

-- the call that is making a checkpoint, if one is, is live
abbrev pub HasLiveMaker : RecordState → Entry → Type 0
HasLiveMaker R e = IfSome e.making (λ by. is_live R by ≡ true)

-- so is the call whose marks stand on a replica, if any do
abbrev pub HasLiveMarker : RecordState → ReplicaState → Type 0
HasLiveMarker R x = IfSome (call_of x.marks) (λ by. is_live R by ≡ true)

-- a call can hold its checkpoint, of which this node has the active replica
pub record IsHoldable (m : Machine) (s : CallState) (u : SyncState) (r : ℕ) : Type 0 where
  pub call : u.call ≡ s.call
  pub can : IsSomeAnd (entry_of u.ckpt m.cluster.entries) (λ e. can_be_held e ≡ true)
  pub marker : IsSomeAnd (m.replicas u.ckpt r) (HasLiveMarker m.cluster)

-- a replica has as many effects as a snapshot
abbrev pub HasAsMany : Option Snapshot → ReplicaState → Type 0
HasAsMany pulled x = IsSomeAnd pulled (λ s. length x.effects ≡ length s.effects)

-- a node that lacks a checkpoint can come to be complete for it, with the moment of the slots where updates are on all replicas; one of these has as many
-- effects then as what was pulled
pub record IsCompletable (m : Machine) (s : CallState) (k r : ℕ) (moment : Option ℤ) (e : Entry) : Type 0 where
  pub own : s.call.actor ≡ Node r
  pub lacks : lacks_replica r e ≡ true
  pub nodes : length e.complete ≡ nodes_max
  pub up : is_up r m.cluster ≡ true
  pub counted : is_all e.attributes ≡ true → (q : ℕ) × IsSomeAnd (m.replicas k q) (HasAsMany s.snapshot)
  pub moment_is : moment ≡ (if is_all e.attributes then Some (staged_moment m k) else None)

-- what a due step of the record asks of it
abbrev pub IsEventReady : Machine → CallState → Driver → RecordStep → Type 0
IsEventReady m s (drivers.Once (once.Enter r)) events.Enter = CanBecomeLive s.call r m.cluster × (length m.cluster.clients < clients_max)
IsEventReady m s (drivers.Once once.Leave) events.Leave = Unit {0}
IsEventReady m s (drivers.Once (once.Close k)) events.Close = Unit {0}
IsEventReady m s (drivers.Once (once.Unlink name)) events.Unlink = IsSomeAnd (named name m.cluster.entries) (λ e. e.making ≡ None)
IsEventReady m s (drivers.Once (once.Retain k duration)) events.Retain = IsSomeAnd (entry_of k m.cluster.entries) (λ e. IsSome e.name) × (pos 0 ≤ℤ duration)
IsEventReady m s (drivers.Open o) events.Create =
    (length m.cluster.entries < checkpoints_max) × IsSomeAnd o.ask.attrs (λ a. Unit {0}) × (named o.ask.name m.cluster.entries ≡ None) × CanOpen o.ask m.cluster
    × IsClient s.call.actor
IsEventReady m s (drivers.Open o) events.Open =
    IsSomeAnd (named o.ask.name m.cluster.entries) (FitsOpen m o.ask) × CanOpen o.ask m.cluster × IsClient s.call.actor
    × IsSomeAnd (named o.ask.name m.cluster.entries) (HasLiveMaker m.cluster)
IsEventReady m s (drivers.Open o) events.Finish = IsFinishable m o.ask.client o.making × IsMakingOf m.cluster o.ask.client (making_ckpt o.making)
IsEventReady m s (drivers.Open o) events.Undo = IsSomeAnd o.making (λ making. Unit {0}) × IsMakingOf m.cluster o.ask.client (making_ckpt o.making)
IsEventReady m s (drivers.Sync u) (events.Hold r) =
    (r < nodes_max) × IsSome (m.replicas u.ckpt r) × HasCopyRoom m s u.ckpt × IsSomeAnd (entry_of u.ckpt m.cluster.entries) (λ e. e.hold ≡ None)
    × IsHoldable m s u r
IsEventReady m s (drivers.Sync u) (events.Activate r) =
    (r < nodes_max) × HasCopyRoom m s u.ckpt × IsSomeAnd (entry_of u.ckpt m.cluster.entries) (λ e. IsLeadable m s u.ckpt r e)
    × IsSomeAnd (entry_of u.ckpt m.cluster.entries) (λ e. can_lead r e ≡ true)
IsEventReady m s (drivers.Copy c) (events.Complete k r moment) =
    (r < nodes_max) × HasCopyRoom m s k × IsSome s.snapshot × IsSome (m.reserved k r)
    × IsSomeAnd (entry_of k m.cluster.entries) (IsCompletable m s k r moment)
IsEventReady m s driver step = ⊥

-- a call to the active alone
abbrev pub IsActive : Driver → Type 0
IsActive (drivers.Active a) = Unit {0}
IsActive driver = ⊥

-- a call starts an iteration by this choice: its handle is there, and it has room for all identifiers that its checkpoint declares
pub record IsStarting (m : Machine) (s : CallState) (k : ℕ) (choice : Choice) : Type 0 where
  pub iteration : ℕ
  pub place : ℕ
  pub chosen : ℕ
  pub time : ℤ
  pub asks : asked s.op ≡ asks.Iterate iteration place chosen time
  pub choice_is : choice ≡ choice_of chosen time
  pub within : iteration < places_max
  pub handle : IsSome (asked_handle m s.call.actor s.op)
  pub room : s.kept.room ≡ room_at m.cluster (Some k)
  pub active : IsActive (driver_of s)

-- a call goes on with an iteration, whose handle is there
pub record IsGoingOn (m : Machine) (s : CallState) : Type 0 where
  pub iteration : ℕ
  pub asks : asked s.op ≡ asks.Next iteration
  pub within : iteration < places_max
  pub handle : IsSome (asked_handle m s.call.actor s.op)

-- what the code relies on, of each call in hand
pub record Facts (m : Machine) : Type 0 where
  -- a call in hand is so under its own name and no other, its actor may ask for it, it is built, and what it asks for drives it
  pub callers : (w : Who) (s : CallState) → m.in_hand w ≡ Some s → who s ≡ w
  pub askers : (w : Who) (s : CallState) → m.in_hand w ≡ Some s → MayAsk s.call.actor (asked s.op)
  pub calls : AreCalls m.in_hand m.pending m.next
  pub built : (w : Who) (s : CallState) → m.in_hand w ≡ Some s → IsBuilt s.op
  pub driven : (w : Who) (s : CallState) → m.in_hand w ≡ Some s → IsDriven s
  -- no iteration is lent between two steps
  pub rest : (a : ActorName) → NoneLent (m.tables a)
  pub rises : IdentitiesRise m.cluster.entries
  pub up_to : AllUpTo m.cluster.last_identity m.cluster.entries
  -- no checkpoint is there that is over
  pub stay : AllStay m.cluster.moment m.cluster.entries
  -- the active of a checkpoint is complete
  pub led : (k r : ℕ) (e : Entry) → entry_of k m.cluster.entries ≡ Some e → e.active ≡ Some r → (slice_index e.complete r == 0) ≡ false
  pub ready : (w : Who) (s : CallState) (r : ℕ) (request : Request) → m.in_hand w ≡ Some s → due m s ≡ Serve r request
      → (r < nodes_max) × IsServable m r request
  -- a due stage has the moment of the slots that stand
  pub moments : (w : Who) (s : CallState) (r : ℕ) (call : CallId) (k : ℕ) (t : ℤ) → m.in_hand w ≡ Some s → due m s ≡ Serve r (requests.Stage call k t)
      → IsSomeAnd (m.replicas k r) HasNoSlot → staged_moment m k ≡ t
  -- a due commit finds something staged: by a call that stages or commits, its own update
  pub commits : (w : Who) (s : CallState) (r : ℕ) (call : CallId) (k : ℕ) → m.in_hand w ≡ Some s → due m s ≡ Serve r (requests.Commit call k)
      → IsSomeAnd (m.replicas k r) (λ x. IsSomeAnd x.slot (IsToCommit s (driver_of s)))
  -- a weak write that is due to begin is a write
  pub marks : (w : Who) (s : CallState) (r : ℕ) (call : CallId) (k : ℕ) → m.in_hand w ≡ Some s → due m s ≡ Serve r (requests.Mark call k)
      → IsWrite (update_of s.op)
  pub events : (w : Who) (s : CallState) (step : RecordStep) → m.in_hand w ≡ Some s → due m s ≡ Event step → IsEventReady m s (driver_of s) step
  -- an open that is making something finds room for its handle, and its client is live
  pub opens : (w : Who) (s : CallState) (o : OpenState) → m.in_hand w ≡ Some s → driver_of s ≡ drivers.Open o
      → (IsSome o.making → has_handle_room (m.tables s.call.actor) ≡ true) × (is_live_client (client_of s.call) m.cluster ≡ true)
  -- what a call is making by its own steps is what is in the making by it
  pub makes : (w : Who) (s : CallState) → m.in_hand w ≡ Some s → making_of s.call m.cluster ≡ making_in (driver_of s)
  -- a complete node has its replica
  pub complete : (k r : ℕ) (e : Entry) → entry_of k m.cluster.entries ≡ Some e → (slice_index e.complete r == 0) ≡ false → IsSome (m.replicas k r)
  -- a put meets no slot and no marks
  pub puts : (k r : ℕ) (x : ReplicaState) → target_at m k r ≡ Some x → (x.slot ≡ None) × (x.marks ≡ None)
  -- a due pull has room for what it copies, and a due installation has in hand what was pulled
  pub pulls : (w : Who) (s : CallState) (r : ℕ) (call : CallId) (k : ℕ) → m.in_hand w ≡ Some s → due m s ≡ Serve r (requests.Pull call k) → HasCopyRoom m s k
  pub installs : (w : Who) (s : CallState) (r : ℕ) (call : CallId) (k : ℕ) → m.in_hand w ≡ Some s → due m s ≡ Serve r (requests.Install call k)
      → HasCopyRoom m s k × IsSome s.snapshot
  pub starts : (w : Who) (s : CallState) (r : ℕ) (call : CallId) (k : ℕ) (choice : Choice) → m.in_hand w ≡ Some s
      → due m s ≡ Serve r (requests.Iterate call k choice) → IsStarting m s k choice
  pub goes_on : (w : Who) (s : CallState) (r : ℕ) (call : CallId) (k : ℕ) → m.in_hand w ≡ Some s → due m s ≡ Serve r (requests.Next call k) → IsGoingOn m s
