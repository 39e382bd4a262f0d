-- Where a call in hand is: what is so of it, by what drives it.
use Rattle.std.specs.List.{list_any}
use Rattle.std.specs.Option.{option_map}
use Rattle.std.specs.Prelude.{◌≡◌, ◌≢◌, ◌==◌, ℕ, ◌<◌, ◌≤◌, length, Option, Some, None, is_some, IsSome, IsSomeAnd, IfSome, true, false, ℤ, pos, ◌≤ℤ◌, slice_index, slice_get, Bool, List}
use Rattle.ckpt_types.specs.declared.attributes.CreationAttributes.{CreationAttributes}
use Rattle.ckpt_types.specs.declared.calls.CallbackSet.{CallbackSet}
use Rattle.ckpt_types.specs.declared.calls.Version.{Version}
use Rattle.ckpt_types.specs.declared.identities.ActorName.TheVariants.{Node}
use Rattle.ckpt_types.specs.declared.identities.Who.{Who}
use Rattle.ckpt_types.specs.Attributes.{is_malformed}
use Rattle.ckpt_types.specs.Limits.{client_numbers, nodes_max, vector_max}
use Rattle.ckpt_machine.specs.Drivers.{Driver}
use Rattle.cluster_record.specs.declared.calls.Making.{Making}
use Rattle.cluster_record.specs.DueOpen.{OpenState, targets_by}
use Rattle.cluster_record.specs.DueActive.{ActiveState}
use Rattle.cluster_record.specs.declared.calls.MarksMade.{MarksMade}
use Rattle.weak_marks.specs.Marks.{Marked}
use Rattle.cluster_record.specs.declared.calls.ActiveKind.{ActiveKind}
use Rattle.cluster_record.specs.declared.entries.Entry.{Entry}
use Rattle.cluster_record.specs.DueSync.{SyncState}
use Rattle.cluster_record.specs.DueUpdate.{UpdateState, update_begun}
use Rattle.cluster_record.specs.declared.calls.PulledAt.{PulledAt}
use Rattle.cluster_record.specs.declared.calls.SyncKind.{SyncKind}
use Rattle.cluster_record.specs.declared.calls.SyncKind.TheVariants.{Synchronize, ActiveSet}
use Rattle.cluster_record.specs.Placement.{is_collocated}
use Rattle.cluster_record.specs.declared.calls.UpdatePhase.TheVariants.{Staging, Committing, Claiming, Claimed}
use Rattle.cluster_record.specs.Calls.{IsClient, client_of, same_call}
use Rattle.ckpt_types.specs.declared.identities.CallId.{CallId}
use Rattle.cluster_record.specs.RecordState.{entry_of, home_of, is_live_client, is_up, is_live}
use Rattle.ckpt_machine.specs.Driving.{deadline_from, kind_of_change}
use Rattle.cluster_record.specs.DueOnce.{OneStep}
use Rattle.cluster_record.specs.DueOnce as once
use Rattle.ckpt_types.specs.Asks.{Ask, MayAsk, asked, update_of, IsBuilt}
use Rattle.ckpt_types.specs.Asks as asking
use Rattle.ckpt_machine.specs.Beginning.{name_is_bad}
use Rattle.ckpt_machine.specs.Guards.{AsksToOpen}
use Rattle.ckpt_machine.specs.ActiveGuards.{serves, HasMarkedIn}
use Rattle.ckpt_machine.specs.GuardTerms.{deadline_of}
use Rattle.ckpt_machine.specs.Tables.{choice_of}
use Rattle.ckpt_machine.specs.Machine.{Machine, Snapshot, CallState, who}
use Rattle.ckpt_machine.specs.Options.{is_weak}
use Rattle.cluster_record.specs.Placement.{is_all}
use Rattle.ckpt_machine.specs.Due.{driver_of, IsDriven, asked_handle, home_by}
use Rattle.section_iter.specs.Room.{room_declared}
use Rattle.cluster_record.specs.declared.calls.UpdatePhase.{UpdatePhase}
use Rattle.cluster_record.specs.StepDone.{has}
use Rattle.ckpt_machine.specs.Shape.{Shape, IsCompleteOn, is_owner, effects_by}
pub use Rattle.ckpt_machine.specs.Dead.{IsDead, enters, is_enter}
use Rattle.ckpt_machine.specs.Owned.{HasUpdate}
use Rattle.ckpt_machine.specs.Drivers as drivers
use Rattle.cluster_record.specs.DueCopy.{CopyState, lacks_replica}
use Rattle.cluster_record.specs.declared.copying.Copying.{Copying}
use Rattle.cluster_record.specs.declared.copying.CopyPhase.{CopyPhase}
use Rattle.cluster_record.specs.declared.copying.CopyPhase.TheVariants as phases
use Rattle.cluster_record.specs.declared.calls.ActiveKind.TheVariants as kinds
use Rattle.ckpt_machine.specs.Entries.{WasMade}

-- an update of all replicas is none of these; any other is of this kind
abbrev pub change_kind : Bool → ActiveKind → Option ActiveKind
change_kind true kind = None
change_kind false kind = Some kind

-- by what is asked of the active, the kind of the call, on a checkpoint whose updates are on all replicas or not, and whose writes are weak or not
abbrev pub active_kind : Bool → Bool → Ask → Option ActiveKind
active_kind all weak (asking.Change place update) = change_kind all (kind_of_change weak update)
active_kind all weak (asking.Read place elements) = Some kinds.Read
active_kind all weak (asking.Status place) = Some kinds.Status
active_kind all weak (asking.Iterate iteration place chosen time) = Some (kinds.Iterate (choice_of chosen time))
active_kind all weak (asking.Next iteration) = Some kinds.Next
active_kind all weak ask = None

-- attributes that were given passed their check
abbrev pub AreGoodAttributes : Option CreationAttributes → Type 0
AreGoodAttributes None = Unit {0}
AreGoodAttributes (Some a) = is_malformed a ≡ false

-- a client that is not live is to become so, on a node that is up
pub record IsEnterAt (m : Machine) (s : CallState) (r : ℕ) : Type 0 where
  pub version : Version
  pub callbacks : CallbackSet
  pub asks : asked s.op ≡ asking.Enter r version callbacks
  pub client : IsClient s.call.actor
  pub up : is_up r m.cluster ≡ true
  pub not_live : is_live_client (client_of s.call) m.cluster ≡ false

-- the attributes that an open asks for
abbrev pub attributes_asked : Ask → Option CreationAttributes
attributes_asked (asking.Open place name flags timeout a) = a
attributes_asked ask = None

-- what it makes is there and in the making by it, and declares what was asked for; and each node that it has for reserved has
pub record IsMakingIn (m : Machine) (s : CallState) (making : Making) : Type 0 where
  pub there : IsSomeAnd (entry_of making.ckpt m.cluster.entries) (λ e. e.making ≡ Some s.call)
  pub declares : IsSomeAnd (entry_of making.ckpt m.cluster.entries) (λ e. attributes_asked (asked s.op) ≡ Some e.attributes)
  pub nodes : length making.reserved ≡ nodes_max
  pub reserved : (r : ℕ) → has (slice_index m.cluster.up r) (slice_index making.reserved r) ≡ true
      → m.reserved making.ckpt r ≡ Some (slice_index m.cluster.up r)
  -- no other node has, and each that has is one on which it is made
  pub only : (r : ℕ) → (slice_index making.reserved r == 0) ≡ true → m.reserved making.ckpt r ≡ None
  pub within : (r : ℕ) → IsSome (m.reserved making.ckpt r)
      → (slice_index (targets_by (attributes_asked (asked s.op)) (home_of (client_of s.call) m.cluster) m.cluster.up) r == 0) ≡ false
  -- and none did so in an incarnation beyond its last
  pub no_later : (r : ℕ) → slice_index making.reserved r ≤ slice_index m.cluster.last_incarnations r

-- an open asks what its operation does, for its client, on a node that is up; and what it makes is there
pub record IsOpenIn (m : Machine) (s : CallState) (o : OpenState) : Type 0 where
  pub caller : IsClient s.call.actor
  pub client : o.ask.client ≡ client_of s.call
  pub within : o.ask.client < client_numbers
  pub node : is_up o.ask.node m.cluster ≡ true
  pub home : o.ask.node ≡ s.kept.node
  pub asks : AsksToOpen s o.ask.name o.ask.attrs
  pub named : name_is_bad o.ask.name ≡ false
  pub declared : AreGoodAttributes o.ask.attrs
  pub deadline : o.deadline ≡ deadline_from s.kept.moment (asked s.op)
  pub making : IfSome o.making (IsMakingIn m s)
  -- what it is making was asked for
  pub given : IsSome o.making → IsSome o.ask.attrs

-- an update owns just the slots for which it keeps a node
abbrev pub OwnsIn : Shape → CallState → UpdateState → Entry → Type 0
OwnsIn sh s u e = (r : ℕ) → IsCompleteOn e r → has (slice_index e.complete r) (slice_index u.owned r) ≡ is_owner s.call (sh.owners r)

-- the update has been done, where it is not staged: the replicas without a slot have it, and so do those with a slot of another call
pub record IsDoneIn (sh : Shape) (s : CallState) : Type 0 where
  pub free : HasUpdate s.call (update_of s.op) (effects_by sh None)
  pub under : (r : ℕ) (call : CallId) → sh.owners r ≡ Some call → call ≢ s.call → HasUpdate s.call (update_of s.op) sh.effects

-- one that commits has done so, and one that claims has met the slot of a dead call
abbrev pub PhaseKeeps : Machine → Shape → CallState → UpdateState → UpdatePhase → Type 0
PhaseKeeps m sh s u Committing = IsDoneIn sh s
PhaseKeeps m sh s u Claiming = IsDead m u.owner
PhaseKeeps m sh s u Claimed = IsDead m u.owner
PhaseKeeps m sh s u phase = Unit {0}

-- an update is asked for, or a copying, which does one that changes nothing
abbrev pub IsUpdateAsk : Ask → Type 0
IsUpdateAsk (asking.Change place update) = Unit {0}
IsUpdateAsk asking.Copy = Unit {0}
IsUpdateAsk ask = ⊥

-- an update is of a checkpoint that was made, whose updates are on all replicas, and of the slots there it owns those for which it keeps a node
pub record IsUpdateIn (m : Machine) (shapes : ℕ → Shape) (s : CallState) (u : UpdateState) : Type 0 where
  pub call : u.call ≡ s.call
  pub asks : IsUpdateAsk (asked s.op)
  pub kept : s.kept.ckpt ≡ Some u.ckpt
  pub made : WasMade m.cluster u.ckpt
  pub all : IfSome (entry_of u.ckpt m.cluster.entries) (λ e. is_all e.attributes ≡ true)
  pub nodes : length u.owned ≡ nodes_max
  pub owns : (e : Entry) → entry_of u.ckpt m.cluster.entries ≡ Some e → OwnsIn (shapes u.ckpt) s u e
  pub keeps : (e : Entry) → entry_of u.ckpt m.cluster.entries ≡ Some e → PhaseKeeps m (shapes u.ckpt) s u u.phase
  -- a node that it keeps in the present incarnation is complete, and it keeps none in an incarnation beyond its last
  pub within : (e : Entry) (r : ℕ) → entry_of u.ckpt m.cluster.entries ≡ Some e → has (slice_index m.cluster.up r) (slice_index u.owned r) ≡ true → IsCompleteOn e r
  pub no_later : (r : ℕ) → slice_index u.owned r ≤ slice_index m.cluster.last_incarnations r

-- the marks are of the call
abbrev pub is_marked_by : CallId → Option Marked → Bool
is_marked_by call None = false
is_marked_by call (Some marks) = same_call marks.call call

-- there are some of the present generation
abbrev pub are_present : Entry → Option MarksMade → Bool
are_present e None = false
are_present e (Some marks) = marks.generation == e.generation

-- a weak write alone makes marks; it has no more elements than a vector may, and no more of them left
abbrev pub MarksFit : ActiveKind → Option MarksMade → Type 0
MarksFit (kinds.Weak n) None = n ≤ vector_max
MarksFit (kinds.Weak n) (Some marks) = (n ≤ vector_max) × (marks.left ≤ n)
MarksFit kind None = Unit {0}
MarksFit kind (Some marks) = ⊥

-- a call to the active is of the kind of its operation, on a checkpoint that was made, and its handle is there
pub record IsActiveIn (m : Machine) (shapes : ℕ → Shape) (s : CallState) (a : ActiveState) : Type 0 where
  pub call : a.call ≡ s.call
  pub kind : active_kind s.kept.all s.kept.weak (asked s.op) ≡ Some a.kind
  pub fit : MarksFit a.kind a.marks
  pub made : WasMade m.cluster a.ckpt
  pub kept : s.kept.ckpt ≡ Some a.ckpt
  -- where its checkpoint is still there, it declares what it did at the beginning
  pub room : IfSome (entry_of a.ckpt m.cluster.entries) (λ e. s.kept.room ≡ room_declared e.attributes)
  pub all : IfSome (entry_of a.ckpt m.cluster.entries) (λ e. s.kept.all ≡ is_all e.attributes)
  pub weak : IfSome (entry_of a.ckpt m.cluster.entries) (λ e. s.kept.weak ≡ is_weak e.attributes)
  pub handle : IsSome (asked_handle m s.call.actor s.op)
  -- and has its marks just where it has made some in the present generation, and none of a later one
  pub marks : (e : Entry) → entry_of a.ckpt m.cluster.entries ≡ Some e → is_marked_by s.call (shapes a.ckpt).marks ≡ are_present e a.marks
  pub generation : (e : Entry) → entry_of a.ckpt m.cluster.entries ≡ Some e → IfSome a.marks (λ marks. marks.generation ≤ e.generation)
  -- it made them by one of its steps
  pub made_by : IfSome a.marks (λ marks. HasMarkedIn s marks.generation)

-- what a call keeps of a pull: the generation of what it has pulled, and the count of its updates
abbrev pub pulled_as : Snapshot → PulledAt
pulled_as s = record { generation = s.generation; count = length s.effects }

-- where it is of the present generation, the active was served
abbrev pub HasServedActive : List Bool → Snapshot → Entry → Type 0
HasServedActive served pulled e = pulled.generation ≡ e.generation → IsSomeAnd e.active (λ r. slice_get served r ≡ Some true)

-- a synchronisation is of a checkpoint that was made, whose updates go to the active alone; it keeps of its pull what is in its hand, of no later
-- generation, and which nodes its steps have served, and then the active is one of them
pub record IsSynchronizeIn (m : Machine) (s : CallState) (u : SyncState) : Type 0 where
  pub call : u.call ≡ s.call
  pub place : ℕ
  pub timeout : Option ℤ
  pub asks : asked s.op ≡ asking.Synchronize place timeout
  pub kind : u.kind ≡ Synchronize (deadline_of s)
  pub kept : s.kept.ckpt ≡ Some u.ckpt
  pub made : WasMade m.cluster u.ckpt
  pub alone : IfSome (entry_of u.ckpt m.cluster.entries) (λ e. is_all e.attributes ≡ false)
  -- where its checkpoint is still there, it declares what it did at the beginning
  pub declares : IfSome (entry_of u.ckpt m.cluster.entries) (λ e. s.kept.declares ≡ Some e.attributes)
  pub pulled : u.pulled ≡ option_map pulled_as s.snapshot
  pub nodes : length u.served ≡ nodes_max
  pub served : (r : ℕ) → r < nodes_max → slice_get u.served r ≡ Some (list_any (serves r) s.steps)
  pub led : IfSome s.snapshot (λ pulled. IfSome (entry_of u.ckpt m.cluster.entries) (HasServedActive u.served pulled))
  pub older : IfSome s.snapshot (λ pulled. IfSome (entry_of u.ckpt m.cluster.entries) (λ e. pulled.generation ≤ e.generation))

-- the hold is of the call
abbrev pub is_held_by : CallId → Option CallId → Bool
is_held_by call None = false
is_held_by call (Some holder) = same_call holder call

-- the setting of the client's node as the active is of a checkpoint that was made, is collocated, and complete there; it has something in its hand just
-- where it holds the checkpoint
pub record IsSettingIn (m : Machine) (s : CallState) (u : SyncState) (local : ℕ) : Type 0 where
  pub call : u.call ≡ s.call
  pub place : ℕ
  pub asks : asked s.op ≡ asking.SetActive place
  pub node : local ≡ s.kept.node
  pub within : local < nodes_max
  pub kept : s.kept.ckpt ≡ Some u.ckpt
  pub made : WasMade m.cluster u.ckpt
  pub collocated : IfSome (entry_of u.ckpt m.cluster.entries) (λ e. is_collocated e.attributes ≡ true)
  pub complete : IfSome (entry_of u.ckpt m.cluster.entries) (λ e. IsCompleteOn e local)
  -- where its checkpoint is still there, it declares what it did at the beginning
  pub declares : IfSome (entry_of u.ckpt m.cluster.entries) (λ e. s.kept.declares ≡ Some e.attributes)
  pub held : IfSome (entry_of u.ckpt m.cluster.entries) (λ e. is_held_by s.call e.hold ≡ is_some s.snapshot)

-- by which of the two a call is
abbrev pub IsSyncBy : Machine → CallState → SyncState → SyncKind → Type 0
IsSyncBy m s u (Synchronize deadline) = IsSynchronizeIn m s u
IsSyncBy m s u (ActiveSet local) = IsSettingIn m s u local

-- a client that is live leaves
pub record IsLeaveAt (m : Machine) (s : CallState) : Type 0 where
  pub asks : asked s.op ≡ asking.Leave
  pub live : is_live_client (client_of s.call) m.cluster ≡ true

-- a handle is closed
pub record IsCloseAt (s : CallState) (k : ℕ) : Type 0 where
  pub place : ℕ
  pub asks : asked s.op ≡ asking.Close place
  pub kept : s.kept.ckpt ≡ Some k

-- a retention is set that is not negative, of a checkpoint that was made
pub record IsRetainAt (m : Machine) (s : CallState) (k : ℕ) (duration : ℤ) : Type 0 where
  pub place : ℕ
  pub asks : asked s.op ≡ asking.Retain place duration
  pub from_zero : pos 0 ≤ℤ duration
  pub kept : s.kept.ckpt ≡ Some k
  pub made : WasMade m.cluster k

-- a call of one step is at that step
abbrev pub IsOnceAt : Machine → CallState → OneStep → Type 0
IsOnceAt m s (once.Enter r) = IsEnterAt m s r
IsOnceAt m s once.Leave = IsLeaveAt m s
IsOnceAt m s (once.Close k) = IsCloseAt s k
IsOnceAt m s (once.Unlink name) = asked s.op ≡ asking.Unlink name
IsOnceAt m s (once.Retain k duration) = IsRetainAt m s k duration

-- what a copying has pulled of a checkpoint whose updates go to its active alone: it is of this generation, and of no later one than the present
pub record HasPulledActive (s : CallState) (e : Entry) (generation : ℕ) : Type 0 where
  pub alone : is_all e.attributes ≡ false
  pub pulled : IsSomeAnd s.snapshot (λ pulled. pulled.generation ≡ generation)
  pub older : generation ≤ e.generation

-- what it has pulled where updates are on all replicas: it owns the slot of each complete node, and has what lies under these
pub record HasPulledStaged (sh : Shape) (s : CallState) (u : UpdateState) (e : Entry) : Type 0 where
  pub all : is_all e.attributes ≡ true
  pub phase : u.phase ≡ Staging
  pub owns : (r : ℕ) → IsCompleteOn e r → sh.owners r ≡ Some s.call
  pub pulled : IsSomeAnd s.snapshot (λ pulled. (pulled.sections ≡ sh.sections) × (pulled.effects ≡ sh.effects))

-- the node lacks the checkpoint, and has reserved for it in its present incarnation
pub record IsToComplete (m : Machine) (r : ℕ) (e : Entry) : Type 0 where
  pub lacks : lacks_replica r e ≡ true
  pub reserved : m.reserved e.identity r ≡ Some (slice_index m.cluster.up r)

-- its update is being committed: it owns the slot of each complete node, or has committed one
abbrev pub IsToCommit : Shape → CallId → Entry → UpdatePhase → Type 0
IsToCommit sh call e Staging = (r : ℕ) → IsCompleteOn e r → sh.owners r ≡ Some call
IsToCommit sh call e Committing = Unit {0}
IsToCommit sh call e phase = ⊥

-- its update is not being committed
abbrev pub IsUncommitted : UpdatePhase → Type 0
IsUncommitted Committing = ⊥
IsUncommitted phase = Unit {0}

-- it is so far at a checkpoint, which its node lacks till it is completed, and has from then on
abbrev pub IsCopiedSoFar : Machine → Shape → CallState → CopyState → Entry → CopyPhase → Type 0
IsCopiedSoFar m sh s c e phases.Reserved = IsToComplete m c.node e × (c.staging ≡ update_begun c.call e.identity)
IsCopiedSoFar m sh s c e phases.Staging = IsToComplete m c.node e × (is_all e.attributes ≡ true) × IsUncommitted c.staging.phase
IsCopiedSoFar m sh s c e (phases.PulledActive generation) = IsToComplete m c.node e × HasPulledActive s e generation
IsCopiedSoFar m sh s c e phases.PulledStaged = IsToComplete m c.node e × HasPulledStaged sh s c.staging e
IsCopiedSoFar m sh s c e phases.Committing = (is_all e.attributes ≡ true) × IsToCommit sh s.call e c.staging.phase × IsCompleteOn e c.node

-- a copying is at a checkpoint that was made and is not collocated, for which it keeps what this declares; where its updates are on all replicas, the
-- copying does one there
pub record IsCopyingAt (m : Machine) (shapes : ℕ → Shape) (s : CallState) (c : CopyState) (at : Copying) : Type 0 where
  pub ckpt : c.staging.ckpt ≡ at.ckpt
  pub kept : s.kept.ckpt ≡ Some at.ckpt
  pub made : WasMade m.cluster at.ckpt
  pub apart : IfSome (entry_of at.ckpt m.cluster.entries) (λ e. is_collocated e.attributes ≡ false)
  pub declares : IfSome (entry_of at.ckpt m.cluster.entries) (λ e. s.kept.declares ≡ Some e.attributes)
  pub update : (e : Entry) → entry_of at.ckpt m.cluster.entries ≡ Some e → is_all e.attributes ≡ true → IsUpdateIn m shapes s c.staging
  pub so_far : (e : Entry) → entry_of at.ckpt m.cluster.entries ≡ Some e → IsCopiedSoFar m (shapes at.ckpt) s c e at.phase

-- the copying of a node copies to it, and is at a checkpoint, or at none
pub record IsCopyIn (m : Machine) (shapes : ℕ → Shape) (s : CallState) (c : CopyState) : Type 0 where
  pub call : c.call ≡ s.call
  pub asks : asked s.op ≡ asking.Copy
  pub node : s.call.actor ≡ Node c.node
  pub within : c.node < nodes_max
  pub at : IfSome c.copying (IsCopyingAt m shapes s c)

-- a call in hand is where its steps have led it, by its driver
abbrev pub IsInPlace : Machine → (ℕ → Shape) → CallState → Driver → Type 0
IsInPlace m shapes s (drivers.Once x) = IsOnceAt m s x
IsInPlace m shapes s (drivers.Open o) = IsOpenIn m s o
IsInPlace m shapes s (drivers.Update u) = IsUpdateIn m shapes s u
IsInPlace m shapes s (drivers.Active a) = IsActiveIn m shapes s a
IsInPlace m shapes s (drivers.Sync u) = IsSyncBy m s u u.kind
IsInPlace m shapes s (drivers.Copy c) = IsCopyIn m shapes s c

-- a call in hand is so under its own name; its actor may ask for it, its number was given, it is built, what it asks for drives it, each but an Initialize
-- is live, and it is where its steps have led it
pub record IsInHand (m : Machine) (shapes : ℕ → Shape) (w : Who) (s : CallState) : Type 0 where
  pub whose : who s ≡ w
  pub asker : MayAsk s.call.actor (asked s.op)
  pub number : s.call.number < m.next s.call.actor
  pub built : IsBuilt s.op
  pub driven : IsDriven s
  pub live : is_enter (driver_of s) ≡ false → is_live m.cluster s.call ≡ true
  -- on the node where it was when it began
  pub home : is_enter (driver_of s) ≡ false → s.kept.node ≡ home_by s.call.actor m.cluster
  pub here : IsInPlace m shapes s (driver_of s)
