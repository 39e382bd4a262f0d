-- What holds in every state of a run, of any number of nodes up to eight and of calls in hand; from it follow the guards, and all that the code relies on.
use Rattle.std.specs.Prelude.{◌≡◌, ◌⊎◌, ℕ, ◌+◌, ◌<◌, ◌≤◌, [], ◌++◌, List, length, map, Option, Some, None, IsSome, IsSomeAnd, IfSome, Contains, true, slice_index}
use Rattle.ckpt_types.specs.declared.identities.ActorName.{ActorName}
use Rattle.ckpt_types.specs.declared.identities.CallId.{CallId}
use Rattle.ckpt_types.specs.declared.identities.Who.{Who}
use Rattle.ckpt_types.specs.Limits.{checkpoints_max, handles_max, nodes_max}
use Rattle.call_dispatch.specs.PendingCalls.{PendingCalls, find_async}
use Rattle.ckpt_types.specs.Asks.{invocation_of}
use Rattle.ckpt_types.specs.OpWord.{is_async, word_of_op}
use Rattle.call_dispatch.specs.declared.async_call.AsyncCall.{AsyncCall}
use Rattle.call_dispatch.specs.declared.async_call.EndedCall.{EndedCall}
use Rattle.cluster_record.specs.Makings.{makings_of}
use Rattle.client_handles.specs.declared.handle_view.HandleView.{HandleView}
use Rattle.client_handles.specs.ClientState.{ClientState, NoneLent}
use Rattle.cluster_record.specs.declared.calls.Making.{Making}
use Rattle.cluster_record.specs.DueOpen.{OpenState}
use Rattle.cluster_record.specs.declared.clients.LiveClient.{LiveClient}
use Rattle.cluster_record.specs.declared.entries.Entry.{Entry}
use Rattle.cluster_record.specs.RecordState.{RecordState, entry_of, no_nodes, is_up, is_live_client, home_of, client_key}
use Rattle.ckpt_machine.specs.Machine.{Machine, ReplicaState, CallState, who}
use Rattle.ckpt_machine.specs.After.{kind_of}
use Rattle.ckpt_machine.specs.Due.{driver_of}
use Rattle.cluster_record.specs.Calls.{IsClient, number_of}
use Rattle.cluster_record.specs.Placement.{is_collocated}
use Rattle.cluster_record.specs.Identities.{IdentitiesRise, AllUpTo}
use Rattle.cluster_record.specs.DueCopy.{lacks_replica}
use Rattle.ckpt_types.specs.declared.identities.ActorName.TheVariants.{Client, Node}
use Rattle.cluster_record.specs.Places.{find_key}
use Rattle.ckpt_machine.specs.Shape.{Shape, IsCompleteOn, IsSpread}
use Rattle.ckpt_machine.specs.Drivers as drivers
use Rattle.ckpt_machine.specs.Entries.{AllStay, WasMade, IsMakingEntry}
use Rattle.ckpt_machine.specs.InHand.{IsInHand}

-- the call is in hand, an open that is making the checkpoint
pub record IsMaker (m : Machine) (k : ℕ) (call : CallId) : Type 0 where
  pub state : CallState
  pub in_hand : m.in_hand (who state) ≡ Some state
  pub call_is : state.call ≡ call
  pub driver : OpenState
  pub driver_is : driver_of state ≡ drivers.Open driver
  pub making : Making
  pub making_is : driver.making ≡ Some making
  pub ckpt : making.ckpt ≡ k

-- a checkpoint is made and has its replicas, or is in the making by this call
abbrev pub IsGoodIn : Machine → ℕ → Shape → Entry → Option CallId → Type 0
IsGoodIn m k sh e None = IsSpread m k sh e
IsGoodIn m k sh e (Some call) = IsMakingEntry e × IsMaker m k call

-- one that is live entered by a call that was begun, on a node that is up
abbrev pub IsGoodClient : (ActorName → ℕ) → RecordState → ℕ → LiveClient → Type 0
IsGoodClient next R c live = (live.initialize < next (Client c)) × (is_up live.node R ≡ true)

-- a handle is of a client that is live, and of a checkpoint that was made, with the creation flags that this has; a collocated one is complete on the
-- client's node
pub record IsGoodHandle (R : RecordState) (a : ActorName) (h : HandleView) : Type 0 where
  pub client : IsClient a
  pub live : is_live_client (number_of a) R ≡ true
  pub made : WasMade R h.id
  pub placed : IfSome (entry_of h.id R.entries) (λ e. is_collocated e.attributes ≡ true → IsCompleteOn e (home_of (number_of a) R))
  pub flags : IfSome (entry_of h.id R.entries) (λ e. h.creation_flags ≡ e.attributes.creation_flags)

-- a replica on a node may have this generation: no higher one than its checkpoint, and the same on the active
pub record IsOfGeneration (e : Entry) (r generation : ℕ) : Type 0 where
  pub within : generation ≤ e.generation
  pub led : e.active ≡ Some r → generation ≡ e.generation

-- the checkpoint is there and complete on the node, where its replica may have this generation
abbrev pub IsCompleteAt : RecordState → ℕ → ℕ → ℕ → Type 0
IsCompleteAt R k r generation = IsSomeAnd (entry_of k R.entries) (λ e. IsCompleteOn e r × IsOfGeneration e r generation)

-- those that are under way, and those that have ended
abbrev pub calls_of : PendingCalls → List AsyncCall
calls_of p = p.unfinished ++ map (λ (ended : EndedCall). ended.asked) p.finished

-- an asynchronous call that is not dispatched is of its actor, which has begun it
pub record IsBegunBy (next : ActorName → ℕ) (a : ActorName) (c : AsyncCall) : Type 0 where
  pub actor : c.call.actor ≡ a
  pub number : c.call.number < next a

-- it is kept of this call, as its operation asks
pub record IsKeptOf (s : CallState) (c : AsyncCall) : Type 0 where
  pub call : c.call ≡ s.call
  pub kind : c.kind ≡ kind_of s.op
  pub invocation : c.invocation ≡ invocation_of s.op

-- no call is in hand under two names; what is not dispatched of an actor are calls of its own, with numbers that it has given; and each asynchronous
-- call that is in hand is one of them, under way
pub record AreCalls (in_hand : Who → Option CallState) (pending : ActorName → PendingCalls) (next : ActorName → ℕ) : Type 0 where
  pub one_name : (w v : Who) (s t : CallState) → in_hand w ≡ Some s → in_hand v ≡ Some t → s.call ≡ t.call → w ≡ v
  pub begun : (a : ActorName) (c : AsyncCall) → Contains (calls_of (pending a)) c → IsBegunBy next a c
  pub kept : (w : Who) (s : CallState) → in_hand w ≡ Some s → is_async (word_of_op s.op) ≡ true
      → IsSomeAnd (find_async s.call (pending s.call.actor).unfinished) (IsKeptOf s)

-- a client has no more handles than it may have, with one for each checkpoint that it is making
abbrev pub HasPlaces : (ActorName → ClientState) → List Entry → Type 0
HasPlaces tables entries = (c : ℕ) → length (tables (Client c)).handles + makings_of c entries ≤ handles_max

-- a reservation is for a checkpoint in the making, or of a node that is up with this incarnation and lacks the checkpoint
abbrev pub IsReservedFor : RecordState → ℕ → ℕ → Entry → Type 0
IsReservedFor R r n e = IsSome e.making ⊎ ((lacks_replica r e ≡ true) × (is_up r R ≡ true) × (n ≡ slice_index R.up r))

-- the record keeps both of each node, and none is up in an incarnation beyond its last; its calls are numbered from 1, and the next one that it may begin
-- is of its present life
pub record AreIncarnations (next : ActorName → ℕ) (up first_calls last_incarnations : List ℕ) : Type 0 where
  pub nodes : length last_incarnations ≡ nodes_max
  pub first_nodes : length first_calls ≡ nodes_max
  pub no_later : (r : ℕ) → slice_index up r ≤ slice_index last_incarnations r
  pub from_one : (r : ℕ) → 0 < next (Node r)
  pub present : (r : ℕ) → slice_index first_calls r ≤ next (Node r)

-- what holds in every state of a run, where the checkpoints have these shapes
pub record InvariantIn (shapes : ℕ → Shape) (m : Machine) : Type 0 where
  -- before the first nodes come up none is
  pub up : length m.cluster.up ≡ nodes_max
  pub first_up : m.cluster.last_incarnations ≡ no_nodes → m.cluster.up ≡ no_nodes
  pub incarnations : AreIncarnations m.next m.cluster.up m.cluster.first_calls m.cluster.last_incarnations
  pub none_live : m.cluster.up ≡ no_nodes → m.cluster.clients ≡ []
  pub rises : IdentitiesRise m.cluster.entries
  pub up_to : AllUpTo m.cluster.last_identity m.cluster.entries
  pub few : length m.cluster.entries ≤ checkpoints_max
  pub swept : AllStay m.cluster.moment m.cluster.entries
  pub entries : (k : ℕ) (e : Entry) → entry_of k m.cluster.entries ≡ Some e → IsGoodIn m k (shapes k) e e.making
  -- a replica is on a complete node of a checkpoint that is there, and has a generation that it may have
  pub replicas : (k r : ℕ) (x : ReplicaState) → m.replicas k r ≡ Some x → IsCompleteAt m.cluster k r x.generation
  -- what is reserved is for a checkpoint that is in the making, or for one that a node lacks which has come back, in its present incarnation
  pub reserves : (k r n : ℕ) → m.reserved k r ≡ Some n → IsSomeAnd (entry_of k m.cluster.entries) (IsReservedFor m.cluster r n)
  pub handles : (a : ActorName) (h : HandleView) → Contains (m.tables a).handles h → IsGoodHandle m.cluster a h
  -- no iteration is lent between two steps
  pub rest : (a : ActorName) → NoneLent (m.tables a)
  pub clients : (c : ℕ) → IfSome (find_key client_key c m.cluster.clients) (IsGoodClient m.next m.cluster c)
  pub places : HasPlaces m.tables m.cluster.entries
  pub hands : (w : Who) (s : CallState) → m.in_hand w ≡ Some s → IsInHand m shapes w s
  pub calls : AreCalls m.in_hand m.pending m.next

-- what holds in every state of a run
pub record Invariant (m : Machine) : Type 0 where
  pub shapes : ℕ → Shape
  pub holds : InvariantIn shapes m
