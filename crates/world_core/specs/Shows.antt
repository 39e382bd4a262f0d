-- How the world shows the machine's state.
use Rattle.std.specs.Prelude.{◌≡◌, ℕ, ◌-◌, ◌^◌, ◌<◌, List, Option, Some, None, true, slice_get, slice_index}
use Rattle.ckpt_types.specs.declared.identities.ActorName.{ActorName}
use Rattle.ckpt_types.specs.declared.identities.ActorName.TheVariants.{Client, Node}
use Rattle.ckpt_types.specs.declared.identities.CallId.{CallId}
use Rattle.ckpt_types.specs.declared.identities.Who.{Who}
use Rattle.call_dispatch.specs.PendingCalls.{PendingCalls, no_pending}
use Rattle.world_core.specs.HandsState.{HandsState, hand_at}
use Rattle.run_labels.specs.declared.labels.Label.{Label}
use Rattle.client_handles.specs.ClientState.{ClientState}
use Rattle.client_calls.specs.declared.in_hand.InHand.{InHand}
use Rattle.cluster_record.specs.declared.entries.Entry.{Entry}
use Rattle.ckpt_machine.specs.Drivers.{Driver}
use Rattle.ckpt_machine.specs.Drivers as drivers
use Rattle.cluster_record.specs.declared.calls.UpdatePhase.TheVariants.{Committing}
use Rattle.ckpt_types.specs.declared.operation.Op.{Op}
use Rattle.node_core.specs.Serving.{id_told}
use Rattle.client_calls.specs.MadeIds.{made_told}
use Rattle.client_calls.specs.UpdateSteps.{is_creation}
use Rattle.replica.specs.Replicas.{Replica}
use Rattle.world_core.specs.declared.world.World.{World}
use Rattle.cluster_record.specs.RecordState.{RecordState, entry_of}
use Rattle.client_calls.specs.TableState.{TableState, next_in}
use Rattle.world_core.specs.TablesState.{kept_by, pending_by}
use Rattle.world_core.specs.declared.snapshots.Background.{Background}
use Rattle.world_core.specs.Backgrounds.{pulled_in, HaveRooms}
use Rattle.ckpt_machine.specs.Holding.{HoldsOnlyWhatStands}
use Rattle.world_core.specs.LiveRooms.{LiveHaveRoom}
use Rattle.cluster_record.specs.StepDone.{StepDone}
use Rattle.ckpt_machine.specs.Driving.{Kept, driver_state}
use Rattle.ckpt_machine.specs.Facts.{Facts}
use Rattle.ckpt_types.specs.Asks.{asked, update_of}
use Rattle.client_calls.specs.HandRooms.{room_for}
use Rattle.ckpt_machine.specs.Machine.{Machine, Effect, CallState, no_tables}
use Rattle.ckpt_machine.specs.Machine as snapshots
use Rattle.ckpt_machine.specs.After.{after, snapshot_under}
use Rattle.ckpt_machine.specs.Due.{IsDue}
use Rattle.ckpt_machine.specs.Shown.{FitsCopy, FitsReplica, FitsSnapshot, IsRoomToCopy, complete_replica, reserved_in, shown_copy, shown_replica, shown_snapshot}

-- ---- what the machine keeps and the code does not

-- what a call kept at its beginning, and what drove it then
pub record Beginning : Type 0 where
  pub kept : Kept
  pub driver : Driver

-- the effects and the origins of replicas, the effects of snapshots, and the beginning and the steps of each call in hand, with the identifier that its
-- commits have made, and the effects that it has pulled
pub record History : Type 0 where
  -- by checkpoint and node
  pub effects : ℕ → ℕ → List Effect
  pub origins : ℕ → ℕ → CallId
  -- by checkpoint, for its snapshot
  pub copied : ℕ → List Effect
  -- by the name under which a call is in hand
  pub beginnings : Who → Beginning
  pub steps : Who → List StepDone
  pub created : Who → Option (List ℕ)
  pub pulled : Who → Option (List Effect)

-- ---- the background snapshots

-- what was pulled last of a checkpoint that is there
abbrev pub snapshot_shown : RecordState → List Background → ℕ → List Effect → Option snapshots.Snapshot
snapshot_shown R backgrounds k effects = snapshot_under (entry_of k R.entries) (shown_snapshot effects (pulled_in backgrounds k))

-- ---- the clients

-- what an actor keeps; a node keeps nothing
abbrev pub tables_of : List TableState → ActorName → ClientState
tables_of tables (Client c) = kept_by tables c
tables_of tables (Node r) = no_tables

-- the asynchronous calls of an actor that are not dispatched; a node has none
abbrev pub pending_of : List TableState → ActorName → PendingCalls
pending_of tables (Client c) = pending_by tables c
pending_of tables (Node r) = no_pending

-- the number of a node's next call; 1 of what is none of the nodes
abbrev pub number_in : Option ℕ → ℕ
number_in None = 1
number_in (Some n) = n

-- the number of an actor's next call
abbrev pub next_of : World → ActorName → ℕ
next_of w (Client c) = next_in (slice_get w.tables c)
next_of w (Node r) = number_in (slice_get w.numbers r)

-- ---- the calls in hand

-- a call in hand as the machine has it: with what it kept of its beginning, with its steps, and with what it has pulled
abbrev pub shown_hand : Beginning → List StepDone → Option (List ℕ) → Option (List Effect) → Option InHand → Option CallState
shown_hand began steps created pulled None = None
shown_hand began steps created pulled (Some h) = Some (record {
  call = h.call;
  op = h.op;
  kept = began.kept;
  begun = began.driver;
  steps = steps;
  created = created;
  snapshot = shown_copy pulled h.snapshot;
})

-- the call in hand under a name, as the machine has it
abbrev pub hand_of : History → HandsState → Who → Option CallState
hand_of h hands v = shown_hand (h.beginnings v) (h.steps v) (h.created v) (h.pulled v) (hand_at hands v)

-- ---- the machine's state, as the world shows it with a history

-- the state of the machine that a world and a history make together
abbrev pub machine_of : World → History → Machine
machine_of w h = record {
  cluster = w.cluster;
  replicas = λ k r. shown_replica (h.effects k r) (h.origins k r) (complete_replica w.cluster w.nodes k r);
  reserved = reserved_in w.cluster w.nodes;
  snapshots = λ k. snapshot_shown w.cluster w.snapshots k (h.copied k);
  tables = tables_of w.tables;
  pending = pending_of w.tables;
  next = next_of w;
  in_hand = hand_of h w.hands;
}

-- what drives the call has committed the call's own update
abbrev pub HasCommitted : Driver → Type 0
HasCommitted (drivers.Update u) = u.phase ≡ Committing
HasCommitted driver = ⊥

-- a creation that has committed keeps the identifier that its commits have made
abbrev pub KeepsMade : Op → Driver → Option (List ℕ) → Option (List (List ℕ)) → Type 0
KeepsMade op x created made = HasCommitted x → is_creation (update_of op) ≡ true → made_told made ≡ id_told created

-- a call is where its steps have led it, and has the room that it took
pub record IsWhereLed (began : Beginning) (steps : List StepDone) (created : Option (List ℕ)) (pulled : Option (List Effect)) (h : InHand) : Type 0 where
  pub driver : h.driver ≡ driver_state began.driver steps
  pub iteration : h.iteration ≡ room_for (asked h.op) began.kept.room
  pub room : IsRoomToCopy (asked h.op) began.kept.declares h.snapshot
  pub copy : FitsCopy pulled h.snapshot
  pub made : KeepsMade h.op h.driver created h.made

-- so it is where one is in hand
abbrev pub FitsHand : Beginning → List StepDone → Option (List ℕ) → Option (List Effect) → Option InHand → Type 0
FitsHand began steps created pulled None = Unit {0}
FitsHand began steps created pulled (Some h) = IsWhereLed began steps created pulled h

-- the history fits the world: replicas and snapshots have as many effects as they count, and calls are where their steps have led them
pub record HistoryFits (w : World) (h : History) : Type 0 where
  pub replicas : (k r : ℕ) → FitsReplica k (entry_of k w.cluster.entries) (h.effects k r) (complete_replica w.cluster w.nodes k r)
  pub copies : (k : ℕ) → FitsSnapshot (h.copied k) (pulled_in w.snapshots k)
  pub hands : (v : Who) → FitsHand (h.beginnings v) (h.steps v) (h.created v) (h.pulled v) (hand_at w.hands v)

-- the machine's state is the world's, with some history that fits; the nodes have no other replicas, and the checkpoints have the room for their
-- snapshots, and the live clients theirs
pub record Shows (w : World) (m : Machine) : Type 0 where
  pub history : History
  pub same : m ≡ machine_of w history
  pub fits : HistoryFits w history
  pub holds : HoldsOnlyWhatStands w.cluster w.nodes
  pub keeps : HaveRooms w.cluster.entries w.snapshots
  pub rooms : LiveHaveRoom w.cluster w.tables

-- the world shows a state that has the facts
pub record IsShown (w : World) : Type 0 where
  pub state : Machine
  pub shows : Shows w state
  pub facts : Facts state

-- the label is the due one with its due answer in each state with the facts that the world showed, and the world shows the state after it
pub record Does (old new : World) (label : Label) : Type 0 where
  pub due_is : (m : Machine) → Shows old m → Facts m → IsDue m label
  pub shows : (m : Machine) → Shows old m → Facts m → Shows new (after m label)

-- no count is at its end
pub record HasNumbersLeft (w : World) : Type 0 where
  pub next : (c : ℕ) → next_in (slice_get w.tables c) < 2 ^ 32 - 1
  pub copies : (r : ℕ) → number_in (slice_get w.numbers r) < 2 ^ 32 - 1
  pub handles : (c : ℕ) → (kept_by w.tables c).last_number < 2 ^ 32 - 1
  pub iterations : (c : ℕ) → (kept_by w.tables c).last_iteration < 2 ^ 32 - 1
  pub updates : (k r : ℕ) (x : Replica) → complete_replica w.cluster w.nodes k r ≡ Some x → x.count < 2 ^ 64 - 1
  pub identity : w.cluster.last_identity < 2 ^ 32 - 1
  pub generations : (k : ℕ) (e : Entry) → entry_of k w.cluster.entries ≡ Some e → e.generation < 2 ^ 64 - 1
  pub references : (k : ℕ) (e : Entry) (c : ℕ) → entry_of k w.cluster.entries ≡ Some e → slice_index e.references c < 2 ^ 32 - 1
  pub incarnations : (r : ℕ) → slice_index w.cluster.last_incarnations r < 2 ^ 32 - 1
