-- The state of the checkpoint machine.
use Rattle.std.specs.Prelude.{ℕ, List, Option, None, false, ℤ}
use Rattle.ckpt_types.specs.declared.identities.ActorName.{ActorName}
use Rattle.ckpt_types.specs.declared.identities.CallId.{CallId}
use Rattle.ckpt_types.specs.declared.identities.Who.{Who}
use Rattle.ckpt_types.specs.declared.operation.Op.{Op}
use Rattle.ckpt_types.specs.OpWord.{word_of_op, stepped_as}
use Rattle.ckpt_types.specs.declared.update.Update.{Update}
use Rattle.ckpt_types.specs.Sections.{Section}
use Rattle.call_dispatch.specs.PendingCalls.{PendingCalls, no_pending}
use Rattle.client_handles.specs.ClientState.{ClientState, new_client}
use Rattle.weak_marks.specs.Marks.{Marked}
use Rattle.cluster_record.specs.RecordState.{RecordState, empty_record}
use Rattle.cluster_record.specs.StepDone.{StepDone}
use Rattle.ckpt_machine.specs.Drivers.{Driver}
use Rattle.ckpt_machine.specs.Driving.{Kept}

-- an update that a replica has taken: whose it is, and at which moment; or a weak write that was cut short after so many elements
pub data Effect : Type 0 where
  Applied : CallId → Update → ℤ → Effect
  Broken : CallId → Update → ℤ → ℕ → Effect

-- a staged update: the call that owns it now, and the call whose update it is
pub record Staged : Type 0 where
  pub owner : CallId
  pub origin : CallId
  pub update : Update
  pub moment : ℤ

-- the replica of a checkpoint on a complete node; its count of updates is the number of its effects, and its marks are those of the weak write that is
-- under way on it
pub record ReplicaState : Type 0 where
  pub sections : List Section
  pub effects : List Effect
  pub generation : ℕ
  pub slot : Option Staged
  pub marks : Option Marked

-- a copy of a replica
pub record Snapshot : Type 0 where
  pub sections : List Section
  pub effects : List Effect
  pub generation : ℕ

-- a call that is begun and not ended: what it kept at its beginning, what drove it then, its steps, the newest first, the identifier of the section that
-- its commits have made, and the snapshot in its hand
pub record CallState : Type 0 where
  pub call : CallId
  pub op : Op
  pub kept : Kept
  pub begun : Driver
  pub steps : List StepDone
  pub created : Option (List ℕ)
  pub snapshot : Option Snapshot

-- by whose name the call is stepped: an asynchronous one by its own, any other by its actor's
abbrev pub who : CallState → Who
who s = stepped_as s.call (word_of_op s.op)

-- THE STATE of the cluster
pub record Machine : Type 0 where
  pub cluster : RecordState
  -- by checkpoint and node: the replicas on complete nodes, and the incarnations of nodes that have reserved and are not complete
  pub replicas : ℕ → ℕ → Option ReplicaState
  pub reserved : ℕ → ℕ → Option ℕ
  -- the background snapshot of each checkpoint
  pub snapshots : ℕ → Option Snapshot
  -- what each client keeps, the very value that its tables show, and its asynchronous calls that are not dispatched; a node has none of these
  pub tables : ActorName → ClientState
  pub pending : ActorName → PendingCalls
  -- the number that each client's and node's next call gets
  pub next : ActorName → ℕ
  -- the calls in hand: one of each client and node, and the asynchronous ones that have not ended
  pub in_hand : Who → Option CallState

-- no callback is registered, no handle was opened, no iteration begun, and no place set
abbrev pub no_tables : ClientState
no_tables = new_client (record { opens = false; syncs = false })

-- no node is up, and nothing has happened
abbrev pub empty_cluster : Machine
empty_cluster = record {
  cluster = empty_record;
  replicas = λ k r. None;
  reserved = λ k r. None;
  snapshots = λ k. None;
  tables = λ a. no_tables;
  pending = λ a. no_pending;
  next = λ a. 1;
  in_hand = λ w. None;
}
