-- How the copying of a node comes to be in hand, and what it leaves on the node that comes to be complete.
use Rattle.std.specs.Prelude.{◌≡◌, ℕ, ◌-◌, ◌^◌, ◌<◌, List, length, Option, Some, None, IfSome, IsSomeAnd, false, ◌==◌, if◌then◌else◌, ℤ, slice_index}
use Rattle.ckpt_types.specs.declared.answers.Outcome.{Outcome}
use Rattle.ckpt_types.specs.declared.answers.Outcome.TheVariants.{NoMemory}
use Rattle.ckpt_types.specs.declared.identities.ActorName.TheVariants.{Node}
use Rattle.ckpt_types.specs.declared.identities.CallId.{CallId}
use Rattle.ckpt_types.specs.declared.identities.Who.TheVariants.{Actor}
use Rattle.ckpt_types.specs.declared.update.Update.TheVariants as updates
use Rattle.node_msgs.specs.declared.requests.Request.{Request}
use Rattle.node_msgs.specs.declared.requests.Request.TheVariants as requests
use Rattle.cluster_record.specs.declared.entries.Entry.{Entry}
use Rattle.node_core.specs.Changing.{taken_over}
use Rattle.replica.specs.Replicas.{Replica, staged}
use Rattle.snap_copy.specs.Snapshots.{Snapshot}
use Rattle.ckpt_machine.specs.Nodes.{with_changed}
use Rattle.ckpt_machine.specs.Propagating.{IsPuttable}
use Rattle.client_calls.specs.CopyHands.{copy_hand}
use Rattle.world_core.specs.declared.world.World.{World}
use Rattle.world_core.specs.HandsState.{set_at}

-- ---- a copying begins

-- it is in the place of its node, or was refused the memory for that
abbrev pub IsCopyPut : ℕ → CallId → Option Outcome → World → World → Type 0
IsCopyPut r call None old new =
    (r < length old.hands.nodes) × (new ≡ record old { hands = set_at old.hands (Actor (Node r)) (Some (copy_hand call)) })
IsCopyPut r call (Some end) old new = (end ≡ NoMemory) × (new ≡ old)

-- ---- a node comes to be complete

-- the replica with the slot of a copying, whose update changes nothing, where that has a moment
abbrev pub staged_at : CallId → Option ℤ → Replica → Replica
staged_at call None x = x
staged_at call (Some t) x = staged call updates.Nothing t x

-- the replica behind a completion: it has what was pulled, this generation, and that slot
abbrev pub copied_over : CallId → Option ℤ → ℕ → Snapshot → Replica → Replica
copied_over call moment generation s x = staged_at call moment (taken_over generation s x)

-- the nodes behind a completion, where one has pulled, and the checkpoint is there and the node complete for it
abbrev pub nodes_copied : ℕ → ℕ → CallId → Option ℤ → Option Snapshot → Option Entry → List (List Replica) → List (List Replica)
nodes_copied k r call moment (Some s) (Some e) nodes =
    if slice_index e.complete r == 0 then nodes else with_changed k r (copied_over call moment e.generation s) nodes
nodes_copied k r call moment s e nodes = nodes

-- what that asks of the snapshot and of the replica: nothing is staged on this and no marks stand, and the snapshot was taken for what it declares, with a
-- count that may rise where the slot has a moment
pub record CanTakeCopy (moment : Option ℤ) (s : Snapshot) (x : Replica) : Type 0 where
  pub takes : IsPuttable (Some s) x
  pub count : IfSome moment (λ t. s.count < 2 ^ 64 - 1)

-- the same of the node's replica, where there is something to take over
abbrev pub CanCopy : ℕ → Option ℤ → Option Snapshot → Option Replica → Option Entry → Type 0
CanCopy r moment None x e = Unit {0}
CanCopy r moment (Some s) x e = IfSome e (λ e. (slice_index e.complete r == 0) ≡ false → IsSomeAnd x (CanTakeCopy moment s))

-- a copying reserves in a step of its own; whatever else it asks goes to a replica
abbrev pub IsNoReservation : Request → Type 0
IsNoReservation (requests.Reserve k) = ⊥
IsNoReservation request = Unit {0}
