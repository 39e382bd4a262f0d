-- How a call holds a checkpoint, and what a node has that leads it from then on.
use Rattle.std.specs.Prelude.{◌≡◌, ℕ, List, Option, Some, None, IfSome, IsSomeAnd, is_some, false, ◌==◌, if◌then◌else◌, slice_index}
use Rattle.cluster_record.specs.declared.entries.Entry.{Entry}
use Rattle.node_core.specs.Changing.{taken_over}
use Rattle.replica.specs.Replicas.{Replica}
use Rattle.snap_copy.specs.Snapshots.{Snapshot}
use Rattle.ckpt_machine.specs.Nodes.{with_changed}
use Rattle.ckpt_machine.specs.Propagating.{IsPuttable}

-- the checkpoint is there, and no call holds it
abbrev pub HasFreeHold : Option Entry → Type 0
HasFreeHold e = IsSomeAnd e (λ e. e.hold ≡ None)

-- what a call has copied of a checkpoint, where this is held
abbrev pub copy_held : Option Entry → Option Snapshot → Option Snapshot
copy_held None copy = None
copy_held (Some e) copy = if is_some e.hold then copy else None

-- the replica that leads with what was held, where something was, and with this generation
abbrev pub leading : Option Snapshot → ℕ → Replica → Replica
leading None generation x = record x { generation = generation }
leading (Some s) generation x = taken_over generation s x

-- the nodes where one leads a checkpoint, which is there and for which it is complete
abbrev pub nodes_led : ℕ → ℕ → Option Snapshot → Option Entry → List (List Replica) → List (List Replica)
nodes_led k r held None nodes = nodes
nodes_led k r held (Some e) nodes = if slice_index e.complete r == 0 then nodes else with_changed k r (leading held e.generation) nodes

-- what that asks of the node's replica, where something was held
abbrev pub CanLead : ℕ → Option Snapshot → Option Replica → Option Entry → Type 0
CanLead r None x e = Unit {0}
CanLead r (Some s) x e = IfSome e (λ e. (slice_index e.complete r == 0) ≡ false → IsSomeAnd x (IsPuttable (Some s)))
