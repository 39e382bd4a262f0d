-- What a pull and a put make of the nodes, and what they tell.
use Rattle.std.specs.Prelude.{◌≡◌, ℕ, List, Option, Some, None, Result, Ok, Err, IfSome, IsSomeAnd, Bool, true, not, ◌||◌, ◌==◌, if◌then◌else◌, slice_index}
use Rattle.run_labels.specs.declared.labels.PullReply.{PullReply}
use Rattle.run_labels.specs.declared.labels.PullReply.TheVariants as pulls
use Rattle.run_labels.specs.declared.labels.PutReply.{PutReply}
use Rattle.run_labels.specs.declared.labels.PutReply.TheVariants as puts
use Rattle.weak_marks.specs.Marks.{call_of}
use Rattle.cluster_record.specs.declared.entries.Entry.{Entry}
use Rattle.cluster_record.specs.RecordState.{RecordState, entry_of}
use Rattle.snap_copy.specs.Snapshots.{Snapshot}
use Rattle.replica.specs.declared.replica.Older.{Older}
use Rattle.replica.specs.Replicas.{Replica, install_answer, installed}
use Rattle.ckpt_machine.specs.Listing.{is_active}
use Rattle.cluster_record.specs.Placement.{is_all}
use Rattle.ckpt_machine.specs.Propagation.{on_node, source_of, pull_unless}
use Rattle.ckpt_machine.specs.Nodes.{with_changed}
use Rattle.ckpt_machine.specs.Shown.{complete_replica}

-- ---- a pull

-- the replica that it takes a snapshot of
abbrev pub source_in : RecordState → List (List Replica) → ℕ → Option Replica
source_in R nodes k = on_node (complete_replica R nodes k) (source_of (entry_of k R.entries))

-- what it tells of the replica
abbrev pub pull_told : Option Replica → PullReply
pull_told None = pulls.Nothing
pull_told (Some x) = pull_unless (call_of x.marks) x.count

-- ---- a put

-- a put may be at this node: it is complete, and not the active's, and updates go to the active alone
abbrev pub takes_puts : Entry → ℕ → Bool
takes_puts e r = not (slice_index e.complete r == 0 || is_all e.attributes || is_active e.active r)

-- what the replica answered, or the count of the snapshot
abbrev pub install_told : Result (Unit {0}) Older → ℕ → PutReply
install_told (Ok done) count = puts.Ok count
install_told (Err older) count = puts.Old older.generation older.count

-- a snapshot of another generation than the checkpoint is stale
abbrev pub snapshot_told : ℕ → Snapshot → Option Replica → PutReply
snapshot_told present s None = puts.Nothing
snapshot_told present s (Some x) = if s.generation == present then install_told (install_answer x s) s.count else puts.Stale s.generation present

-- what it tells of the snapshot and the replica, at a node that takes puts
abbrev pub pulled_told : ℕ → Option Snapshot → Option Replica → PutReply
pulled_told present None x = puts.Nothing
pulled_told present (Some s) x = snapshot_told present s x

-- what it tells at any node
abbrev pub put_told : Option Entry → ℕ → Option Snapshot → Option Replica → PutReply
put_told None r s x = puts.Nothing
put_told (Some e) r s x = if takes_puts e r then pulled_told e.generation s x else puts.Nothing

-- the nodes behind it
abbrev pub nodes_installed : ℕ → ℕ → ℕ → Option Snapshot → List (List Replica) → List (List Replica)
nodes_installed k r present None nodes = nodes
nodes_installed k r present (Some s) nodes = if s.generation == present then with_changed k r (installed s) nodes else nodes

-- at any node
abbrev pub nodes_put : ℕ → ℕ → Option Entry → Option Snapshot → List (List Replica) → List (List Replica)
nodes_put k r None s nodes = nodes
nodes_put k r (Some e) s nodes = if takes_puts e r then nodes_installed k r e.generation s nodes else nodes

-- nothing is staged on the replica and no marks stand, and the snapshot was taken for what it declares
pub record IsPuttable (s : Option Snapshot) (x : Replica) : Type 0 where
  pub free : x.slot ≡ None
  pub unmarked : x.marks ≡ None
  pub declared : IfSome s (λ s. s.attributes ≡ x.attributes)

-- where a node takes puts, its replica is there, and one may be put onto it
abbrev pub CanPut : Option Entry → ℕ → Option Snapshot → Option Replica → Type 0
CanPut None r s x = Unit {0}
CanPut (Some e) r s x = takes_puts e r ≡ true → IsSomeAnd x (IsPuttable s)
