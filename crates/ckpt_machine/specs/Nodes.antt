-- The nodes of a world, each by its number.
use Rattle.std.specs.Prelude.{◌≡◌, ℕ, List, length, map, Option, Some, None, slice_get, slice_set, if◌then◌else◌, filter}
use Rattle.ckpt_types.specs.Limits.{nodes_max}
use Rattle.node_msgs.specs.declared.replies.Reply.{Reply}
use Rattle.node_msgs.specs.declared.requests.Request.{Request}
use Rattle.cluster_record.specs.declared.entries.Entry.{Entry}
use Rattle.cluster_record.specs.Placement.{adds}
use Rattle.cluster_record.specs.Places.{find_key, change_key, list_or}
use Rattle.cluster_record.specs.RecordState.{RecordState}
use Rattle.replica.specs.Replicas.{Replica}
use Rattle.node_core.specs.Changing.{added_for}
use Rattle.node_core.specs.Failing.{node_left}
use Rattle.node_core.specs.Nodes.{NodeState, replica_key, replicas_after, seen_for, is_there}
use Rattle.node_core.specs.Payloads.{Payload}
use Rattle.node_core.specs.Seen.{entry_seen}
use Rattle.ckpt_machine.specs.ByNumber.{each_by_number}

-- the node of a number
abbrev pub node_at : List (List Replica) → ℕ → NodeState
node_at nodes r = record { number = r; replicas = list_or (slice_get nodes r) }

-- the replica of a checkpoint on a node, complete or reserved
abbrev pub replica_in : List (List Replica) → ℕ → ℕ → Option Replica
replica_in nodes k r = find_key replica_key k (list_or (slice_get nodes r))

-- the nodes after a request to one of them, which it answered so
abbrev pub nodes_after : RecordState → List (List Replica) → ℕ → Request → Payload → Reply → List (List Replica)
nodes_after R nodes r request p reply = slice_set nodes r (replicas_after (seen_for R (node_at nodes r) request) (node_at nodes r) request p reply)

-- the nodes with the replica of a checkpoint on one of them changed
abbrev pub with_changed : ℕ → ℕ → (Replica → Replica) → List (List Replica) → List (List Replica)
with_changed k r change nodes = slice_set nodes r (change_key replica_key k change (list_or (slice_get nodes r)))

-- the nodes with a replica more on one of them, as a checkpoint that is there was made, with its generation
abbrev pub with_added : Entry → ℕ → List (List Replica) → List (List Replica)
with_added e r nodes = slice_set nodes r (added_for (entry_seen r (Some e)) e.identity e.generation (list_or (slice_get nodes r)))

-- the nodes behind an open from one of them, of a checkpoint that is there or not: a replica more, where it adds one
abbrev pub with_opened : Option Entry → ℕ → List (List Replica) → List (List Replica)
with_opened None r nodes = nodes
with_opened (Some e) r nodes = if adds e.attributes r e.complete then with_added e r nodes else nodes

-- ---- how they are kept

-- their replicas, from n0 on
abbrev pub nodes_shown : List NodeState → List (List Replica)
nodes_shown nodes = map (λ n. n.replicas) nodes

-- eight nodes, each at the place of its number
pub record StandByNumber (nodes : List NodeState) : Type 0 where
  pub eight : length nodes ≡ nodes_max
  pub numbers : (r : ℕ) (n : NodeState) → slice_get nodes r ≡ Some n → n.number ≡ r

-- ---- freed of what is gone

-- on each node, those whose checkpoint has an entry
abbrev pub freed : List Entry → List (List Replica) → List (List Replica)
freed entries nodes = map (filter (is_there entries)) nodes

-- ---- what the failure of a node leaves

-- of the replicas on the node of a number, by the record behind the failure
abbrev pub left_on_node : RecordState → ℕ → ℕ → List Replica → List Replica
left_on_node R failed n xs = (node_left R failed (record { number = n; replicas = xs })).replicas

-- what the failure of a node leaves of all of them, by the record behind it
abbrev pub nodes_left : RecordState → ℕ → List (List Replica) → List (List Replica)
nodes_left R failed nodes = each_by_number (left_on_node R failed) 0 nodes
