-- A node with its replicas, and what a request and a record without some checkpoints make of it.
use Rattle.std.specs.Prelude.{◌≡◌, ◌⊎◌, ℕ, List, [], ◌∷◌, ◌++◌, Option, Some, None, Bool, true, false, if◌then◌else◌, filter, is_some}
use Rattle.ckpt_types.specs.declared.answers.Answer.TheVariants as answers
use Rattle.node_msgs.specs.declared.replies.Reply.{Reply}
use Rattle.node_msgs.specs.declared.replies.Reply.TheVariants as replies
use Rattle.node_msgs.specs.declared.requests.Request.{Request}
use Rattle.node_msgs.specs.declared.requests.Request.TheVariants as requests
use Rattle.node_msgs.specs.Requests.{ckpt_of}
use Rattle.cluster_record.specs.declared.entries.Entry.{Entry}
use Rattle.cluster_record.specs.Places.{find_key, change_key}
use Rattle.cluster_record.specs.RecordState.{RecordState, entry_of}
use Rattle.replica.specs.Replicas.{Replica, opened_replica}
use Rattle.node_core.specs.Payloads.{Payload}
use Rattle.node_core.specs.Seen.{EntrySeen, RecordSeen, record_seen, is_complete}
use Rattle.node_core.specs.Serving.{reply_at, replica_after}

-- its number, and its replicas, complete or reserved
pub record NodeState : Type 0 where
  pub number : ℕ
  pub replicas : List Replica

-- a replica is found by its checkpoint
abbrev pub replica_key : Replica → ℕ
replica_key x = x.ckpt

-- a replica, where the node is complete for its checkpoint
abbrev pub where_seen : Bool → Option Replica → Option Replica
where_seen true x = x
where_seen false x = None

-- what a step about a checkpoint at the node sees of the record
abbrev pub seen_from : RecordState → NodeState → ℕ → RecordSeen
seen_from R n k = record_seen R k n.number

-- the replica with which the node serves a checkpoint: by what it sees of the record alone it is complete for that
abbrev pub replica_served : RecordSeen → NodeState → ℕ → Option Replica
replica_served seen n k = where_seen (is_complete seen) (find_key replica_key k n.replicas)

-- what a request to the node sees of the record
abbrev pub seen_for : RecordState → NodeState → Request → RecordSeen
seen_for R n request = seen_from R n (ckpt_of request)

-- the replica with which the node serves a request
abbrev pub served_for : RecordState → NodeState → Request → Option Replica
served_for R n request = replica_served (seen_for R n request) n (ckpt_of request)

-- ---- what it answers

-- a reservation that stands is done; one that is to be made is done, or is refused the memory
abbrev pub MayReserve : Bool → Reply → Type 0
MayReserve true reply = reply ≡ replies.Done answers.Nothing
MayReserve false reply = (reply ≡ replies.Done answers.Nothing) ⊎ (reply ≡ replies.NoMemory)

-- a reservation may be refused the memory; all else is the answer of the one replica
abbrev pub MayReply : RecordSeen → NodeState → Request → Payload → Reply → Type 0
MayReply seen n (requests.Reserve k) p reply = MayReserve (is_some (find_key replica_key k n.replicas)) reply
MayReply seen n request p reply = reply ≡ reply_at request p seen (replica_served seen n (ckpt_of request))

-- ---- what becomes of it

-- one replica more, unless there is one of its checkpoint
abbrev pub with_reserved : Option Replica → Replica → List Replica → List Replica
with_reserved None new xs = xs ++ new ∷ []
with_reserved (Some x) new xs = xs

-- the replica of a checkpoint that is there, as it was made; what is reserved already stays
abbrev pub reserved_for : Option EntrySeen → ℕ → List Replica → List Replica
reserved_for None k xs = xs
reserved_for (Some e) k xs = with_reserved (find_key replica_key k xs) (opened_replica k e.attributes e.made) xs

-- the replicas after a reservation with this reply
abbrev pub replicas_reserved : RecordSeen → ℕ → Reply → List Replica → List Replica
replicas_reserved seen k (replies.Done answers.Nothing) xs = reserved_for seen.entry k xs
replicas_reserved seen k reply xs = xs

-- the replicas of a node after a request that was answered so
abbrev pub replicas_after : RecordSeen → NodeState → Request → Payload → Reply → List Replica
replicas_after seen n (requests.Reserve k) p reply = replicas_reserved seen k reply n.replicas
replicas_after seen n request p reply =
    if is_complete seen then change_key replica_key (ckpt_of request) (replica_after request p seen) n.replicas else n.replicas

-- the node after it
abbrev pub node_after : RecordSeen → NodeState → Request → Payload → Reply → NodeState
node_after seen n request p reply = record n { replicas = replicas_after seen n request p reply }

-- the checkpoint of a replica has an entry
abbrev pub is_there : List Entry → Replica → Bool
is_there entries x = is_some (entry_of x.ckpt entries)

-- the node keeps the replicas of these alone
abbrev pub freed_node : List Entry → NodeState → NodeState
freed_node entries n = record n { replicas = filter (is_there entries) n.replicas }
