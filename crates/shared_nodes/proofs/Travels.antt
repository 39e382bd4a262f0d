-- What a node answers and becomes hangs on no more of what travels than what an entry keeps.
use Rattle.std.proofs.Common.{◌≡◌, Option, Some, None, refl, ◌∙◌}
use Rattle.node_msgs.specs.declared.changes.NodeChange.{NodeChange}
use Rattle.node_msgs.specs.declared.changes.NodeChange.TheVariants as changes
use Rattle.node_msgs.specs.declared.replies.Reply.{Reply}
use Rattle.node_msgs.specs.declared.requests.Request.{Request}
use Rattle.node_msgs.specs.declared.requests.Request.TheVariants as requests
use Rattle.node_msgs.specs.Requests.{ckpt_of}
use Rattle.replica.specs.Replicas.{Replica}
use Rattle.node_core.specs.Changing.{changed_node}
use Rattle.node_core.specs.Nodes.{NodeState, MayReply, node_after, replica_served}
use Rattle.node_core.specs.Payloads.{Payload}
use Rattle.node_core.specs.Seen.{RecordSeen}
use Rattle.node_core.specs.Serving.{reply_at, reply_of}
use Rattle.shared_nodes.specs.Travelling.{travels, travels_change}

-- what is kept beside a request, with the identifiers of the iteration
abbrev pub with_ids : Request → Payload → Payload
with_ids request p = record (travels request p) { ids = p.ids }

reply_of-travels : (request : Request) (p : Payload) (seen : RecordSeen) (x : Replica) → reply_of request p seen x ≡ reply_of request (with_ids request p) seen x
reply_of-travels (requests.Stage call k t) p seen x = refl
reply_of-travels _ p seen x = refl

reply_at-travels : (request : Request) (p : Payload) (seen : RecordSeen) (x : Option Replica) → reply_at request p seen x ≡ reply_at request (with_ids request p) seen x
reply_at-travels request p seen None = refl
reply_at-travels request p seen (Some x) = reply_of-travels request p seen x

-- the answer of a node to a request
pub may_reply-travels : (seen : RecordSeen) (n : NodeState) (request : Request) (p : Payload) (reply : Reply) → MayReply seen n request p reply → MayReply seen n request (with_ids request p) reply
may_reply-travels seen n (requests.Reserve k) p reply may = may
may_reply-travels seen n request p reply may = may ∙ reply_at-travels request p seen (replica_served seen n (ckpt_of request))

-- the node after a request
pub node_after-travels : (seen : RecordSeen) (n : NodeState) (request : Request) (p : Payload) (reply : Reply) → node_after seen n request p reply ≡ node_after seen n request (travels request p) reply
node_after-travels seen n (requests.Stage call k t) p reply = refl
node_after-travels seen n _ p reply = refl

-- the node after a change
pub changed_node-travels : (seen : RecordSeen) (change : NodeChange) (p : Payload) (n : NodeState) → changed_node seen change p n ≡ changed_node seen change (travels_change change p) n
changed_node-travels seen (changes.Stage call k t) p n = refl
changed_node-travels seen _ p n = refl
