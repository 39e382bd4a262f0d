-- What the nodes have behind a request to a replica, and what is answered.
use Rattle.std.proofs.Common.{◌≡◌, ℕ, ◌<◌, true, List, length, refl, ap, ◌∙◌, cond}
use Rattle.std.specs.Prelude.{Some, ◌==◌, ◌&&◌, slice_get, slice_set}
use Rattle.std.proofs.lemmas.Option.{slice_get_within}
use Rattle.node_msgs.specs.declared.requests.Request.{Request}
use Rattle.node_msgs.specs.declared.requests.Request.TheVariants.{Reserve}
use Rattle.node_msgs.specs.declared.replies.Reply.{Reply}
use Rattle.replica.specs.Replicas.{Replica}
use Rattle.cluster_record.specs.Places.{find_key, change_key, list_or}
use Rattle.cluster_record.specs.RecordState.{RecordState}
use Rattle.node_msgs.specs.Requests.{ckpt_of}
use Rattle.node_core.specs.Nodes.{NodeState, MayReply, replica_key, seen_for, served_for}
use Rattle.node_core.specs.Payloads.{Payload}
use Rattle.node_core.specs.Seen.{record_seen, is_complete}
use Rattle.node_core.specs.Serving.{reply_at, replica_after}
use Rattle.ckpt_machine.specs.Nodes.{node_at, nodes_after, replica_in}
use Rattle.ckpt_machine.specs.Machine.{Machine, CallState}
use Rattle.ckpt_machine.specs.Due.{payload_due, MayAnswer}
use Rattle.ckpt_machine.specs.Seen.{seen_at}
use Rattle.ckpt_machine.proofs.Carried.{GoesToReplica, reserves_none}
use Rattle.ckpt_machine.proofs.HoldingLaws.{after_key, replicas_served}
use Rattle.ckpt_machine.proofs.NodeMaps.{changed_here, slice_there}

-- ---- what the nodes have

-- after a request to one node, the replica of each checkpoint on each node
pub served_there : (R : RecordState) (nodes : List (List Replica)) (r : ℕ) (request : Request) (p : Payload) (reply : Reply) (x : Replica) → GoesToReplica request → is_complete (record_seen R (ckpt_of request) r) ≡ true → replica_in nodes (ckpt_of request) r ≡ Some x →
    (j q : ℕ) → replica_in (nodes_after R nodes r request p reply) j q ≡ cond ((j == ckpt_of request) && (q == r)) (Some (replica_after request p (record_seen R (ckpt_of request) r) x)) (replica_in nodes j q)
served_there R nodes r request p reply x goes complete is j q =
    let after = replica_after request p (record_seen R (ckpt_of request) r) in
    let new = change_key replica_key (ckpt_of request) after in
    ap (λ (ys : List Replica). replica_in (slice_set nodes r ys) j q)
    (replicas_served R (node_at nodes r) request p reply (reserves_none request goes) ∙ ap (λ b. cond b (new (list_or (slice_get nodes r))) (list_or (slice_get nodes r))) complete)
    ∙ changed_here nodes (ckpt_of request) r after (after_key request p (record_seen R (ckpt_of request) r)) x is j q

-- the node is there
pub node_within : (nodes : List (List Replica)) (k r : ℕ) (x : Replica) → replica_in nodes k r ≡ Some x → r < length nodes
node_within nodes k r x is = let (xs, there) = slice_there (slice_get nodes r) (find_key replica_key k) x refl is in slice_get_within nodes r xs there

-- what is asked of a replica as it is, is answered by that replica
pub replied : (R : RecordState) (n : NodeState) (request : Request) (p : Payload) (reply : Reply) → GoesToReplica request → MayReply (seen_for R n request) n request p reply → reply ≡ reply_at request p (seen_for R n request) (served_for R n request)
replied R n (Reserve k) p reply goes may = absurd goes
replied R n request p reply goes may = may

pub may_answer : (m : Machine) (s : CallState) (r : ℕ) (request : Request) (answer : Reply) → GoesToReplica request → answer ≡ reply_at request (payload_due m s) (record_seen m.cluster (ckpt_of request) r) (seen_at m (ckpt_of request) r) → MayAnswer m s request r answer
may_answer m s r (Reserve k) answer goes h = absurd goes
may_answer m s r request answer goes h = h
