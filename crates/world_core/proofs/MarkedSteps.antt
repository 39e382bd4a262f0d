-- The step in which the active does the next element of a weak write, or ends its marks, as the code takes it.
use Rattle.std.proofs.Common.{◌≡◌, ℕ, List, refl, sym, ap, subst, ◌∙◌}
use Rattle.std.specs.Prelude.{Option, Some, None, IsSomeAnd}
use Rattle.ckpt_types.specs.declared.answers.Answer.TheVariants as answers
use Rattle.ckpt_types.specs.declared.answers.Outcome.{Outcome}
use Rattle.ckpt_types.specs.declared.identities.Who.{Who}
use Rattle.ckpt_types.specs.declared.operation.Op.{Op}
use Rattle.ckpt_types.specs.declared.words.OpWord.{OpWord}
use Rattle.ckpt_types.specs.OpWord.{word_of_op}
use Rattle.client_handles.specs.ClientState.{ClientState}
use Rattle.section_iter.specs.KeptIds.{KeptIds}
use Rattle.snap_copy.specs.Snapshots.{Snapshot}
use Rattle.node_msgs.specs.declared.details.Details.{Details}
use Rattle.node_msgs.specs.declared.details.Details.TheVariants as beside
use Rattle.node_msgs.specs.declared.next.Next.TheVariants.{Serve}
use Rattle.node_msgs.specs.declared.replies.Reply.{Reply}
use Rattle.node_msgs.specs.declared.replies.Reply.TheVariants as replies
use Rattle.node_msgs.specs.declared.requests.Request.{Request}
use Rattle.node_msgs.specs.declared.requests.Request.TheVariants as requests
use Rattle.node_msgs.specs.Requests.{ckpt_of}
use Rattle.node_msgs.specs.Steps.{verb_of, word_of}
use Rattle.run_labels.specs.declared.labels.Label.TheVariants.{Stepped}
use Rattle.cluster_record.specs.Calls.{left}
use Rattle.cluster_record.specs.Ends.{served_done}
use Rattle.replica.specs.Replicas.{Replica}
use Rattle.node_core.specs.Fitting.{IsReadyFor}
use Rattle.node_core.specs.Nodes.{NodeState, MayReply, replica_served}
use Rattle.node_core.specs.Payloads.{Payload, no_payload}
use Rattle.node_core.specs.Seen.{RecordSeen, record_seen}
use Rattle.node_core.specs.Serving.{details_at, replica_after, reply_at, reply_of, snapshot_after}
use Rattle.ckpt_machine.specs.Due.{ended_details}
use Rattle.ckpt_machine.specs.Nodes.{node_at, replica_in, with_changed}
use Rattle.client_calls.specs.declared.in_hand.InHand.{InHand}
use Rattle.client_calls.specs.HandSteps.{hand_end, hand_taken}
use Rattle.client_calls.specs.Lending.{IsValidFor}
use Rattle.client_calls.specs.MadeIds.{made_behind}
use Rattle.client_calls.specs.TableState.{TableState}
use Rattle.world_core.specs.declared.world.World.{World}
use Rattle.world_core.specs.Alone.{ended_at}
use Rattle.world_core.specs.HandsState.{hand_at, set_at}
use Rattle.world_core.specs.Happenings.{IsNext, IsStep}
use Rattle.world_core.specs.Marking.{IsOfMarks}
use Rattle.world_core.specs.Shows.{IsShown}
use Rattle.world_core.specs.TablesLending.{tables_lending, tables_keeping}
use Rattle.ckpt_machine.proofs.Carried.{Carries, GoesToReplica}
use Rattle.ckpt_machine.proofs.Reserving.{copy_kept}
use Rattle.world_core.proofs.Serve.{its_details, its_end}
use Rattle.world_core.proofs.Staging.{ended_none, named_is}
use Rattle.world_core.proofs.Stepping.{its_nodes, its_ready, its_replica, its_served, its_there}

-- a request goes to a replica, with nothing beside it, and is done
record IsDoneAlone (request : Request) : Type 0 where
  pub goes : GoesToReplica request
  pub carries : (p q : Payload) → Carries request p q
  pub valid : (t : ClientState) → IsValidFor request t
  pub tables : (c : ℕ) (op : Op) (reply : Reply) (kept : Option KeptIds) (ts : List TableState) → tables_keeping request c op reply kept (tables_lending request c op ts) ≡ ts
  pub copy : (x : Replica) (s : Snapshot) → snapshot_after request x s ≡ s
  pub made : (op : Op) (reply : Reply) (details : Details) (before : Option (List (List ℕ))) → made_behind op request reply details before ≡ before
  pub may : (seen : RecordSeen) (n : NodeState) (p : Payload) (reply : Reply) → reply ≡ reply_at request p seen (replica_served seen n (ckpt_of request)) → MayReply seen n request p reply
  pub done : (p : Payload) (seen : RecordSeen) (x : Replica) → replies.Done answers.Nothing ≡ reply_of request p seen x
  pub nothing : (p : Payload) (seen : RecordSeen) (y : Option Replica) → beside.Nothing ≡ details_at request p seen y

nothing_beside : (request : Request) → IsOfMarks request → (p : Payload) (seen : RecordSeen) (y : Option Replica) → beside.Nothing ≡ details_at request p seen y
nothing_beside request marks p seen None = refl
nothing_beside (requests.Element call k) marks p seen (Some x) = refl
nothing_beside (requests.Unmark call k) marks p seen (Some x) = refl
nothing_beside request marks p seen (Some x) = absurd marks

-- so are an element and the end of marks
done_alone : (request : Request) → IsOfMarks request → IsDoneAlone request
done_alone (requests.Element call k) marks = record {
  goes = tt;
  carries = λ p q. tt;
  valid = λ t. tt;
  tables = λ c op reply kept ts. refl;
  copy = λ x s. refl;
  made = λ op reply details before. refl;
  may = λ seen n p reply is. is;
  done = λ p seen x. refl;
  nothing = nothing_beside (requests.Element call k) marks;
}
done_alone (requests.Unmark call k) marks = record {
  goes = tt;
  carries = λ p q. tt;
  valid = λ t. tt;
  tables = λ c op reply kept ts. refl;
  copy = λ x s. refl;
  made = λ op reply details before. refl;
  may = λ seen n p reply is. is;
  done = λ p seen x. refl;
  nothing = nothing_beside (requests.Unmark call k) marks;
}
done_alone request marks = absurd marks

module _ (w : World) (v : Who) (r : ℕ) (request : Request) (hand : InHand) (held : hand_at w.hands v ≡ Some hand) (next : IsNext w v (Serve r request)) (shown : IsShown w) (marks : IsOfMarks request) where
  abbrev alone : IsDoneAlone request
  alone = done_alone request marks

  -- the replica there is ready for it
  pub marked_there : IsSomeAnd (replica_in w.nodes (ckpt_of request) r) (IsReadyFor request)
  marked_there = subst (λ (o : Option Replica). IsSomeAnd o (IsReadyFor request)) (sym (its_there w v r request hand held next shown alone.goes)) (its_ready w v r request hand held next shown alone.goes)

  -- and has done it
  module _ (nodes : List (List Replica)) (nodes_are : (p : Payload) (seen : RecordSeen) → nodes ≡ with_changed (ckpt_of request) r (replica_after request p seen) w.nodes) where
    abbrev reply : Reply
    reply = replies.Done answers.Nothing

    abbrev sight : RecordSeen
    sight = record_seen w.cluster (ckpt_of request) r

    abbrev there : Option Replica
    there = replica_served sight (node_at w.nodes r) (ckpt_of request)

    answered : reply ≡ reply_at request no_payload sight there
    answered = alone.done no_payload sight (its_replica w v r request hand held next shown alone.goes) ∙ ap (reply_at request no_payload sight) (sym (its_served w v r request hand held next shown alone.goes))

    pub marked_is : (taken : InHand) (place : Option InHand) (end : Option Outcome) (word : OpWord) → taken ≡ hand_taken (served_done w.cluster request r reply) hand → end ≡ hand_end w.cluster (served_done w.cluster request r reply) reply taken → place ≡ left end taken → word ≡ word_of_op hand.op →
        IsStep v w (ended_at v end (record w { nodes = nodes; hands = set_at w.hands v place })) (Stepped hand.call word (verb_of request) (Some (ckpt_of request)) (Some r) (word_of reply) end beside.Nothing)
    marked_is taken place end word taken_is end_is place_is word_is =
        let ends : end ≡ its_end w v r request hand no_payload reply = end_is ∙ ap (hand_end w.cluster (served_done w.cluster request r reply) reply) taken_is in
        named_is w v r request hand held next shown alone.goes no_payload (alone.carries no_payload _) (alone.valid _) nodes word word_is reply (set_at w.hands v place) end beside.Nothing (alone.may sight (node_at w.nodes r) no_payload reply answered)
        (nodes_are no_payload sight ∙ its_nodes w v r request hand held next shown alone.goes no_payload reply) (alone.tables _ hand.op reply _ w.tables) ends (ap (set_at w.hands v) (place_is ∙ ap (left end) taken_is)) (copy_kept request alone.copy there hand.snapshot) (alone.made hand.op reply _ hand.made)
        (ended_none end (its_details w v r request hand no_payload reply) (alone.nothing no_payload sight there) ∙ ap (λ e. ended_details e (its_details w v r request hand no_payload reply)) ends)
