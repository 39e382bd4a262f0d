-- The step in which the active reads, as the code takes it.
use Rattle.std.proofs.Common.{◌≡◌, ℕ, ℤ, Bool, true, false, List, [], ◌∷◌, cond, ◌==◌, refl, sym, ap, subst, ◌∙◌}
use Rattle.std.specs.Prelude.{Option, Some, None, Result, Ok, Err, IfOk, IfSome, IsSome, slice_get, slice_set}
use Rattle.ckpt_types.specs.declared.answers.Answer.TheVariants as answers
use Rattle.ckpt_types.specs.declared.answers.Outcome.{Outcome}
use Rattle.ckpt_types.specs.declared.identities.Who.{Who}
use Rattle.ckpt_types.specs.declared.update.ReadElement.{ReadElement}
use Rattle.ckpt_types.specs.declared.update.Update.TheVariants as updates
use Rattle.ckpt_types.specs.declared.words.OpWord.{OpWord}
use Rattle.ckpt_types.specs.Asks.{elements_of}
use Rattle.ckpt_types.specs.Buffer.{Buffer}
use Rattle.ckpt_types.specs.OpWord.{word_of_op}
use Rattle.ckpt_types.specs.Reads.{read}
use Rattle.ckpt_types.specs.Updates.{Refusal}
use Rattle.node_msgs.specs.declared.details.Details.{Details}
use Rattle.node_msgs.specs.declared.details.Details.TheVariants as beside
use Rattle.node_msgs.specs.declared.next.Next.TheVariants.{Serve}
use Rattle.node_msgs.specs.declared.replies.Reply.{Reply}
use Rattle.node_msgs.specs.declared.replies.Reply.TheVariants as replies
use Rattle.node_msgs.specs.declared.requests.Request.{Request}
use Rattle.node_msgs.specs.declared.requests.Request.TheVariants as requests
use Rattle.node_msgs.specs.Steps.{verb_of, word_of}
use Rattle.run_labels.specs.declared.labels.Label.TheVariants.{Stepped}
use Rattle.cluster_record.specs.Calls.{left}
use Rattle.cluster_record.specs.Ends.{served_done}
use Rattle.cluster_record.specs.Places.{change_key, list_or}
use Rattle.replica.specs.Replicas.{Replica}
use Rattle.node_core.specs.Nodes.{replica_key, replica_served}
use Rattle.node_core.specs.Payloads.{Payload}
use Rattle.node_core.specs.Seen.{record_seen}
use Rattle.node_core.specs.Serving.{details_at, done_or_refused, read_details, reply_at}
use Rattle.ckpt_machine.specs.Due.{ended_details}
use Rattle.client_calls.specs.declared.in_hand.InHand.{InHand}
use Rattle.world_core.specs.declared.world.World.{World}
use Rattle.world_core.specs.Alone.{ended_at}
use Rattle.world_core.specs.HandsState.{hand_at, set_at}
use Rattle.client_calls.specs.HandSteps.{hand_end, hand_taken}
use Rattle.world_core.specs.Happenings.{IsNext, IsStep}
use Rattle.ckpt_machine.specs.Nodes.{node_at, nodes_after, replica_in, with_changed}
use Rattle.client_calls.specs.ReadTold.{read_told}
use Rattle.world_core.specs.Shows.{IsShown}
use Rattle.ckpt_machine.proofs.NodeLists.{list_again}
use Rattle.world_core.proofs.Serve.{its_details, its_end}
use Rattle.ckpt_machine.proofs.Reserving.{copy_kept}
use Rattle.world_core.proofs.Staging.{named_is}
use Rattle.world_core.proofs.Stepping.{its_nodes, its_replica, its_served, its_there}

-- ---- nothing changes on the nodes

change_stays : (k : ℕ) (xs : List Replica) → change_key replica_key k (λ x. x) xs ≡ xs
change_stays k [] = refl
change_stays k (x ∷ xs) = by_test (x.ckpt == k) (change_stays k xs)
  where
    by_test : (b : Bool) → change_key replica_key k (λ x. x) xs ≡ xs → cond b (x ∷ xs) (x ∷ change_key replica_key k (λ x. x) xs) ≡ x ∷ xs
    by_test true more = refl
    by_test false more = ap (λ (ys : List Replica). x ∷ ys) more

nodes_stay : (k r : ℕ) (nodes : List (List Replica)) → with_changed k r (λ x. x) nodes ≡ nodes
nodes_stay k r nodes = ap (slice_set nodes r) (change_stays k (list_or (slice_get nodes r))) ∙ list_again nodes r

-- ---- what is told beside it

told_beside : (result : Result (List (List ℕ)) Refusal) (buffer : Buffer) → IfOk result (λ pieces. buffer.pieces ≡ pieces) → read_told (done_or_refused (replies.Done answers.Pieces) result) buffer ≡ read_details result
told_beside (Ok pieces) buffer is = ap beside.Pieces is
told_beside (Err why) buffer is = refl

-- ---- the step

module _ (w : World) (v : Who) (r k : ℕ) (hand : InHand) (held : hand_at w.hands v ≡ Some hand) (next : IsNext w v (Serve r (requests.Read k))) (shown : IsShown w) where
  abbrev asks : Request
  asks = requests.Read k

  abbrev its : Replica
  its = its_replica w v r asks hand held next shown tt

  -- the node has the replica
  pub reads_there : IsSome (replica_in w.nodes k r)
  reads_there = subst (λ (o : Option Replica). IsSome o) (sym (its_there w v r asks hand held next shown tt)) refl

  -- the replica has answered so
  module _ (elements : List ReadElement) (elements_are : elements ≡ elements_of hand.op) (t : ℤ) (t_is : t ≡ w.cluster.moment) (reply : Reply) (buffer : Buffer) (answer : IfSome (replica_in w.nodes k r) (λ x. reply ≡ done_or_refused (replies.Done answers.Pieces) (read elements t x.sections)))
      (pieces : IfSome (replica_in w.nodes k r) (λ x. IfOk (read elements t x.sections) (λ pieces. buffer.pieces ≡ pieces))) where
    abbrev p : Payload
    p = record { update = updates.Nothing; elements = elements; ids = []; snapshot = None }

    abbrev gives : Result (List (List ℕ)) Refusal
    gives = read elements w.cluster.moment its.sections

    answer_is : reply ≡ done_or_refused (replies.Done answers.Pieces) gives
    answer_is =
        subst (λ (z : Option Replica × ℤ). IfSome z.0 (λ x. reply ≡ done_or_refused (replies.Done answers.Pieces) (read elements z.1 x.sections)))
        (λ i. (its_there w v r asks hand held next shown tt i, t_is i)) answer

    pieces_are : IfOk gives (λ pieces. buffer.pieces ≡ pieces)
    pieces_are =
        subst (λ (z : Option Replica × ℤ). IfSome z.0 (λ x. IfOk (read elements z.1 x.sections) (λ pieces. buffer.pieces ≡ pieces)))
        (λ i. (its_there w v r asks hand held next shown tt i, t_is i)) pieces

    answered : reply ≡ reply_at asks p (record_seen w.cluster k r) (replica_served (record_seen w.cluster k r) (node_at w.nodes r) k)
    answered = answer_is ∙ ap (reply_at asks p (record_seen w.cluster k r)) (sym (its_served w v r asks hand held next shown tt))

    told : read_told reply buffer ≡ its_details w v r asks hand p reply
    told = ap (λ (a : Reply). read_told a buffer) answer_is ∙ told_beside gives buffer pieces_are ∙ ap (details_at asks p (record_seen w.cluster k r)) (sym (its_served w v r asks hand held next shown tt))

    nodes_are : w.nodes ≡ nodes_after w.cluster w.nodes r asks p reply
    nodes_are = sym (nodes_stay k r w.nodes) ∙ its_nodes w v r asks hand held next shown tt p reply

    pub read_is : (taken : InHand) (place : Option InHand) (end : Option Outcome) (word : OpWord) (details : Details) → taken ≡ hand_taken (served_done w.cluster asks r reply) hand → end ≡ hand_end w.cluster (served_done w.cluster asks r reply) reply taken → place ≡ left end taken → word ≡ word_of_op hand.op →
        details ≡ ended_details end (read_told reply buffer) → IsStep v w (ended_at v end (record w { hands = set_at w.hands v place })) (Stepped hand.call word (verb_of asks) (Some k) (Some r) (word_of reply) end details)
    read_is taken place end word details taken_is end_is place_is word_is details_are =
        let ends : end ≡ its_end w v r asks hand p reply = end_is ∙ ap (hand_end w.cluster (served_done w.cluster asks r reply) reply) taken_is in
        named_is w v r asks hand held next shown tt p elements_are tt w.nodes word word_is reply (set_at w.hands v place) end details answered nodes_are refl ends (ap (set_at w.hands v) (place_is ∙ ap (left end) taken_is)) (copy_kept asks (λ x s. refl) (replica_served (record_seen w.cluster k r) (node_at w.nodes r) k) hand.snapshot) refl
        (details_are ∙ (λ i. ended_details (ends i) (told i)))
