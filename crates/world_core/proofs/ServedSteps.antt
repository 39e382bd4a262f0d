-- The step that a node serves, with the parts as the code names them.
use Rattle.std.proofs.Common.{◌≡◌, ℕ, ◌<◌, List, length, refl, sym, ap, subst, ◌∙◌}
use Rattle.std.specs.Prelude.{Option, Some, None, slice_get, slice_set}
use Rattle.std.proofs.lemmas.Option.{same_Some}
use Rattle.ckpt_types.specs.declared.answers.Answer.TheVariants as answers
use Rattle.ckpt_types.specs.declared.answers.Outcome.{Outcome}
use Rattle.ckpt_types.specs.declared.operation.Op.{Op}
use Rattle.ckpt_types.specs.declared.words.OpWord.{OpWord}
use Rattle.ckpt_types.specs.OpWord.{word_of_op}
use Rattle.section_iter.specs.KeptIds.{KeptIds}
use Rattle.node_msgs.specs.declared.details.Details.{Details}
use Rattle.node_msgs.specs.declared.next.Next.TheVariants.{Serve}
use Rattle.node_msgs.specs.declared.replies.Reply.{Reply}
use Rattle.node_msgs.specs.declared.replies.Reply.TheVariants as replies
use Rattle.node_msgs.specs.declared.requests.Request.{Request}
use Rattle.node_msgs.specs.declared.steps.StepReply.{StepReply}
use Rattle.node_msgs.specs.declared.steps.Verb.{Verb}
use Rattle.node_msgs.specs.Requests.{ckpt_of}
use Rattle.node_msgs.specs.Steps.{verb_of, word_of}
use Rattle.run_labels.specs.declared.labels.Label.TheVariants.{Stepped}
use Rattle.cluster_record.specs.Calls.{left}
use Rattle.cluster_record.specs.StepDone.{StepDone}
use Rattle.replica.specs.Replicas.{Replica}
use Rattle.node_core.specs.declared.lent.Lent.{Lent}
use Rattle.node_core.specs.Details.{details_told}
use Rattle.ckpt_machine.specs.Asking.{MayCome}
use Rattle.snap_copy.specs.Snapshots.{Snapshot}
use Rattle.node_msgs.specs.declared.requests.Request.TheVariants as requests
use Rattle.node_core.specs.Nodes.{MayReply, replica_served}
use Rattle.node_core.specs.Payloads.{Payload, payload_of}
use Rattle.node_core.specs.Seen.{record_seen}
use Rattle.node_core.specs.Serving.{details_at, iteration_behind, snapshot_behind}
use Rattle.ckpt_machine.specs.Driving.{driver_next}
use Rattle.ckpt_machine.specs.Due.{ended_details}
use Rattle.client_calls.specs.declared.in_hand.InHand.{InHand}
use Rattle.world_core.specs.declared.world.World.{World}
use Rattle.world_core.specs.Alone.{ended_at}
use Rattle.ckpt_machine.specs.Nodes.{node_at, nodes_after}
use Rattle.client_calls.specs.Lending.{IsLentBy, IsValidFor, CanKeep, CanLend, hand_lending, iteration_lent, table_lending, table_keeping}
use Rattle.world_core.specs.TablesLending.{tables_lending, tables_keeping}
use Rattle.cluster_record.specs.Ends.{served_done}
use Rattle.client_calls.specs.HandSteps.{hand_taken, hand_end}
use Rattle.ckpt_machine.specs.Taking.{AsksNode}
use Rattle.world_core.specs.Happenings.{IsNext, IsStep, rooms_at}
use Rattle.client_calls.specs.TableState.{TableState}
use Rattle.world_core.specs.TablesState.{kept_by}
use Rattle.world_core.specs.CommitLending.{IsLentAt}
use Rattle.world_core.specs.Shows.{IsShown, HasNumbersLeft}
use Rattle.world_core.proofs.Carrying.{lent_carries}
use Rattle.world_core.proofs.IterationSteps.{lent_made, lent_op, lent_end}
use Rattle.world_core.proofs.Serve.{its_copy, its_done, its_end, its_details, its_iteration, its_made, served_world}
use Rattle.world_core.proofs.Held.{asker_is, client_is, hand_made, with_copy, with_made}
use Rattle.world_core.proofs.CallSteps.{known}
use Rattle.ckpt_machine.proofs.Askers.{IsCopyAsk, copy_ask}
use Rattle.ckpt_types.specs.Asks.{MayAsk, asked}
use Rattle.ckpt_types.specs.declared.identities.ActorName.TheVariants.{Client}
use Rattle.world_core.specs.HandsState.{hand_at, set_at}
use Rattle.client_calls.specs.Names.{IsClientName, client_by}
use Rattle.ckpt_types.specs.declared.identities.Who.{Who}
use Rattle.world_core.proofs.Stepping.{with_own, lends, keeps, fits_lent, no_copying, serve_is, ends_its}
use Rattle.world_core.proofs.TableSteps.{kept_is, lending_is, keeping_is}

-- the iteration and the snapshot that travel beside are told by no label
pub told_still : (reply : Reply) (lent : Lent) (it : Option KeptIds) (copy : Option Snapshot) → details_told reply (record lent { iteration = it; snap = copy }) ≡ details_told reply lent
told_still (replies.Done answers.Pieces) lent it copy = refl
told_still reply lent it copy = refl

-- a node has served a request in this world, with what was lent and came back
pub record ServedAs (w : World) (r : ℕ) (request : Request) (lent back : Lent) (reply : Reply) (nodes : List (List Replica)) : Type 0 where
  pub there : r < length w.nodes
  pub may : MayReply (record_seen w.cluster (ckpt_of request) r) (node_at w.nodes r) request (payload_of lent) reply
  pub nodes_are : nodes ≡ nodes_after w.cluster w.nodes r request (payload_of lent) reply
  pub details : details_told reply back ≡ details_at request (payload_of lent) (record_seen w.cluster (ckpt_of request) r) (replica_served (record_seen w.cluster (ckpt_of request) r) (node_at w.nodes r) (ckpt_of request))
  pub iteration : back.iteration ≡ iteration_behind request (record_seen w.cluster (ckpt_of request) r) (replica_served (record_seen w.cluster (ckpt_of request) r) (node_at w.nodes r) (ckpt_of request)) lent.iteration
  pub snapshot : back.snap ≡ snapshot_behind request (replica_served (record_seen w.cluster (ckpt_of request) r) (node_at w.nodes r) (ckpt_of request)) lent.snap

-- what is next for the call in hand is asked of a node
pub asks_of : (w : World) (v : Who) (r : ℕ) (request : Request) (hand : InHand) → hand_at w.hands v ≡ Some hand → IsNext w v (Serve r request) → AsksNode w.cluster hand.driver r request
asks_of w v r request hand held next = record {
  rooms = rooms_at w (client_by v);
  next_is = ap (λ (h : InHand). driver_next w.cluster (rooms_at w (client_by v)) h.driver) (same_Some hand next.hand (sym held ∙ next.held)) ∙ next.next_is;
}

lent_driver : (request : Request) (hand : InHand) → (hand_lending request hand).driver ≡ hand.driver
lent_driver (requests.Iterate call k choice) hand = refl
lent_driver request hand = refl

-- also while its iteration is lent
pub asks_lent : (w : World) (v : Who) (r : ℕ) (request : Request) (hand : InHand) → hand_at w.hands v ≡ Some hand → IsNext w v (Serve r request) → (hand1 : InHand) → hand1 ≡ hand_lending request hand → AsksNode w.cluster hand1.driver r request
asks_lent w v r request hand held next hand1 is = subst (λ x. AsksNode w.cluster x r request) (sym (ap (λ (h : InHand). h.driver) is ∙ lent_driver request hand)) (asks_of w v r request hand held next)

-- a client's call is no copying
no_copy_asked : (w : World) (v : Who) (hand : InHand) → hand_at w.hands v ≡ Some hand → IsShown w → IsClientName v → IsCopyAsk (asked hand.op) → ⊥
no_copy_asked w v hand held shown named copies =
    let h = shown.shows.history in
    let is = known w shown in
    let may : MayAsk (Client (client_by v)) (asked hand.op) = subst (λ b. MayAsk b (asked hand.op)) (client_is w h v hand held is.facts named) (asker_is w h v hand held is.facts) in
    subst (MayAsk (Client (client_by v))) (copy_ask (asked hand.op) copies) may

-- the copy is in a hand that lends its iteration as in one that does not
lent_copy : (request : Request) (hand : InHand) (copy : Option Snapshot) → with_copy (hand_lending request hand) copy ≡ hand_lending request (with_copy hand copy)
lent_copy (requests.Iterate call k choice) hand copy = refl
lent_copy request hand copy = refl

lent_snapshot : (request : Request) (hand : InHand) → (hand_lending request hand).snapshot ≡ hand.snapshot
lent_snapshot (requests.Iterate call k choice) hand = refl
lent_snapshot request hand = refl

-- the iteration with which a call goes on may go out of its client's table
pub lends_at : (w : World) (v : Who) (r : ℕ) (request : Request) (hand : InHand) → hand_at w.hands v ≡ Some hand → IsNext w v (Serve r request) → IsShown w → (c : ℕ) → c ≡ client_by v → (t : TableState) → slice_get w.tables c ≡ Some t → CanLend request hand.op t.client
lends_at w v r request hand held next shown c c_is t there = subst (CanLend request hand.op) (ap (kept_by w.tables) (sym c_is) ∙ kept_is w.tables c t there) (lends w v r request hand held next shown)

module _ (w : World) (v : Who) (r : ℕ) (request : Request) (hand : InHand) (held : hand_at w.hands v ≡ Some hand) (next : IsNext w v (Serve r request)) (shown : IsShown w) (room : HasNumbersLeft w) (lent : Lent) (is_lent : IsLentBy hand.op request lent) (lent_there : IsLentAt w.nodes r request lent) where
  abbrev whole : Lent
  whole = with_own w v r request hand held next lent

  -- while the iteration and the snapshot are lent
  module _ (c : ℕ) (c_is : c ≡ client_by v) (t t1 : TableState) (there : slice_get w.tables c ≡ Some t) (hand1 hand2 : InHand) (it1 : Option KeptIds) (copy1 : Option Snapshot) (hand_is : hand1 ≡ hand_lending request hand) (lent_is : hand2 ≡ record hand1 { snapshot = None }) (it1_is : it1 ≡ iteration_lent request hand t.client) (copy1_is : copy1 ≡ hand1.snapshot)
      (table_is : t1 ≡ table_lending request hand.op t) where
    kept_here : kept_by w.tables (client_by v) ≡ t.client
    kept_here = ap (kept_by w.tables) (sym c_is) ∙ kept_is w.tables c t there

    its_it : it1 ≡ iteration_lent request hand (kept_by w.tables (client_by v))
    its_it = it1_is ∙ ap (iteration_lent request hand) (sym kept_here)

    abbrev tables1 : List TableState
    tables1 = slice_set w.tables c t1

    its_tables : tables1 ≡ tables_lending request (client_by v) hand.op w.tables
    its_tables = ap (slice_set w.tables c) table_is ∙ lending_is w.tables c t there request hand.op ∙ ap (λ d. tables_lending request d hand.op w.tables) c_is

    abbrev lent1 : Lent
    lent1 = record lent { iteration = it1; snap = copy1 }

    whole_is : lent1 ≡ whole
    whole_is = let copy_is = copy1_is ∙ ap (λ (h : InHand). h.snapshot) hand_is ∙ lent_snapshot request hand in λ i. record lent { iteration = its_it i; snap = copy_is i }

    pub fits_at : MayCome w.cluster (node_at w.nodes r) request lent1
    fits_at = subst (MayCome w.cluster (node_at w.nodes r) request) (sym whole_is) (fits_lent w v r request hand held next shown room lent is_lent lent_there)

    same_op : hand2.op ≡ hand.op
    same_op = ap (λ (h : InHand). h.op) lent_is ∙ ap (λ (h : InHand). h.op) hand_is ∙ lent_op request hand

    pub keeps_at : (t2 : TableState) → slice_get tables1 c ≡ Some t2 → CanKeep request hand2.op t2.client
    keeps_at t2 there2 =
        subst (CanKeep request hand2.op) (kept_is tables1 c t2 there2)
        (subst (λ (z : List TableState × Op × ℕ). CanKeep request z.1 (kept_by z.0 z.2)) (λ i. (sym its_tables i, sym same_op i, sym c_is i)) (keeps w v r request hand held next shown room))

    pub step_is : IsClientName v → (reply : Reply) (nodes : List (List Replica)) (back : Lent) (it : Option KeptIds) (copy : Option Snapshot) (t2 t3 : TableState) (taken then_taken : InHand) (place : Option InHand) (end : Option Outcome) (word : OpWord) (verb : Verb) (k : ℕ) (said : StepReply) (details : Details) → IsValidFor request t.client → ServedAs w r request lent1 back reply nodes →
        slice_get tables1 c ≡ Some t2 → it ≡ back.iteration → copy ≡ back.snap → t3 ≡ table_keeping request hand2.op reply it t2 → taken ≡ hand_taken (served_done w.cluster request r reply) (with_copy hand2 copy) → end ≡ hand_end w.cluster (served_done w.cluster request r reply) reply taken → left end then_taken ≡ left end (hand_made request reply (details_told reply back) taken) → place ≡ left end then_taken →
        word ≡ word_of_op hand.op → verb ≡ verb_of request → k ≡ ckpt_of request → said ≡ word_of reply → details ≡ ended_details end (details_told reply back) →
        IsStep v w (ended_at v end (record w { nodes = nodes; tables = slice_set tables1 c t3; hands = set_at w.hands v place })) (Stepped hand.call word verb (Some k) (Some r) said end details)
    step_is named reply nodes back it copy t2 t3 taken then_taken place end word verb k said details valid served there2 it_is copy_is kept_are taken_is end_is then_is place_is word_is verb_is k_is said_is details_are =
        let p : Payload = payload_of whole in
        let done : StepDone = its_done w v r request hand p reply in
        let got : ServedAs w r request whole back reply nodes = subst (λ (z : Lent). ServedAs w r request z back reply nodes) whole_is served in
        let kept : it ≡ its_iteration w v r request hand p reply = it_is ∙ got.iteration in
        let then_tables : slice_set tables1 c t3 ≡ tables_keeping request (client_by v) hand.op reply (its_iteration w v r request hand p reply) (tables_lending request (client_by v) hand.op w.tables)
        = ap (slice_set tables1 c) kept_are ∙ keeping_is tables1 c t2 there2 request hand2.op reply it ∙ (λ i. tables_keeping request (c_is i) (same_op i) reply (kept i) (its_tables i)) in
        let its : Option Snapshot = its_copy w v r request hand p reply in
        let copied : copy ≡ its = copy_is ∙ got.snapshot in
        let takes : taken ≡ hand_taken done (hand_lending request (with_copy hand its)) = taken_is ∙ ap (λ (h : InHand). hand_taken done (with_copy h copy)) lent_is ∙ (λ i. hand_taken done (with_copy (hand_is i) (copied i))) ∙ ap (hand_taken done) (lent_copy request hand its) in
        let ends : end ≡ its_end w v r request hand p reply = end_is ∙ ap (hand_end w.cluster done reply) takes ∙ lent_end w.cluster request (with_copy hand its) done reply in
        let left_is : place ≡ left (its_end w v r request hand p reply) (hand_taken done (with_made hand its (its_made w v r request hand p reply)))
        = place_is ∙ then_is ∙ (λ i. left (ends i) (hand_made request reply (got.details i) (takes i)))
        ∙ lent_made request (with_copy hand its) done reply (its_details w v r request hand p reply) (its_end w v r request hand p reply) (ends_its w v r request hand held next shown p reply got.may) in
        let new_is : ended_at v end (record w { nodes = nodes; tables = slice_set tables1 c t3; hands = set_at w.hands v place }) ≡ served_world w v r request hand p reply = λ i. ended_at v (ends i) (record w { nodes = got.nodes_are i; tables = then_tables i; hands = set_at w.hands v (left_is i) }) in
        let told : details ≡ ended_details (its_end w v r request hand p reply) (its_details w v r request hand p reply) = details_are ∙ (λ i. ended_details (ends i) (got.details i)) in
        subst (λ (z : World × OpWord × Verb × ℕ × StepReply × Option Outcome × Details). IsStep v w z.0 (Stepped hand.call z.1 z.2 (Some z.3) (Some r) z.4 z.5 z.6))
        (λ i. (sym new_is i, sym word_is i, sym verb_is i, sym k_is i, sym said_is i, sym ends i, sym told i))
        (serve_is w v r request hand held next shown p reply (no_copying request hand (no_copy_asked w v hand held shown named)) (lent_carries request hand (kept_by w.tables (client_by v)) lent is_lent) got.may (subst (IsValidFor request) (sym kept_here) valid) got.there)
