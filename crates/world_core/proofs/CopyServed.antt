-- A step of a node's copying that a replica serves, with the parts as the code names them.
use Rattle.std.proofs.Common.{◌≡◌, ℕ, List, ◌<◌, refl, sym, ap, subst, ◌∙◌}
use Rattle.std.specs.Prelude.{Option, Some, None, IfSome}
use Rattle.ckpt_types.specs.declared.answers.Outcome.{Outcome}
use Rattle.ckpt_types.specs.declared.identities.ActorName.TheVariants.{Node}
use Rattle.ckpt_types.specs.declared.identities.CallId.{CallId}
use Rattle.ckpt_types.specs.declared.identities.Who.{Who}
use Rattle.ckpt_types.specs.declared.identities.Who.TheVariants.{Actor}
use Rattle.ckpt_types.specs.declared.operation.Op.{Op}
use Rattle.ckpt_types.specs.declared.operation.Op.TheVariants as ops
use Rattle.ckpt_types.specs.declared.words.OpWord.TheVariants as opwords
use Rattle.ckpt_types.specs.Asks.{update_of}
use Rattle.ckpt_types.specs.OpWord.{word_of_op}
use Rattle.node_msgs.specs.declared.details.Details.{Details}
use Rattle.node_msgs.specs.declared.next.Next.{Next}
use Rattle.node_msgs.specs.declared.next.Next.TheVariants.{Serve}
use Rattle.node_msgs.specs.declared.replies.Reply.{Reply}
use Rattle.node_msgs.specs.declared.requests.Request.{Request}
use Rattle.node_msgs.specs.declared.requests.Request.TheVariants as requests
use Rattle.node_msgs.specs.Requests.{ckpt_of}
use Rattle.node_msgs.specs.Steps.{verb_of, word_of}
use Rattle.run_labels.specs.declared.labels.Label.{Label}
use Rattle.run_labels.specs.declared.labels.Label.TheVariants.{Stepped}
use Rattle.section_iter.specs.KeptIds.{KeptIds}
use Rattle.snap_copy.specs.Snapshots.{Snapshot}
use Rattle.cluster_record.specs.Calls.{left}
use Rattle.cluster_record.specs.declared.copying.Copying.{Copying}
use Rattle.cluster_record.specs.DueCopy.{CopyState}
use Rattle.cluster_record.specs.RecordState.{RecordState}
use Rattle.cluster_record.specs.StepDone.{StepDone}
use Rattle.replica.specs.Replicas.{Replica}
use Rattle.node_core.specs.declared.lent.Lent.{Lent}
use Rattle.node_core.specs.Payloads.{Payload, payload_of}
use Rattle.client_handles.specs.ClientState.{ClientState}
use Rattle.ckpt_machine.specs.Asking.{MayCome}
use Rattle.ckpt_machine.specs.Drivers.{Rooms}
use Rattle.ckpt_machine.specs.Drivers as drivers
use Rattle.ckpt_machine.specs.Driving.{driver_next}
use Rattle.ckpt_machine.specs.Due.{ended_details}
use Rattle.ckpt_machine.specs.Nodes.{node_at}
use Rattle.ckpt_machine.specs.Taking.{AsksNode}
use Rattle.ckpt_machine.proofs.Carried.{GoesToReplica}
use Rattle.ckpt_machine.proofs.NextOf.{OfCopying, next_of}
use Rattle.client_calls.specs.CopyHands.{IsCopyHand}
use Rattle.client_calls.specs.HandSteps.{hand_end, hand_taken}
use Rattle.client_calls.specs.Lending.{IsLentBy, IsValidFor, iteration_lent}
use Rattle.node_core.specs.Details.{details_told}
use Rattle.client_calls.specs.Names.{client_by}
use Rattle.client_calls.specs.TableState.{TableState}
use Rattle.client_calls.specs.Taking.{hand_outcome, hand_told}
use Rattle.client_calls.specs.UpdateSteps.{is_creation}
use Rattle.client_calls.specs.declared.in_hand.InHand.{InHand}
use Rattle.world_core.specs.CommitLending.{IsLentAt}
use Rattle.world_core.specs.Copying.{IsNoReservation}
use Rattle.world_core.specs.HandsState.{hand_at, set_at}
use Rattle.world_core.specs.Happenings.{IsNext, IsStep, rooms_at}
use Rattle.world_core.specs.Shows.{IsShown, HasNumbersLeft}
use Rattle.world_core.specs.TablesLending.{tables_keeping, tables_lending}
use Rattle.world_core.specs.TablesState.{kept_by}
use Rattle.world_core.specs.declared.world.World.{World}
use Rattle.world_core.proofs.Carrying.{lent_carries, lent_with}
use Rattle.world_core.proofs.Held.{next_for, with_made}
use Rattle.world_core.proofs.MadeIds.{made_plain}
use Rattle.world_core.proofs.Serve.{its_copy, its_details, its_done, its_end, its_iteration, its_made, served_world}
use Rattle.world_core.proofs.ServedSteps.{ServedAs, asks_of}
use Rattle.world_core.proofs.Stepping.{answered_is, fits_lent, node_there}
use Rattle.world_core.proofs.Taking.{hand_ends, hand_keeps}

-- ---- what it asks

-- a copying asks for a reservation, a step of an update, or a pull
abbrev IsOfCopying : Request → Type 0
IsOfCopying (requests.Reserve k) = Unit {0}
IsOfCopying (requests.Stage call k t) = Unit {0}
IsOfCopying (requests.Claim call k owner) = Unit {0}
IsOfCopying (requests.Commit call k) = Unit {0}
IsOfCopying (requests.Withdraw call k) = Unit {0}
IsOfCopying (requests.Pull call k) = Unit {0}
IsOfCopying request = ⊥

abbrev AsksSo : Next → Type 0
AsksSo (Serve r request) = IsOfCopying request
AsksSo next = Unit {0}

copy_asks : (R : RecordState) (rooms : Rooms) (c : CopyState) → AsksSo (driver_next R rooms (drivers.Copy c))
copy_asks R rooms c = next_of AsksSo (λ o. tt) (λ step none. tt) (λ r k. tt) R rooms (drivers.Copy c) (by_copying c.copying) where
  by_copying : (o : Option Copying) → IfSome o (OfCopying AsksSo c)
  by_copying None = tt
  by_copying (Some at) = record { update = (λ r t. tt, λ r. tt, λ r. tt, λ r. tt); pulls = λ r. tt; completes = λ moment. tt }

goes_to : (request : Request) → IsNoReservation request → GoesToReplica request
goes_to (requests.Reserve k) none = none
goes_to request none = tt

-- nothing of a client travels beside that
none_lent : (request : Request) (hand : InHand) (t : ClientState) → IsOfCopying request → iteration_lent request hand t ≡ None
none_lent (requests.Iterate call k choice) hand t of = absurd of
none_lent (requests.Next call k) hand t of = absurd of
none_lent request hand t of = refl

valid_for : (request : Request) (t : ClientState) → IsOfCopying request → IsValidFor request t
valid_for (requests.Next call k) t of = absurd of
valid_for request t of = tt

tables_stay : (request : Request) (c : ℕ) (op : Op) (reply : Reply) (it : Option KeptIds) (tables : List TableState) → IsOfCopying request → tables_keeping request c op reply it (tables_lending request c op tables) ≡ tables
tables_stay (requests.Iterate call k choice) c op reply it tables of = absurd of
tables_stay (requests.Next call k) c op reply it tables of = absurd of
tables_stay request c op reply it tables of = refl

-- ---- the step

module _ (w : World) (r q : ℕ) (request : Request) (hand : InHand) (held : hand_at w.hands (Actor (Node r)) ≡ Some hand) (copies : IsCopyHand hand) (next : IsNext w (Actor (Node r)) (Serve q request)) (none : IsNoReservation request) (shown : IsShown w) where
  abbrev v : Who
  v = Actor (Node r)

  abbrev kept : ClientState
  kept = kept_by w.tables (client_by v)

  to : GoesToReplica request
  to = goes_to request none

  of_copying : IsOfCopying request
  of_copying = subst AsksSo (sym (ap (driver_next w.cluster (rooms_at w (client_by v))) copies.driven) ∙ next_for w v (Serve q request) hand held next) (copy_asks w.cluster (rooms_at w (client_by v)) copies.driver)

  pub copy_there : q < 8
  copy_there = node_there w v q request hand held next shown

  -- with what is lent, and the snapshot that was in its hand
  module _ (room : HasNumbersLeft w) (lent : Lent) (is_lent : IsLentBy ops.Copy request lent) (lent_there : IsLentAt w.nodes q request lent) (no_iteration : lent.iteration ≡ None) (copy : Option Snapshot) (copy_is : copy ≡ hand.snapshot) where
    abbrev lent1 : Lent
    lent1 = record lent { snap = copy }

    whole_is : lent1 ≡ lent_with request hand kept lent
    whole_is = λ i. record lent { iteration = (no_iteration ∙ sym (none_lent request hand kept of_copying)) i; snap = copy_is i }

    lent_by : IsLentBy hand.op request lent
    lent_by = subst (λ op. IsLentBy op request lent) (sym copies.op) is_lent

    -- it may come
    pub copy_fits : MayCome w.cluster (node_at w.nodes q) request lent1
    copy_fits = subst (MayCome w.cluster (node_at w.nodes q) request) (sym whole_is) (fits_lent w v q request hand held next shown room lent lent_by lent_there)

    -- the call has what it pulled in its hand again, takes the reply, and goes on or has ended
    pub copy_served : (reply : Reply) (nodes : List (List Replica)) (back : Lent) (hand1 taken : InHand) (place : Option InHand) (end : Option Outcome) (details : Details) (call : CallId) (label : Label) → ServedAs w q request lent1 back reply nodes →
        hand1 ≡ record hand { snapshot = back.snap } → taken ≡ hand_told w.cluster reply hand1 → end ≡ hand_outcome w.cluster reply hand1 → place ≡ left end taken → details ≡ ended_details end (details_told reply back) → call ≡ hand.call →
        label ≡ Stepped call opwords.Copy (verb_of request) (Some (ckpt_of request)) (Some q) (word_of reply) end details → IsStep v w (record w { nodes = nodes; hands = set_at w.hands v place }) label
    copy_served reply nodes back hand1 taken place end details call label served hand1_is taken_is end_is place_is details_are call_is label_is =
        let whole : Lent = lent_with request hand kept lent in
        let p : Payload = payload_of whole in
        let got : ServedAs w q request whole back reply nodes = subst (λ (z : Lent). ServedAs w q request z back reply nodes) whole_is served in
        let d : StepDone = its_done w v q request hand p reply in
        let its : Option Snapshot = its_copy w v q request hand p reply in
        let same : hand1 ≡ with_made hand its (its_made w v q request hand p reply) = hand1_is ∙ (λ i. with_made hand (got.snapshot i) (sym (made_plain hand.op request reply (its_details w v q request hand p reply) hand.made (ap (λ op. is_creation (update_of op)) copies.op)) i)) in
        let asks : AsksNode w.cluster hand1.driver q request = subst (λ (h : InHand). AsksNode w.cluster h.driver q request) (sym hand1_is) (asks_of w v q request hand held next) in
        let takes : taken ≡ hand_taken d (with_made hand its (its_made w v q request hand p reply)) = taken_is ∙ hand_keeps w.cluster reply q request hand1 asks ∙ ap (hand_taken d) same in
        let ends : end ≡ its_end w v q request hand p reply = end_is ∙ hand_ends w.cluster reply q request hand1 taken asks taken_is ∙ ap (hand_end w.cluster d reply) takes in
        let left_is : place ≡ left (its_end w v q request hand p reply) (hand_taken d (with_made hand its (its_made w v q request hand p reply))) = place_is ∙ (λ i. left (ends i) (takes i)) in
        let new_is : record w { nodes = nodes; hands = set_at w.hands v place } ≡ served_world w v q request hand p reply
        = λ i. record w { nodes = got.nodes_are i; tables = sym (tables_stay request (client_by v) hand.op reply (its_iteration w v q request hand p reply) w.tables of_copying) i; hands = set_at w.hands v (left_is i) } in
        let told : details ≡ ended_details (its_end w v q request hand p reply) (its_details w v q request hand p reply) = details_are ∙ (λ i. ended_details (ends i) (got.details i)) in
        let named : Stepped hand.call (word_of_op hand.op) (verb_of request) (Some (ckpt_of request)) (Some q) (word_of reply) (its_end w v q request hand p reply) (ended_details (its_end w v q request hand p reply) (its_details w v q request hand p reply)) ≡ label
        = (λ i. Stepped (sym call_is i) (word_of_op (copies.op i)) (verb_of request) (Some (ckpt_of request)) (Some q) (word_of reply) (sym ends i) (sym told i)) ∙ sym label_is in
        subst (λ (z : World × Label). IsStep v w z.0 z.1) (λ i. (sym new_is i, named i))
        (answered_is w v q request hand held next shown to p reply (lent_carries request hand kept lent lent_by) got.may (valid_for request kept of_copying))
