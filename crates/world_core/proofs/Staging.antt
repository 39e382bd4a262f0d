-- The steps of an update, as the code takes them: a stage, the refusal of one, and a commit.
use Rattle.std.proofs.Common.{◌≡◌, ◌⊎◌, inl, inr, ℕ, ℤ, Bool, true, false, List, refl, sym, ap, subst, ◌∙◌}
use Rattle.std.specs.Prelude.{Option, Some, None, Result, Ok, Err, IfSome, IsSomeAnd}
use Rattle.ckpt_types.specs.declared.answers.Answer.{Answer}
use Rattle.ckpt_types.specs.declared.answers.Answer.TheVariants as answers
use Rattle.ckpt_types.specs.declared.answers.Outcome.{Outcome}
use Rattle.ckpt_types.specs.declared.identities.CallId.{CallId}
use Rattle.ckpt_types.specs.declared.update.Update.{Update}
use Rattle.ckpt_types.specs.declared.update.Update.TheVariants as updates
use Rattle.ckpt_types.specs.Asks.{update_of}
use Rattle.ckpt_types.specs.Sections.{Section}
use Rattle.ckpt_types.specs.Updates.{Refusal}
use Rattle.node_msgs.specs.declared.next.Next.TheVariants.{Serve}
use Rattle.node_msgs.specs.declared.replies.Reply.{Reply}
use Rattle.node_msgs.specs.declared.replies.Reply.TheVariants as replies
use Rattle.node_msgs.specs.declared.requests.Request.{Request}
use Rattle.node_msgs.specs.declared.requests.Request.TheVariants as requests
use Rattle.node_msgs.specs.declared.steps.StepReply.TheVariants as words
use Rattle.node_msgs.specs.declared.steps.Verb.TheVariants as verbs
use Rattle.node_msgs.specs.declared.details.Details.{Details}
use Rattle.node_msgs.specs.declared.details.Details.TheVariants as beside
use Rattle.run_labels.specs.declared.labels.Label.{Label}
use Rattle.run_labels.specs.declared.labels.Label.TheVariants.{Stepped}
use Rattle.ckpt_types.specs.declared.words.OpWord.{OpWord}
use Rattle.ckpt_types.specs.OpWord.{word_of_op}
use Rattle.cluster_record.specs.Calls.{left}
use Rattle.cluster_record.specs.RecordState.{RecordState}
use Rattle.cluster_record.specs.declared.calls.UpdatePhase.{UpdatePhase}
use Rattle.cluster_record.specs.declared.calls.UpdatePhase.TheVariants.{Staging, Committing, Claiming, Claimed, Withdrawing, Resolving}
use Rattle.cluster_record.specs.DueUpdate.{UpdateState, commit_end, committing}
use Rattle.cluster_record.specs.StepDone.{StepDone, done_of, last_having, set_node}
use Rattle.node_msgs.specs.Requests.{ckpt_of}
use Rattle.node_msgs.specs.Steps.{verb_of, word_of}
use Rattle.ckpt_machine.specs.Drivers.{Driver}
use Rattle.ckpt_machine.specs.Drivers as drivers
use Rattle.ckpt_machine.specs.Driving.{driver_taken, done_end}
use Rattle.ckpt_machine.specs.Due.{driver_of, ended_details}
use Rattle.ckpt_machine.specs.Facts.{IsOwnStaged, IsOwnWhere, IsToCommit}
use Rattle.ckpt_machine.specs.Machine.{CallState, Staged}
use Rattle.ckpt_machine.specs.Shown.{shown_slot}
use Rattle.replica.specs.declared.replica.StageRefused.{StageRefused}
use Rattle.replica.specs.Replicas.{Replica, answer_unless, committed, outcome_on, staged}
use Rattle.stage_slot.specs.Slots.{Slot, IsOwnedBy, owner_of}
use Rattle.node_core.specs.Fitting.{TakesUpdate}
use Rattle.node_core.specs.Nodes.{MayReply, replica_served}
use Rattle.node_core.specs.Payloads.{Payload, no_payload, update_alone}
use Rattle.node_core.specs.Seen.{RecordSeen, record_seen}
use Rattle.node_core.specs.Serving.{reply_at, details_at, commit_answer, slot_id, stage_reply, update_answer}
use Rattle.node_core.specs.StageReplies.{reply_refused, reply_told}
use Rattle.client_calls.specs.declared.in_hand.InHand.{InHand}
use Rattle.world_core.specs.declared.world.World.{World}
use Rattle.ckpt_machine.specs.Nodes.{node_at, nodes_after, replica_in, with_changed}
use Rattle.client_calls.specs.Lending.{IsValidFor}
use Rattle.world_core.specs.TablesLending.{tables_lending, tables_keeping}
use Rattle.world_core.specs.Happenings.{IsNext, IsStep}
use Rattle.cluster_record.specs.Ends.{ended_unless, served_done}
use Rattle.client_calls.specs.HandSteps.{hand_taken, hand_end, end_by}
use Rattle.world_core.specs.Shows.{History, IsShown, HasNumbersLeft}
use Rattle.world_core.specs.TablesState.{kept_by}
use Rattle.client_calls.specs.UpdateSteps.{IsUpdate, is_creation}
use Rattle.world_core.proofs.Carrying.{payload_with}
use Rattle.ckpt_machine.proofs.Carried.{GoesToReplica, Carries}
use Rattle.world_core.proofs.Serve.{its_copy, its_end, its_details, its_iteration, its_made, served_world}
use Rattle.world_core.proofs.CallSteps.{known}
use Rattle.world_core.proofs.Held.{driver_is, state_in, with_made}
use Rattle.world_core.proofs.MadeIds.{made_plain}
use Rattle.ckpt_machine.proofs.Reserving.{copy_kept}
use Rattle.world_core.specs.HandsState.{HandsState, hand_at, set_at}
use Rattle.ckpt_types.specs.declared.identities.ActorName.TheVariants.{Client}
use Rattle.ckpt_types.specs.declared.identities.Who.{Who}
use Rattle.ckpt_types.specs.declared.identities.Who.TheVariants.{Actor}
use Rattle.client_calls.specs.Names.{client_by}
use Rattle.world_core.specs.Alone.{ended_at}
use Rattle.world_core.proofs.Stepping.{its_nodes, its_ready, its_replica, its_room, its_served, its_staged, its_there, answered_is}

-- ---- what is answered, and told beside it

-- where nothing is told, nothing is told beside an end
pub ended_none : (end : Option Outcome) (details : Details) → beside.Nothing ≡ details → beside.Nothing ≡ ended_details end details
ended_none None details none = refl
ended_none (Some end) details none = none

stage_details : (call : CallId) (k : ℕ) (t : ℤ) (p : Payload) (seen : RecordSeen) (y : Option Replica) → beside.Nothing ≡ details_at (requests.Stage call k t) p seen y
stage_details call k t p seen None = refl
stage_details call k t p seen (Some x) = refl

-- a stage is answered as the replica tells it
stage_told : (after : Result (List Section) Refusal) (slot : Option Slot) → reply_told answers.Nothing (answer_unless (owner_of slot) after) ≡ stage_reply after slot
stage_told (Ok sections) None = refl
stage_told (Err why) None = refl
stage_told after (Some slot) = refl

-- a commit answers that a section is made, or nothing
answer_either : (o : Option Slot) → (commit_answer o ≡ answers.Nothing) ⊎ (commit_answer o ≡ answers.Created)
answer_either None = inl refl
answer_either (Some slot) = by_update slot.update where
  by_update : (u : Update) → (update_answer u ≡ answers.Nothing) ⊎ (update_answer u ≡ answers.Created)
  by_update (updates.Create new expiration bytes) = inr refl
  by_update u = inl refl

-- and then it tells no identifier
tells_none : (sections : List Section) (o : Option Slot) → commit_answer o ≡ answers.Nothing → slot_id sections o ≡ beside.Nothing
tells_none sections None is = refl
tells_none sections (Some slot) is = by_update slot.update is where
  by_update : (u : Update) → update_answer u ≡ answers.Nothing → slot_id sections (Some (record slot { update = u })) ≡ beside.Nothing
  by_update (updates.Create new expiration bytes) is = absurd (cc is)
  by_update u is = refl

makes_section : (u : Update) → update_answer u ≡ answers.Created → is_creation u ≡ true
makes_section (updates.Create new expiration bytes) is = refl
makes_section (updates.Delete id) is = absurd (cc is)
makes_section (updates.SetExpiration id expiration) is = absurd (cc is)
makes_section (updates.Write elements) is = absurd (cc is)
makes_section (updates.Overwrite id bytes) is = absurd (cc is)
makes_section updates.Nothing is = absurd (cc is)

-- the commit of a section by an update that makes none is of what it has claimed, and ends nothing
module _ (R : RecordState) (k r : Option ℕ) (a : Answer) (s : CallState) (staged : Staged) (plain : is_creation (update_of s.op) ≡ false) (made : is_creation staged.update ≡ true) where
  not_own : {X : Type 0} → IsOwnStaged s staged → X
  not_own own = let bad : true ≡ false = sym made ∙ ap is_creation own.update ∙ plain in absurd (cc bad)

  resolves_by : (u : UpdateState) (phase : UpdatePhase) → IsOwnWhere s phase staged → let d = done_of R verbs.Commit k r words.Ok in commit_end (committing phase) a (last_having 0 d.complete (set_node d.node u.owned 0)) ≡ None
  resolves_by u Staging own = not_own own
  resolves_by u Committing own = not_own own
  resolves_by u Claiming own = refl
  resolves_by u Claimed own = refl
  resolves_by u Withdrawing own = refl
  resolves_by u Resolving own = refl

  resolves : (x : Driver) → IsUpdate x → IsToCommit s x staged → let d = done_of R verbs.Commit k r words.Ok in done_end R d a (driver_taken d x) ≡ None
  resolves (drivers.Update u) is own = resolves_by u u.phase own
  resolves x is own = absurd is

-- a stage that was done ends no update
stage_goes_on : (R : RecordState) (k r : Option ℕ) (a : Answer) (x : Driver) → IsUpdate x → None ≡ done_end R (done_of R verbs.Stage k r words.Ok) a (driver_taken (done_of R verbs.Stage k r words.Ok) x)
stage_goes_on R k r a (drivers.Update u) is = refl
stage_goes_on R k r a x is = absurd is

-- ---- the steps

-- a request that lends nothing of a table and pulls nothing is answered, with the parts of the step as the code names them
module _ (w : World) (v : Who) (r : ℕ) (request : Request) (hand : InHand) (held : hand_at w.hands v ≡ Some hand) (next : IsNext w v (Serve r request)) (shown : IsShown w) (goes : GoesToReplica request) (p : Payload) (carries : Carries request p (payload_with hand (kept_by w.tables (client_by v)))) (valid : IsValidFor request (kept_by w.tables (client_by v))) (nodes : List (List Replica)) (word : OpWord) (word_is : word ≡ word_of_op hand.op) where
  pub named_is : (reply : Reply) (hands : HandsState) (end : Option Outcome) (details : Details) → MayReply (record_seen w.cluster (ckpt_of request) r) (node_at w.nodes r) request p reply → nodes ≡ nodes_after w.cluster w.nodes r request p reply →
      tables_keeping request (client_by v) hand.op reply (its_iteration w v r request hand p reply) (tables_lending request (client_by v) hand.op w.tables) ≡ w.tables → end ≡ its_end w v r request hand p reply → hands ≡ set_at w.hands v (left end (hand_taken (served_done w.cluster request r reply) hand)) → its_copy w v r request hand p reply ≡ hand.snapshot → its_made w v r request hand p reply ≡ hand.made →
      details ≡ ended_details (its_end w v r request hand p reply) (its_details w v r request hand p reply) → IsStep v w (ended_at v end (record w { nodes = nodes; hands = hands })) (Stepped hand.call word (verb_of request) (Some (ckpt_of request)) (Some r) (word_of reply) end details)
  named_is reply hands end details may nodes_are tables end_is hands_are copy made details_are =
      let then_hands = hands_are ∙ (λ i. set_at w.hands v (left (end_is i) (hand_taken (served_done w.cluster request r reply) (with_made hand (sym copy i) (sym made i))))) in
      let new_is : ended_at v end (record w { nodes = nodes; hands = hands }) ≡ served_world w v r request hand p reply = λ i. ended_at v (end_is i) (record w { nodes = nodes_are i; tables = sym tables i; hands = then_hands i }) in
      subst (λ (z : World × OpWord × Option Outcome × Details). IsStep v w z.0 (Stepped hand.call z.1 (verb_of request) (Some (ckpt_of request)) (Some r) (word_of reply) z.2 z.3)) (λ i. (sym new_is i, sym word_is i, sym end_is i, sym details_are i))
      (answered_is w v r request hand held next shown goes p reply carries may valid)

-- a stage
module _ (w : World) (c : ℕ) (r : ℕ) (call : CallId) (k : ℕ) (t : ℤ) (hand : InHand) (held : hand_at w.hands (Actor (Client c)) ≡ Some hand) (next : IsNext w (Actor (Client c)) (Serve r (requests.Stage call k t))) (shown : IsShown w) where
  abbrev stage : Request
  stage = requests.Stage call k t

  abbrev here : Replica
  here = its_replica w (Actor (Client c)) r stage hand held next shown tt

  -- the replica there takes an update
  pub takes : HasNumbersLeft w → IsSomeAnd (replica_in w.nodes k r) TakesUpdate
  takes room = subst (λ (o : Option Replica). IsSomeAnd o TakesUpdate) (sym (its_there w (Actor (Client c)) r stage hand held next shown tt)) (record { unmarked = its_ready w (Actor (Client c)) r stage hand held next shown tt; room = its_room w (Actor (Client c)) r stage hand held next shown tt room })

  -- and has answered so
  module _ (update : Update) (update_is : update ≡ update_of hand.op) (told : Result (Unit {0}) StageRefused) (is : IfSome (replica_in w.nodes k r) (λ x. told ≡ answer_unless (owner_of x.slot) (outcome_on x update t))) (nodes : List (List Replica)) (nodes_are : nodes ≡ with_changed k r (staged call update t) w.nodes) (word : OpWord)
      (word_is : word ≡ word_of_op hand.op) where
    abbrev lent : Payload
    lent = update_alone update

    answered : (reply : Reply) → reply_told answers.Nothing told ≡ reply → reply ≡ reply_at stage lent (record_seen w.cluster k r) (replica_served (record_seen w.cluster k r) (node_at w.nodes r) k)
    answered reply so =
        let here_told : told ≡ answer_unless (owner_of here.slot) (outcome_on here update t) = subst (λ (o : Option Replica). IfSome o (λ x. told ≡ answer_unless (owner_of x.slot) (outcome_on x update t))) (its_there w (Actor (Client c)) r stage hand held next shown tt) is in
        sym so ∙ ap (reply_told answers.Nothing) here_told ∙ stage_told (outcome_on here update t) here.slot ∙ ap (reply_at stage lent (record_seen w.cluster k r)) (sym (its_served w (Actor (Client c)) r stage hand held next shown tt))

    nothing : (reply : Reply) → beside.Nothing ≡ its_details w (Actor (Client c)) r stage hand lent reply
    nothing reply = stage_details call k t lent (record_seen w.cluster k r) (replica_served (record_seen w.cluster k r) (node_at w.nodes r) k)

    told_so : (reply : Reply) (hands : HandsState) (end : Option Outcome) → reply_told answers.Nothing told ≡ reply → end ≡ its_end w (Actor (Client c)) r stage hand lent reply → hands ≡ set_at w.hands (Actor (Client c)) (left end (hand_taken (served_done w.cluster stage r reply) hand)) →
        IsStep (Actor (Client c)) w (record w { nodes = nodes; hands = hands }) (Stepped hand.call word verbs.Stage (Some k) (Some r) (word_of reply) end beside.Nothing)
    told_so reply hands end so end_is hands_are =
        named_is w (Actor (Client c)) r stage hand held next shown tt lent update_is tt nodes word word_is reply hands end beside.Nothing (answered reply so) (nodes_are ∙ its_nodes w (Actor (Client c)) r stage hand held next shown tt lent reply) refl end_is hands_are (copy_kept stage (λ x s. refl) (replica_served (record_seen w.cluster k r) (node_at w.nodes r) k) hand.snapshot) refl
        (ended_none (its_end w (Actor (Client c)) r stage hand lent reply) (its_details w (Actor (Client c)) r stage hand lent reply) (nothing reply))

    -- it is staged
    pub stage_is : (taken : InHand) (label : Label) → IsUpdate hand.driver → reply_told answers.Nothing told ≡ replies.Done answers.Nothing →
        taken ≡ hand_taken (done_of w.cluster verbs.Stage (Some k) (Some r) words.Ok) hand → label ≡ Stepped hand.call word verbs.Stage (Some k) (Some r) words.Ok None beside.Nothing → IsStep (Actor (Client c)) w (record w { nodes = nodes; hands = set_at w.hands (Actor (Client c)) (Some taken) }) label
    stage_is taken label update_driver so taken_is label_is =
        subst (IsStep (Actor (Client c)) w (record w { nodes = nodes; hands = set_at w.hands (Actor (Client c)) (Some taken) })) (sym label_is)
        (told_so (replies.Done answers.Nothing) (set_at w.hands (Actor (Client c)) (Some taken)) None so (stage_goes_on w.cluster (Some k) (Some r) answers.Nothing hand.driver update_driver) (ap (λ (h : InHand). set_at w.hands (Actor (Client c)) (Some h)) taken_is))

    -- it is refused
    pub stage_refused : (refused : StageRefused) (place : Option InHand) → told ≡ Err refused → (let d = served_done w.cluster stage r (reply_refused refused) in place ≡ left (end_by w.cluster d (reply_refused refused) hand) (hand_taken d hand)) →
        IsStep (Actor (Client c)) w (record w { nodes = nodes; hands = set_at w.hands (Actor (Client c)) place }) (Stepped hand.call word verbs.Stage (Some k) (Some r) (word_of (reply_refused refused)) (end_by w.cluster (served_done w.cluster stage r (reply_refused refused)) (reply_refused refused) hand) beside.Nothing)
    stage_refused refused place so place_is =
        let reply = reply_refused refused in
        told_so reply (set_at w.hands (Actor (Client c)) place) (end_by w.cluster (served_done w.cluster stage r reply) reply hand) (ap (reply_told answers.Nothing) so) refl (ap (set_at w.hands (Actor (Client c))) place_is)

-- a commit
module _ (w : World) (c : ℕ) (r : ℕ) (call : CallId) (k : ℕ) (hand : InHand) (held : hand_at w.hands (Actor (Client c)) ≡ Some hand) (next : IsNext w (Actor (Client c)) (Serve r (requests.Commit call k))) (shown : IsShown w) where
  abbrev commit : Request
  commit = requests.Commit call k

  abbrev its : Replica
  its = its_replica w (Actor (Client c)) r commit hand held next shown tt

  -- the slot of the replica there is the call's
  pub owns : IsSomeAnd (replica_in w.nodes k r) (λ x. IsOwnedBy call x.slot)
  owns = subst (λ (o : Option Replica). IsSomeAnd o (λ x. IsOwnedBy call x.slot)) (sym (its_there w (Actor (Client c)) r commit hand held next shown tt)) (its_ready w (Actor (Client c)) r commit hand held next shown tt)

  module _ (plain : is_creation (update_of hand.op) ≡ false) (nodes : List (List Replica)) (nodes_are : nodes ≡ with_changed k r (λ x. committed x x.slot) w.nodes) (word : OpWord) (word_is : word ≡ word_of_op hand.op) where
    abbrev client : Who
    client = Actor (Client c)

    abbrev h : History
    h = shown.shows.history

    abbrev d : StepDone
    d = done_of w.cluster verbs.Commit (Some k) (Some r) words.Ok

    done_by : (a : Answer) → commit_answer its.slot ≡ a → replies.Done a ≡ reply_at commit no_payload (record_seen w.cluster k r) (replica_served (record_seen w.cluster k r) (node_at w.nodes r) k)
    done_by a is = sym (ap (reply_at commit no_payload (record_seen w.cluster k r)) (its_served w client r commit hand held next shown tt) ∙ ap replies.Done is)

    none_told : (reply : Reply) → commit_answer its.slot ≡ answers.Nothing → beside.Nothing ≡ its_details w client r commit hand no_payload reply
    none_told reply is = sym (ap (details_at commit no_payload (record_seen w.cluster k r)) (its_served w client r commit hand held next shown tt) ∙ tells_none its.sections its.slot is)

    -- where it makes a section it ends nothing
    none_ends : IsUpdate hand.driver → commit_answer its.slot ≡ answers.Created → (a : Answer) → hand_end w.cluster d (replies.Done a) (hand_taken d hand) ≡ None
    none_ends update made a = by_slot its.slot made (its_staged w client r commit hand held next shown tt call k refl) where
      by_slot : (p : Option Slot) → commit_answer p ≡ answers.Created → IsSomeAnd (shown_slot (h.origins k r) p) (IsToCommit (state_in h client hand) (driver_of (state_in h client hand))) → hand_end w.cluster d (replies.Done a) (hand_taken d hand) ≡ None
      by_slot None made there = absurd there
      by_slot (Some slot) made there =
          let staged : Staged = record { owner = slot.owner; origin = h.origins k r; update = slot.update; moment = slot.moment } in
          resolves w.cluster (Some k) (Some r) a (state_in h client hand) staged plain (makes_section slot.update made) hand.driver update
          (subst (λ x. IsToCommit (state_in h client hand) x staged) (sym (driver_is w h client hand held (known w shown).fits)) there)

    -- it is committed, with this answer
    committed_as : (a : Answer) → commit_answer its.slot ≡ a → served_done w.cluster commit r (replies.Done a) ≡ d → (goes_on : Bool) (taken : InHand) (place : Option InHand) (label : Label) → taken ≡ hand_taken d hand → ended_unless goes_on ≡ hand_end w.cluster d (replies.Done a) taken →
        beside.Nothing ≡ ended_details (its_end w client r commit hand no_payload (replies.Done a)) (its_details w client r commit hand no_payload (replies.Done a)) → place ≡ left (ended_unless goes_on) taken →
        label ≡ Stepped hand.call word verbs.Commit (Some k) (Some r) words.Ok (ended_unless goes_on) beside.Nothing → IsStep client w (record w { nodes = nodes; hands = set_at w.hands client place }) label
    committed_as a answer same goes_on taken place label taken_is end_is details_is place_is label_is =
        subst (IsStep client w (record w { nodes = nodes; hands = set_at w.hands client place })) (sym label_is)
        (named_is w client r commit hand held next shown tt no_payload tt tt nodes word word_is (replies.Done a) (set_at w.hands client place) (ended_unless goes_on) beside.Nothing (done_by a answer) (nodes_are ∙ its_nodes w client r commit hand held next shown tt no_payload (replies.Done a)) refl
        (end_is ∙ ap (hand_end w.cluster d (replies.Done a)) taken_is ∙ ap (λ e. hand_end w.cluster e (replies.Done a) (hand_taken e hand)) (sym same))
        (ap (set_at w.hands client) (place_is ∙ ap (left (ended_unless goes_on)) (taken_is ∙ ap (λ e. hand_taken e hand) (sym same))))
        (copy_kept commit (λ x s. refl) (replica_served (record_seen w.cluster k r) (node_at w.nodes r) k) hand.snapshot)
        (made_plain hand.op commit (replies.Done a) (its_details w client r commit hand no_payload (replies.Done a)) hand.made plain) details_is)

    -- it is committed; the call goes on while it has a slot, and behind what it has claimed
    pub commit_is : (goes_on : Bool) (taken : InHand) (place : Option InHand) (label : Label) → IsUpdate hand.driver → (taken ≡ hand_taken d hand) × (ended_unless goes_on ≡ hand_end w.cluster d (replies.Done answers.Nothing) taken) →
        place ≡ left (ended_unless goes_on) taken → label ≡ Stepped hand.call word verbs.Commit (Some k) (Some r) words.Ok (ended_unless goes_on) beside.Nothing → IsStep client w (record w { nodes = nodes; hands = set_at w.hands client place }) label
    commit_is goes_on taken place label update (taken_is, end_is) place_is label_is = elim (answer_either its.slot) [
      | inl nothing ↦
          let reply : Reply = replies.Done answers.Nothing in
          committed_as answers.Nothing nothing refl goes_on taken place label taken_is end_is (ended_none (its_end w client r commit hand no_payload reply) (its_details w client r commit hand no_payload reply) (none_told reply nothing)) place_is label_is
      | inr made ↦
          let none = none_ends update made in
          let end : ended_unless goes_on ≡ hand_end w.cluster d (replies.Done answers.Created) taken = end_is ∙ ap (hand_end w.cluster d (replies.Done answers.Nothing)) taken_is ∙ none answers.Nothing ∙ sym (ap (hand_end w.cluster d (replies.Done answers.Created)) taken_is ∙ none answers.Created) in
          committed_as answers.Created made refl goes_on taken place label taken_is end (sym (ap (λ e. ended_details e (its_details w client r commit hand no_payload (replies.Done answers.Created))) (none answers.Created))) place_is label_is
    ]
