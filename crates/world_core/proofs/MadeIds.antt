-- What a creation keeps of its commits, till a look may end it: what stays through its other steps, and what a commit of its own makes.
use Rattle.std.proofs.Common.{◌≡◌, ℕ, Bool, true, false, cond, List, [], ◌∷◌, refl, sym, ap, subst, ◌∙◌}
use Rattle.std.specs.Prelude.{Option, Some, None, IsSomeAnd, ◌==◌}
use Rattle.std.specs.Option.{option_or}
use Rattle.ckpt_types.specs.declared.answers.Answer.TheVariants as answers
use Rattle.ckpt_types.specs.declared.identities.CallId.{CallId}
use Rattle.ckpt_types.specs.declared.identities.Who.{Who}
use Rattle.ckpt_types.specs.declared.operation.Op.{Op}
use Rattle.ckpt_types.specs.declared.update.Update.{Update}
use Rattle.ckpt_types.specs.declared.update.Update.TheVariants as updates
use Rattle.ckpt_types.specs.Asks.{update_of}
use Rattle.ckpt_types.specs.Sections.{Section, present}
use Rattle.ckpt_types.specs.Updates.{new_id}
use Rattle.node_msgs.specs.declared.details.Details.{Details}
use Rattle.node_msgs.specs.declared.replies.Reply.{Reply}
use Rattle.node_msgs.specs.declared.replies.Reply.TheVariants as replies
use Rattle.node_msgs.specs.declared.requests.Request.{Request}
use Rattle.node_msgs.specs.declared.requests.Request.TheVariants as requests
use Rattle.node_msgs.specs.declared.next.RecordStep.{RecordStep}
use Rattle.node_msgs.specs.declared.next.RecordStep.TheVariants as events
use Rattle.node_msgs.specs.declared.steps.StepReply.{StepReply}
use Rattle.node_msgs.specs.declared.steps.StepReply.TheVariants as words
use Rattle.node_msgs.specs.declared.steps.Verb.{Verb}
use Rattle.node_msgs.specs.declared.steps.Verb.TheVariants as verbs
use Rattle.node_msgs.specs.Requests.{ckpt_of}
use Rattle.node_msgs.specs.Steps.{event_verb, verb_of}
use Rattle.stage_slot.specs.Slots.{Slot}
use Rattle.replica.specs.Replicas.{Replica}
use Rattle.node_core.specs.Payloads.{Payload}
use Rattle.node_core.specs.Seen.{RecordSeen}
use Rattle.node_core.specs.Serving.{commit_answer, details_of, id_told, made_id, reply_of, slot_id, told_id, update_answer}
use Rattle.cluster_record.specs.Calls.{same_call}
use Rattle.cluster_record.specs.declared.calls.UpdatePhase.{UpdatePhase}
use Rattle.cluster_record.specs.declared.calls.UpdatePhase.TheVariants.{Staging, Committing, Claiming, Claimed, Withdrawing, Resolving}
use Rattle.cluster_record.specs.DueUpdate.{UpdateState, claim_taken, commit_taken, committing, free_phase, stage_taken, update_taken_by, withdraw_taken}
use Rattle.cluster_record.specs.StepDone.{StepDone}
use Rattle.ckpt_machine.specs.After.{created_by, made_by, made_on}
use Rattle.ckpt_machine.specs.Drivers.{Driver}
use Rattle.ckpt_machine.specs.Drivers as drivers
use Rattle.ckpt_machine.specs.Driving.{driver_taken}
use Rattle.ckpt_machine.specs.Due.{driver_of}
use Rattle.ckpt_machine.specs.Facts.{IsOwnStaged, IsOwnWhere, IsToCommit}
use Rattle.ckpt_machine.specs.Machine.{Machine, CallState, Effect, ReplicaState, Staged}
use Rattle.ckpt_machine.specs.Shown.{shown_replica, shown_slot}
use Rattle.ckpt_machine.proofs.Actors.{same_call-refl}
use Rattle.client_calls.specs.declared.in_hand.InHand.{InHand}
use Rattle.client_calls.specs.MadeIds.{made_behind, made_told, pieces_of}
use Rattle.client_calls.specs.UpdateSteps.{is_creation}
use Rattle.world_core.specs.declared.world.World.{World}
use Rattle.world_core.specs.HandsState.{hand_at}
use Rattle.world_core.specs.Shows.{HasCommitted, History, HistoryFits, KeepsMade, machine_of}
use Rattle.world_core.proofs.Held.{driver_is, hand_fits, state_in}

-- ---- a step that commits nothing

-- it is no commit
abbrev pub IsNoCommit : Verb → Type 0
IsNoCommit verbs.Commit = ⊥
IsNoCommit verb = Unit {0}

-- no step of the record is
pub event_commits_none : (step : RecordStep) → IsNoCommit (event_verb step)
event_commits_none events.Enter = tt
event_commits_none step = tt

-- it makes no identifier
none_created : (m : Machine) (s : CallState) (verb : Verb) (k r : Option ℕ) → IsNoCommit verb → created_by m s verb k r ≡ s.created
none_created m s verbs.Commit k r none = absurd none
none_created m s verb k r none = refl

-- what comes to a replica without a slot does not commit
frees : (phase : UpdatePhase) (same : Bool) → free_phase phase same ≡ Committing → phase ≡ Committing
frees Claimed true is = absurd (cc is)
frees Claimed false is = absurd (cc is)
frees Staging same is = absurd (cc is)
frees Committing same is = refl
frees Claiming same is = absurd (cc is)
frees Withdrawing same is = absurd (cc is)
frees Resolving same is = absurd (cc is)

-- an update that has committed behind it, had before
module _ (d : StepDone) (u : UpdateState) where
  staging : (reply : StepReply) → (stage_taken d u reply).phase ≡ Committing → u.phase ≡ Committing
  staging words.Ok is = absurd (cc is)
  staging (words.Held by) is = absurd (cc is)
  staging reply is = is

  claiming : (reply : StepReply) → (claim_taken d u reply).phase ≡ Committing → u.phase ≡ Committing
  claiming words.Ok is = absurd (cc is)
  claiming (words.Held by) is = is
  claiming (words.Free count) is = frees u.phase (count == u.count) is
  claiming reply is = is

  withdrawing : (reply : StepReply) → (withdraw_taken d u reply).phase ≡ Committing → u.phase ≡ Committing
  withdrawing words.Ok is = absurd (cc is)
  withdrawing reply is = is

  had_committed : (verb : Verb) → IsNoCommit verb → (update_taken_by d u verb).phase ≡ Committing → u.phase ≡ Committing
  had_committed verbs.Stage none is = staging d.reply is
  had_committed verbs.Claim none is = claiming d.reply is
  had_committed verbs.Withdraw none is = withdrawing d.reply is
  had_committed verbs.Commit none is = absurd none
  had_committed verb none is = is

committed_before : (d : StepDone) (x : Driver) → IsNoCommit d.verb → HasCommitted (driver_taken d x) → HasCommitted x
committed_before d (drivers.Update u) none is = had_committed d u d.verb none is
committed_before d (drivers.Once x) none is = absurd is
committed_before d (drivers.Open o) none is = absurd is
committed_before d (drivers.Active a) none is = absurd is
committed_before d (drivers.Sync s) none is = absurd is
committed_before d (drivers.Copy c) none is = absurd is

-- so what a creation has kept, it keeps
pub made_stays : (w : World) (h : History) (v : Who) (hand : InHand) → hand_at w.hands v ≡ Some hand → HistoryFits w h → (verb : Verb) (k r : Option ℕ) (d : StepDone) → d.verb ≡ verb → IsNoCommit verb →
    KeepsMade hand.op (driver_taken d hand.driver) (created_by (machine_of w h) (state_in h v hand) verb k r) hand.made
made_stays w h v hand held fits verb k r d is none has creates =
    (hand_fits w h v hand held fits).made (committed_before d hand.driver (subst IsNoCommit (sym is) none) has) creates ∙ ap id_told (sym (none_created (machine_of w h) (state_in h v hand) verb k r none))

-- ---- a commit

-- a call that has committed its own update behind a commit, has committed that
of_committing : (s : CallState) (slot : Staged) (phase : UpdatePhase) → committing phase ≡ Committing → IsOwnWhere s phase slot → IsOwnStaged s slot
of_committing s slot Staging is own = own
of_committing s slot Committing is own = own
of_committing s slot Claiming is own = absurd (cc is)
of_committing s slot Claimed is own = absurd (cc is)
of_committing s slot Withdrawing is own = absurd (cc is)
of_committing s slot Resolving is own = absurd (cc is)

of_committed : (s : CallState) (d : StepDone) (u : UpdateState) (slot : Staged) (reply : StepReply) → (commit_taken d u reply).phase ≡ Committing → IsOwnWhere s u.phase slot → IsOwnStaged s slot
of_committed s d u slot words.Ok is own = of_committing s slot u.phase is own
of_committed s d u slot reply is own = subst (λ phase. IsOwnWhere s phase slot) is own

own_committed : (s : CallState) (d : StepDone) (x : Driver) (slot : Staged) → d.verb ≡ verbs.Commit → HasCommitted (driver_taken d x) → IsToCommit s x slot → IsOwnStaged s slot
own_committed s d (drivers.Update u) slot verb has own = of_committed s d u slot d.reply (subst (λ (v : Verb). (update_taken_by d u v).phase ≡ Committing) verb has) own
own_committed s d (drivers.Once x) slot verb has own = absurd has
own_committed s d (drivers.Open o) slot verb has own = absurd has
own_committed s d (drivers.Active a) slot verb has own = absurd has
own_committed s d (drivers.Sync x) slot verb has own = absurd has
own_committed s d (drivers.Copy c) slot verb has own = absurd has

-- the commit of a creation of its own tells what it makes
commit_makes : (op : Op) (call : CallId) (k : ℕ) (slot : Slot) (c : CallId) (before : Option (List ℕ)) (kept : Option (List (List ℕ))) (sections : List Section) → slot.update ≡ update_of op → is_creation (update_of op) ≡ true →
    made_told (made_behind op (requests.Commit call k) (replies.Done (commit_answer (Some slot))) (slot_id sections (Some slot)) kept) ≡ id_told (made_by c before sections (shown_slot c (Some slot)))
commit_makes op call k slot c before kept sections same creates = by_update slot.update (ap is_creation same ∙ creates) where
  by_update : (v : Update) → is_creation v ≡ true →
      made_told (made_behind op (requests.Commit call k) (replies.Done (update_answer v)) (told_id v slot.moment sections) kept) ≡ id_told (cond (same_call c c) (option_or (made_id v slot.moment sections) before) before)
  by_update (updates.Create new expiration bytes) is =
      let id : List ℕ = new_id new (present slot.moment sections) in
      ap (λ b. made_told (cond b (Some (id ∷ [])) kept)) creates ∙ ap (λ b. id_told (cond b (Some id) before)) (sym (same_call-refl c))
  by_update (updates.Delete id) is = absurd (cc is)
  by_update (updates.SetExpiration id expiration) is = absurd (cc is)
  by_update (updates.Write elements) is = absurd (cc is)
  by_update (updates.Overwrite id bytes) is = absurd (cc is)
  by_update updates.Nothing is = absurd (cc is)

module _ (w : World) (h : History) (v : Who) (hand : InHand) (held : hand_at w.hands v ≡ Some hand) (fits : HistoryFits w h) (r : ℕ) (E : List Effect) (o : CallId) (x : Replica) where
  abbrev m : Machine
  m = machine_of w h

  abbrev s : CallState
  s = state_in h v hand

  -- a commit
  module _ (call : CallId) (k : ℕ) (d : StepDone) (verb : d.verb ≡ verbs.Commit) (has : HasCommitted (driver_taken d hand.driver)) (creates : is_creation (update_of hand.op) ≡ true) where
    by_slot : (p : Option Slot) → IsSomeAnd (shown_slot o p) (IsToCommit s (driver_of s)) →
        made_told (made_behind hand.op (requests.Commit call k) (replies.Done (commit_answer p)) (slot_id x.sections p) hand.made) ≡ id_told (made_by s.call s.created x.sections (shown_slot o p))
    by_slot None there = absurd there
    by_slot (Some slot) there =
        let staged : Staged = record { owner = slot.owner; origin = o; update = slot.update; moment = slot.moment } in
        let own : IsOwnStaged s staged = own_committed s d hand.driver staged verb has (subst (λ a. IsToCommit s a staged) (sym (driver_is w h v hand held fits)) there) in
        commit_makes hand.op call k slot hand.call s.created hand.made x.sections own.update creates ∙ ap (λ c. id_told (made_by s.call s.created x.sections (shown_slot c (Some slot)))) (sym own.origin)

  -- what is kept behind a request that a replica has served, of which the machine has this
  pub made_served : (request : Request) (q : Payload) (seen : RecordSeen) (reply : Reply) (details : Details) (d : StepDone) → d.verb ≡ verb_of request → reply ≡ reply_of request q seen x → details ≡ details_of request q seen x → m.replicas (ckpt_of request) r ≡ shown_replica E o (Some x) →
      ((call : CallId) (k : ℕ) → request ≡ requests.Commit call k → IsSomeAnd (m.replicas k r) (λ y. IsSomeAnd y.slot (IsToCommit s (driver_of s)))) →
      KeepsMade hand.op (driver_taken d hand.driver) (created_by m s (verb_of request) (Some (ckpt_of request)) (Some r)) (made_behind hand.op request reply details hand.made)
  made_served (requests.Commit call k) q seen reply details d verb reply_is details_is shown commits = λ has creates.
      (λ i. made_told (made_behind hand.op (requests.Commit call k) (reply_is i) (details_is i) hand.made))
      ∙ by_slot call k d verb has creates x.slot (subst (λ (y : Option ReplicaState). IsSomeAnd y (λ y. IsSomeAnd y.slot (IsToCommit s (driver_of s)))) shown (commits call k refl))
      ∙ ap (λ y. id_told (made_on s.call s.created y)) (sym shown)
  made_served (requests.Stage call k t) q seen reply details d verb reply_is details_is shown commits = made_stays w h v hand held fits verbs.Stage (Some k) (Some r) d verb tt
  made_served request q seen reply details d verb reply_is details_is shown commits = made_stays w h v hand held fits (verb_of request) (Some (ckpt_of request)) (Some r) d verb tt

-- ---- what makes no section keeps nothing

pub made_plain : (op : Op) (request : Request) (reply : Reply) (details : Details) (kept : Option (List (List ℕ))) → is_creation (update_of op) ≡ false → made_behind op request reply details kept ≡ kept
made_plain op (requests.Commit call k) (replies.Done answers.Created) details kept plain = ap (λ b. cond b (pieces_of details) kept) plain
made_plain op (requests.Commit call k) reply details kept plain = refl
made_plain op request reply details kept plain = refl
