-- What an all-replicas update does next, by its own steps and the record.
use Rattle.std.specs.Prelude.{ℕ, List, Option, Some, None, Bool, true, false, ◌==◌, slice_set, ℤ, pos}
use Rattle.ckpt_types.specs.declared.ais_error.AisError.TheVariants.{NotExist}
use Rattle.ckpt_types.specs.declared.answers.Answer.{Answer}
use Rattle.ckpt_types.specs.declared.answers.Answer.TheVariants as answers
use Rattle.ckpt_types.specs.declared.answers.Cause.TheVariants.{Plain}
use Rattle.ckpt_types.specs.declared.answers.Outcome.{Outcome}
use Rattle.ckpt_types.specs.declared.answers.Outcome.TheVariants.{Done, Refused}
use Rattle.ckpt_types.specs.declared.identities.CallId.{CallId}
use Rattle.node_msgs.specs.declared.requests.Request.TheVariants as requests
use Rattle.node_msgs.specs.declared.next.Next.{Next}
use Rattle.node_msgs.specs.declared.next.Next.TheVariants.{Serve, End}
use Rattle.node_msgs.specs.declared.steps.Verb.{Verb}
use Rattle.node_msgs.specs.declared.steps.Verb.TheVariants as verbs
use Rattle.node_msgs.specs.declared.steps.StepReply.{StepReply}
use Rattle.node_msgs.specs.declared.steps.StepReply.TheVariants as words
use Rattle.cluster_record.specs.declared.entries.Entry.{Entry}
use Rattle.cluster_record.specs.declared.calls.UpdatePhase.{UpdatePhase}
use Rattle.cluster_record.specs.declared.calls.UpdatePhase.TheVariants.{Staging, Committing, Claiming, Claimed, Withdrawing, Resolving}
use Rattle.cluster_record.specs.RecordState.{RecordState, complete_of, entry_of, no_nodes}
use Rattle.cluster_record.specs.StepDone.{StepDone, first_lacking, last_having, set_node, incarnation_of}

-- what an all-replicas update keeps
pub record UpdateState : Type 0 where
  pub call : CallId
  pub ckpt : ℕ
  -- by node, the incarnation with which it owns its slot, or 0
  pub owned : List ℕ
  -- the moment of its slots
  pub moment : ℤ
  pub phase : UpdatePhase
  -- how many updates the replicas had of which it has claimed the slots
  pub count : ℕ
  -- whose slot it has met, which is not live; its own call where it has met none
  pub owner : CallId

-- an update has staged nowhere when it begins
abbrev pub update_begun : CallId → ℕ → UpdateState
update_begun call k = record { call = call; ckpt = k; owned = no_nodes; moment = pos 0; phase = Staging; count = 0; owner = call }

-- the moment at which it stages: the record's where it has staged nowhere, else that of its slots
abbrev pub kept_moment : Option ℕ → ℤ → ℤ → ℤ
kept_moment None now kept = now
kept_moment (Some r) now kept = kept

-- it commits at the highest node with a slot of the call; where no slot is left, it is done
abbrev pub commit_at : UpdateState → Option ℕ → Next
commit_at u None = End (Done answers.Nothing)
commit_at u (Some r) = Serve r (requests.Commit u.call u.ckpt)

-- its first commit, where it lacks no node; where it has none either, it is refused with NOT_EXIST
abbrev pub commit_first : UpdateState → Option ℕ → Next
commit_first u None = End (Refused NotExist Plain)
commit_first u (Some r) = commit_at u (Some r)

-- it stages at the lowest complete node that it lacks, at the record's moment where it has staged nowhere
abbrev pub stage_at : UpdateState → ℤ → Option ℕ → Option ℕ → Next
stage_at u now (Some r) last = Serve r (requests.Stage u.call u.ckpt (kept_moment last now u.moment))
stage_at u now None last = commit_first u last

-- it claims at the lowest complete node that it lacks the slot whose owner is not live; where it lacks none, it commits what it has claimed
abbrev pub claim_at : UpdateState → Option ℕ → Option ℕ → Next
claim_at u (Some r) last = Serve r (requests.Claim u.call u.ckpt u.owner)
claim_at u None last = commit_first u last

-- it withdraws at this node what it has claimed there
abbrev pub withdraw_at : UpdateState → ℕ → Next
withdraw_at u r = Serve r (requests.Withdraw u.call u.ckpt)

-- where it has no slot of what it has claimed, or none any more, it stages its own update from the start; else it goes on with what it has claimed
abbrev pub unless_none : UpdateState → ℤ → Option ℕ → Option ℕ → (ℕ → Next) → Next
unless_none u now first None next = stage_at u now first None
unless_none u now first (Some r) next = next r

-- first: the lowest complete node without a slot of the call; last: the highest with one
abbrev pub by_phase : UpdateState → ℤ → Option ℕ → Option ℕ → UpdatePhase → Next
by_phase u now first last Staging = stage_at u now first last
by_phase u now first last Committing = commit_at u last
by_phase u now first last Claiming = claim_at u first last
by_phase u now first last Claimed = unless_none u now first last (λ r. claim_at u first last)
by_phase u now first last Withdrawing = unless_none u now first last (withdraw_at u)
by_phase u now first last Resolving = unless_none u now first last (λ r. commit_at u last)

-- what is next of an update on a checkpoint that is there; without an active replica it is refused with NOT_EXIST
abbrev pub update_led : UpdateState → ℤ → Entry → Option ℕ → Next
update_led u now e None = End (Refused NotExist Plain)
update_led u now e (Some active) = by_phase u now (first_lacking 0 e.complete u.owned) (last_having 0 e.complete u.owned) u.phase

-- what is next by the checkpoint's entry; a checkpoint that is gone is refused with NOT_EXIST
abbrev pub update_on : UpdateState → ℤ → Option Entry → Next
update_on u now None = End (Refused NotExist Plain)
update_on u now (Some e) = update_led u now e e.active

-- what is next of an all-replicas update, by the record
abbrev pub update_next : RecordState → UpdateState → Next
update_next R u = update_on u R.moment (entry_of u.ckpt R.entries)

-- behind a stage: it owns a slot there, and all its slots are of one moment; or it has met the slot of a call that is not live, and is to claim it
abbrev pub stage_taken : StepDone → UpdateState → StepReply → UpdateState
stage_taken d u words.Ok = record u {
  owned = set_node d.node u.owned (incarnation_of d.node d.complete);
  moment = kept_moment (last_having 0 d.complete u.owned) d.moment u.moment;
  phase = Staging;
}
stage_taken d u (words.Held by) = record u { phase = Claiming; owner = by }
stage_taken d u _ = u

-- where it comes to a replica without a slot, the count of updates there tells what becomes of those that it has claimed: where it is the one that they
-- had, no replica has their update, which is withdrawn; else those that are free have it, and it is committed. Where it has claimed nothing, all is
-- over, and it stages its own
abbrev pub free_phase : UpdatePhase → Bool → UpdatePhase
free_phase Claimed true = Withdrawing
free_phase Claimed false = Resolving
free_phase phase same = Staging

-- behind a claim: it owns the slot there, and keeps its count; or it has met the slot of a third call that is not live; or no slot stands there
abbrev pub claim_taken : StepDone → UpdateState → StepReply → UpdateState
claim_taken d u words.Ok = record u {
  owned = set_node d.node u.owned (incarnation_of d.node d.complete);
  count = d.count;
  phase = Claimed;
}
claim_taken d u (words.Held by) = record u { owner = by }
claim_taken d u (words.Free count) = record u { phase = free_phase u.phase (count == u.count) }
claim_taken d u _ = u

-- a commit is of its own update where it has staged that, and else of what it has claimed
abbrev pub committing : UpdatePhase → UpdatePhase
committing Staging = Committing
committing Committing = Committing
committing phase = Resolving

-- behind a commit: its slot there is gone, and it commits on
abbrev pub commit_taken : StepDone → UpdateState → StepReply → UpdateState
commit_taken d u words.Ok = record u { owned = set_node d.node u.owned 0; phase = committing u.phase }
commit_taken d u _ = u

-- behind a withdrawal: its slot there is gone, and it withdraws on
abbrev pub withdraw_taken : StepDone → UpdateState → StepReply → UpdateState
withdraw_taken d u words.Ok = record u { owned = set_node d.node u.owned 0; phase = Withdrawing }
withdraw_taken d u _ = u

-- what the update keeps behind a step of this kind
abbrev pub update_taken_by : StepDone → UpdateState → Verb → UpdateState
update_taken_by d u verbs.Stage = stage_taken d u d.reply
update_taken_by d u verbs.Claim = claim_taken d u d.reply
update_taken_by d u verbs.Withdraw = withdraw_taken d u d.reply
update_taken_by d u verbs.Commit = commit_taken d u d.reply
update_taken_by d u _ = u

-- what the update keeps behind a step
abbrev pub update_taken : StepDone → UpdateState → UpdateState
update_taken d u = update_taken_by d u d.verb

-- it is done with this answer, unless a node is left
abbrev pub done_if_none : Answer → Option ℕ → Option Outcome
done_if_none answer None = Some (Done answer)
done_if_none answer (Some r) = None

-- a commit of its own update ends the call where it leaves no slot of it; one of what it has claimed ends nothing
abbrev pub commit_end : UpdatePhase → Answer → Option ℕ → Option Outcome
commit_end Committing answer last = done_if_none answer last
commit_end phase answer last = None

-- how a call ends by a reply that was done, the driver being as it is after the step
abbrev pub done_end_by : StepDone → Answer → UpdateState → Verb → Option Outcome
done_end_by d answer u verbs.Commit = commit_end u.phase answer (last_having 0 d.complete u.owned)
done_end_by d answer u _ = None

-- ---- its staging, for whoever does more before the commits

-- it stages, lacks no complete node, and has one
abbrev pub staged_by : UpdatePhase → Option ℕ → Option ℕ → Bool
staged_by Staging None (Some r) = true
staged_by phase first last = false

-- by the nodes that are complete
abbrev pub staged_on : List ℕ → UpdateState → Bool
staged_on complete u = staged_by u.phase (first_lacking 0 complete u.owned) (last_having 0 complete u.owned)

-- whether an update is staged on all complete nodes, of which there are some, and is committed on none
abbrev pub all_staged : RecordState → UpdateState → Bool
all_staged R u = staged_on (complete_of (entry_of u.ckpt R.entries)) u

-- it owns its slot at one more node, with this incarnation
abbrev pub update_joined : ℕ → ℕ → UpdateState → UpdateState
update_joined r incarnation u = record u { owned = slice_set u.owned r incarnation }
