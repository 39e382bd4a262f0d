-- What the copying to a node that has come back does next, and how it ends, by its own steps and the record.
use Rattle.std.specs.Prelude.{ℕ, ◌<◌, List, Option, Some, None, is_some, find, Bool, true, false, not, ◌&&◌, ◌==◌, if◌then◌else◌, slice_index}
use Rattle.ckpt_types.specs.declared.ais_error.AisError.TheVariants.{NotExist, TryAgain}
use Rattle.ckpt_types.specs.declared.answers.Answer.TheVariants as answers
use Rattle.ckpt_types.specs.declared.answers.Cause.TheVariants.{Plain, Generations}
use Rattle.ckpt_types.specs.declared.answers.Outcome.{Outcome}
use Rattle.ckpt_types.specs.declared.answers.Outcome.TheVariants.{Done, Refused, NoMemory}
use Rattle.ckpt_types.specs.declared.identities.ActorName.{ActorName}
use Rattle.ckpt_types.specs.declared.identities.ActorName.TheVariants.{Client, Node}
use Rattle.ckpt_types.specs.declared.identities.CallId.{CallId}
use Rattle.ckpt_types.specs.Limits.{nodes_max}
use Rattle.node_msgs.specs.declared.requests.Request.TheVariants as requests
use Rattle.node_msgs.specs.declared.next.Next.{Next}
use Rattle.node_msgs.specs.declared.next.Next.TheVariants.{Serve, Event, End}
use Rattle.node_msgs.specs.declared.next.RecordStep.TheVariants as events
use Rattle.node_msgs.specs.declared.replies.Reply.{Reply}
use Rattle.node_msgs.specs.declared.replies.Reply.TheVariants as replies
use Rattle.node_msgs.specs.declared.steps.Verb.{Verb}
use Rattle.node_msgs.specs.declared.steps.Verb.TheVariants as verbs
use Rattle.node_msgs.specs.declared.steps.StepReply.{StepReply}
use Rattle.node_msgs.specs.declared.steps.StepReply.TheVariants as words
use Rattle.node_msgs.specs.Steps.{word_of}
use Rattle.cluster_record.specs.declared.copying.Copying.{Copying}
use Rattle.cluster_record.specs.declared.copying.CopyPhase.{CopyPhase}
use Rattle.cluster_record.specs.declared.copying.CopyPhase.TheVariants.{Reserved, Staging, PulledActive, PulledStaged, Committing}
use Rattle.cluster_record.specs.declared.entries.Entry.{Entry}
use Rattle.cluster_record.specs.DueUpdate.{UpdateState, all_staged, update_begun, update_joined, update_next, update_taken}
use Rattle.cluster_record.specs.Ends.{refused_by, served_done}
use Rattle.cluster_record.specs.LookUps.{identity_in}
use Rattle.cluster_record.specs.Placement.{is_all, is_collocated}
use Rattle.cluster_record.specs.RecordState.{RecordState, entry_of, first_complete}
use Rattle.cluster_record.specs.StepDone.{StepDone, done_of}

-- what a copying keeps
pub record CopyState : Type 0 where
  pub call : CallId
  -- the node that has come back
  pub node : ℕ
  -- the checkpoint that it is at, and how far it is there
  pub copying : Option Copying
  -- its update there, which changes no section, and whose slots keep any other off while a replica is copied
  pub staging : UpdateState

-- the call is of one of the nodes
abbrev pub IsNode : ActorName → Type 0
IsNode (Node r) = r < nodes_max
IsNode (Client c) = ⊥

-- the node that has begun a call
abbrev pub node_of : ActorName → ℕ
node_of (Node r) = r
node_of (Client c) = 0

-- one that begins is at no checkpoint, and copies to the node that has begun it
abbrev pub copy_begun : CallId → UpdateState → CopyState
copy_begun call u = record { call = call; node = node_of call.actor; copying = None; staging = u }

-- ---- which checkpoints its node lacks

-- a node lacks a replica of a checkpoint that is made, is not collocated, and is not complete there
abbrev pub lacks_replica : ℕ → Entry → Bool
lacks_replica r e = not (is_some e.making) && not (is_collocated e.attributes) && (slice_index e.complete r == 0)

-- the first of these, in order of identity
abbrev pub next_to_copy : ℕ → List Entry → Option ℕ
next_to_copy r entries = identity_in (find (lacks_replica r) entries)

-- the node reserves for that one; where it lacks none, the copying is done
abbrev pub reserve_next : ℕ → Option ℕ → Next
reserve_next r None = End (Done answers.Nothing)
reserve_next r (Some k) = Serve r (requests.Reserve k)

-- what is next where it is at no checkpoint, or has no more to do at that one
abbrev pub onward : RecordState → CopyState → Next
onward R s = reserve_next s.node (next_to_copy s.node R.entries)

-- ---- what is next at a checkpoint

-- where an update is done, this is next
abbrev pub unless_done : Next → Next → Next
unless_done behind (End (Done answer)) = behind
unless_done behind next = next

-- what its update does next, and behind that the next checkpoint
abbrev pub staging_next : RecordState → CopyState → Next
staging_next R s = unless_done (onward R s) (update_next R s.staging)

-- a replica is pulled; without one it is refused with NOT_EXIST
abbrev pub pull_at : CallId → ℕ → Option ℕ → Next
pull_at call k None = End (Refused NotExist Plain)
pull_at call k (Some r) = Serve r (requests.Pull call k)

-- behind the reservation: where updates go to all replicas, its update is staged; else the active is pulled
abbrev pub reserved_next : RecordState → CopyState → ℕ → Entry → Bool → Next
reserved_next R s k e true = staging_next R s
reserved_next R s k e false = pull_at s.call k e.active

-- while its update is being staged: once it is on all complete nodes, the lowest of them is pulled
abbrev pub staged_next : RecordState → CopyState → ℕ → Entry → Bool → Next
staged_next R s k e true = pull_at s.call k (first_complete 0 e.complete)
staged_next R s k e false = staging_next R s

-- what the active had is completed in the generation in which it was pulled; in another one it is to try again
abbrev pub complete_in : CopyState → ℕ → ℕ → ℕ → Next
complete_in s k pulled present =
    if pulled == present then Event (events.Complete k s.node None)
    else End (Refused TryAgain (Generations pulled present))

-- what is next at a checkpoint that is there, by how far it is
abbrev pub phase_next : RecordState → CopyState → ℕ → Entry → CopyPhase → Next
phase_next R s k e Reserved = reserved_next R s k e (is_all e.attributes)
phase_next R s k e Staging = staged_next R s k e (all_staged R s.staging)
phase_next R s k e (PulledActive generation) = complete_in s k generation e.generation
phase_next R s k e PulledStaged = Event (events.Complete k s.node (Some s.staging.moment))
phase_next R s k e Committing = staging_next R s

-- a checkpoint that is gone is left
abbrev pub copy_on : RecordState → CopyState → Copying → Option Entry → Next
copy_on R s c None = onward R s
copy_on R s c (Some e) = phase_next R s c.ckpt e c.phase

-- what is next by the checkpoint that it is at, where it is at one
abbrev pub copy_at : RecordState → CopyState → Option Copying → Next
copy_at R s None = onward R s
copy_at R s (Some c) = copy_on R s c (entry_of c.ckpt R.entries)

-- what is next of a copying, by the record
abbrev pub copy_next : RecordState → CopyState → Next
copy_next R s = copy_at R s s.copying

-- ---- behind a step

-- it is at the same checkpoint, and so much further there
abbrev pub with_phase : (CopyPhase → CopyPhase) → Option Copying → Option Copying
with_phase change None = None
with_phase change (Some c) = Some (record c { phase = change c.phase })

-- behind a reservation it is at that checkpoint, where its update has staged nowhere
abbrev pub reserve_taken : CopyState → Option ℕ → StepReply → CopyState
reserve_taken s (Some k) words.Ok = record s { copying = Some (record { ckpt = k; phase = Reserved }); staging = update_begun s.call k }
reserve_taken s k reply = s

-- from the first step of its update on, that is being staged
abbrev pub staging_phase : CopyPhase → CopyPhase
staging_phase Reserved = Staging
staging_phase phase = phase

-- a pull is of the active, in this generation of the checkpoint, or of a replica while its update is staged on all
abbrev pub pulled_phase : ℕ → CopyPhase → CopyPhase
pulled_phase generation Reserved = PulledActive generation
pulled_phase generation Staging = PulledStaged
pulled_phase generation phase = phase

-- behind a pull it keeps which of both it was
abbrev pub pull_taken : ℕ → CopyState → StepReply → CopyState
pull_taken generation s words.Ok = record s { copying = with_phase (pulled_phase generation) s.copying }
pull_taken generation s reply = s

-- behind a completion of what it has pulled while its update was staged on all, that has its slot at its node too, with this incarnation, and is
-- committed; of what the active had, it is at no checkpoint any more
abbrev pub behind_completion_in : ℕ → CopyState → ℕ → CopyPhase → CopyState
behind_completion_in incarnation s k PulledStaged = record s {
  copying = Some (record { ckpt = k; phase = Committing });
  staging = update_joined s.node incarnation s.staging;
}
behind_completion_in incarnation s k phase = record s { copying = None }

-- the same, by the checkpoint that it is at
abbrev pub behind_completion : ℕ → CopyState → Option Copying → CopyState
behind_completion incarnation s None = s
behind_completion incarnation s (Some c) = behind_completion_in incarnation s c.ckpt c.phase

-- what it keeps behind a completion, where that was done, its node being up with this incarnation
abbrev pub complete_taken : ℕ → CopyState → StepReply → CopyState
complete_taken incarnation s words.Ok = behind_completion incarnation s s.copying
complete_taken incarnation s reply = s

-- what it keeps behind a step of this kind; what is no reservation, no pull and no completion is a step of its update
abbrev pub copy_taken_by : StepDone → CopyState → Verb → CopyState
copy_taken_by d s verbs.Reserve = reserve_taken s d.ckpt d.reply
copy_taken_by d s verbs.Pull = pull_taken d.generation s d.reply
copy_taken_by d s verbs.Complete = complete_taken (slice_index d.up s.node) s d.reply
copy_taken_by d s verb = record s { copying = with_phase staging_phase s.copying; staging = update_taken d s.staging }

-- what a copying keeps behind a step
abbrev pub copy_taken : StepDone → CopyState → CopyState
copy_taken d s = copy_taken_by d s d.verb

-- ---- how it takes a reply

-- the checkpoint that it is at, where it is at one
abbrev pub ckpt_at : Option Copying → Option ℕ
ckpt_at None = None
ckpt_at (Some c) = Some c.ckpt

-- its step of the record, which is a completion, as it is told of it
abbrev pub complete_done : RecordState → CopyState → Reply → StepDone
complete_done R s reply = done_of R verbs.Complete (ckpt_at s.copying) (Some s.node) (word_of reply)

-- what it keeps behind the reply to what is next
abbrev pub copy_told_by : RecordState → Reply → CopyState → Next → CopyState
copy_told_by R reply s (Serve r request) = copy_taken (served_done R request r reply) s
copy_told_by R reply s (Event step) = copy_taken (complete_done R s reply) s
copy_told_by R reply s (End outcome) = s

-- what it keeps behind a reply; that of a step of the record comes with the record behind the step
abbrev pub copy_told : RecordState → Reply → CopyState → CopyState
copy_told R reply s = copy_told_by R reply s (copy_next R s)

-- it ends with OK where that is next
abbrev pub done_by : Next → Option Outcome
done_by (End (Done answer)) = Some (Done answer)
done_by next = None

-- how a reply ends it that is as it is behind that: in the step that leaves nothing, with OK; for want of memory; or refused as any call
abbrev pub copy_end : RecordState → Reply → CopyState → Option Outcome
copy_end R (replies.Done answer) s = done_by (copy_next R s)
copy_end R replies.NoMemory s = Some NoMemory
copy_end R reply s = refused_by R reply

-- how the reply to what is next ends it, if it does; what the record alone decides ends it so
abbrev pub copy_outcome_by : RecordState → Reply → CopyState → Next → Option Outcome
copy_outcome_by R reply s (End outcome) = Some outcome
copy_outcome_by R reply s next = copy_end R reply (copy_told_by R reply s next)

-- how a reply ends a copying, if it does; that of a step of the record comes with the record behind the step
abbrev pub copy_outcome : RecordState → Reply → CopyState → Option Outcome
copy_outcome R reply s = copy_outcome_by R reply s (copy_next R s)
