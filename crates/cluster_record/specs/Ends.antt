-- How a call takes a reply: what its driver keeps behind that, and how that ends it.
use Rattle.std.specs.Prelude.{ℕ, ◌<◌, Option, Some, None, Bool, true, false, if◌then◌else◌}
use Rattle.ckpt_types.specs.declared.ais_error.AisError.TheVariants.{NotExist, TryAgain}
use Rattle.ckpt_types.specs.declared.answers.Answer.{Answer}
use Rattle.ckpt_types.specs.declared.answers.Answer.TheVariants as answers
use Rattle.ckpt_types.specs.declared.answers.Cause.TheVariants.{Plain, Index, Holder, Generations}
use Rattle.ckpt_types.specs.declared.answers.Outcome.{Outcome}
use Rattle.ckpt_types.specs.declared.answers.Outcome.TheVariants.{Done, Refused, NoMemory}
use Rattle.ckpt_types.specs.declared.identities.CallId.{CallId}
use Rattle.ckpt_types.specs.Limits.{nodes_max}
use Rattle.node_msgs.specs.declared.next.Next.{Next}
use Rattle.node_msgs.specs.declared.next.Next.TheVariants.{Serve, Event, End}
use Rattle.node_msgs.specs.declared.next.RecordStep.{RecordStep}
use Rattle.node_msgs.specs.declared.next.RecordStep.TheVariants as events
use Rattle.node_msgs.specs.declared.replies.Reply.{Reply}
use Rattle.node_msgs.specs.declared.replies.Reply.TheVariants as replies
use Rattle.node_msgs.specs.declared.requests.Request.{Request}
use Rattle.node_msgs.specs.Requests.{ckpt_of}
use Rattle.node_msgs.specs.Steps.{verb_of, word_of}
use Rattle.cluster_record.specs.declared.calls.Making.{Making}
use Rattle.cluster_record.specs.declared.entries.Entry.{Entry}
use Rattle.cluster_record.specs.Calls.{same_call}
use Rattle.cluster_record.specs.RecordState.{RecordState, entry_of, named}
use Rattle.cluster_record.specs.StepDone.{StepDone, done_of, counting, count_told, names_live}
use Rattle.cluster_record.specs.DueActive.{ActiveState, active_request, active_taken, active_end}
use Rattle.cluster_record.specs.DueOpen.{OpenState, in_time, made_of, on_making, open_taken}
use Rattle.cluster_record.specs.DueSync.{SyncState, sync_next, sync_taken, sync_ended}
use Rattle.cluster_record.specs.DueUpdate.{UpdateState, update_next, update_taken, done_end_by}

-- what is to be served is so at a node that there may be
abbrev pub IsAtANode : Next → Type 0
IsAtANode (Serve r request) = r < nodes_max
IsAtANode next = Unit {0}

-- what a call keeps of a step that a node served
abbrev pub served_done : RecordState → Request → ℕ → Reply → StepDone
served_done R request r reply = counting (count_told reply) (done_of R (verb_of request) (Some (ckpt_of request)) (Some r) (word_of reply))

-- how any call ends by a reply that was not done; one that another call keeps off ends where that call is live
abbrev pub refused_end : Bool → Reply → Option Outcome
refused_end live (replies.Held by) = if live then Some (Refused TryAgain (Holder by)) else None
refused_end live (replies.Refused error index) = Some (Refused error (Index index))
refused_end live replies.NoReplica = Some (Refused NotExist Plain)
refused_end live (replies.Stale old present) = Some (Refused TryAgain (Generations old present))
refused_end live reply = None

-- the same, by the record
abbrev pub refused_by : RecordState → Reply → Option Outcome
refused_by R reply = refused_end (names_live R (word_of reply)) reply

-- ---- an update of all replicas

-- an update that does not go on is done with this answer
abbrev pub answer_unless : Bool → Answer → Option Outcome
answer_unless true answer = None
answer_unless false answer = Some (Done answer)

-- the same of one that tells nothing
abbrev pub ended_unless : Bool → Option Outcome
ended_unless goes_on = answer_unless goes_on answers.Nothing

-- how an update ends by a reply, being as it is behind that
abbrev pub update_end : StepDone → Reply → UpdateState → Option Outcome
update_end d (replies.Done answer) u = done_end_by d answer u d.verb
update_end d reply u = refused_end d.live reply

-- what an update keeps behind the reply to what is next: a node's changes it, and nothing else
abbrev pub update_told_by : RecordState → Reply → UpdateState → Next → UpdateState
update_told_by R reply u (Serve r request) = update_taken (served_done R request r reply) u
update_told_by R reply u next = u

-- what an update keeps behind a reply
abbrev pub update_told : RecordState → Reply → UpdateState → UpdateState
update_told R reply u = update_told_by R reply u (update_next R u)

-- how the reply to what is next ends an update, if it does; what the record alone decides ends it so
abbrev pub update_outcome_by : RecordState → Reply → UpdateState → Next → Option Outcome
update_outcome_by R reply u (Serve r request) = update_end (served_done R request r reply) reply (update_taken (served_done R request r reply) u)
update_outcome_by R reply u (End outcome) = Some outcome
update_outcome_by R reply u (Event step) = None

-- how a reply ends an update, if it does
abbrev pub update_outcome : RecordState → Reply → UpdateState → Option Outcome
update_outcome R reply u = update_outcome_by R reply u (update_next R u)

-- ---- a call to the active

-- how a call to the active ends by a reply
abbrev pub active_ended : StepDone → Reply → Option Outcome
active_ended d (replies.Done answer) = active_end answer d.verb
active_ended d reply = refused_end d.live reply

-- what a call to the active is told of its step, whichever node is the active
abbrev pub active_done : RecordState → Reply → ActiveState → StepDone
active_done R reply a = done_of R (verb_of (active_request a)) (Some (ckpt_of (active_request a))) None (word_of reply)

-- what a call to the active keeps behind a reply to what it asks for
abbrev pub active_told : RecordState → Reply → ActiveState → ActiveState
active_told R reply a = active_taken (active_done R reply a) a

-- how a reply to what it asks for ends it, if it does
abbrev pub active_outcome : RecordState → Reply → ActiveState → Option Outcome
active_outcome R reply a = active_ended (active_done R reply a) reply

-- ---- an open

-- the call that makes a checkpoint, or holds it, is this one
abbrev pub is_own : CallId → Option CallId → Bool
is_own call None = false
is_own call (Some other) = same_call other call

-- what the call is making under a name of which this is the entry: no node has reserved yet
abbrev pub made_in : CallId → Option Entry → Option Making
made_in call None = None
made_in call (Some e) = if is_own call e.making then made_of (Some e.identity) else None

-- an open that is making nothing is done: it goes on where it has made its checkpoint, and else has opened it
abbrev pub opened_in : CallId → Option Entry → Option Outcome
opened_in call None = None
opened_in call (Some e) = if is_own call e.making then None else Some (Done (answers.Opened e.identity))

-- what an open that is making nothing keeps behind a reply: what it is making then, by its name's entry
abbrev pub named_told : RecordState → Reply → OpenState → OpenState
named_told R (replies.Done answer) o = record o { making = made_in o.call (named o.ask.name R.entries) }
named_told R reply o = o

-- how a reply ends an open that is making nothing, if it does
abbrev pub named_outcome : RecordState → Reply → OpenState → Option Outcome
named_outcome R (replies.Done answer) o = opened_in o.call (named o.ask.name R.entries)
named_outcome R replies.NoMemory o = Some NoMemory
named_outcome R reply o = refused_by R reply

-- what an open that is making keeps behind the reply to what is next: a node's changes it, and nothing else
abbrev pub making_told_by : RecordState → Reply → OpenState → Next → OpenState
making_told_by R reply o (Serve r request) = open_taken (served_done R request r reply) o
making_told_by R reply o next = o

-- how an open that is making ends by a step of the record that is done
abbrev pub making_end : Making → RecordStep → Option Outcome
making_end m events.Finish = Some (Done (answers.Opened m.ckpt))
making_end m events.Undo = Some NoMemory
making_end m step = None

-- how it ends by what the record answers to such a step
abbrev pub making_step_end : RecordState → Reply → Making → RecordStep → Option Outcome
making_step_end R (replies.Done answer) m step = making_end m step
making_step_end R reply m step = refused_by R reply

-- how the reply to what is next ends an open that is making, if it does; what the record alone decides ends it so
abbrev pub making_outcome_by : RecordState → Reply → Making → Next → Option Outcome
making_outcome_by R reply m (Serve r request) = refused_by R reply
making_outcome_by R reply m (End outcome) = Some outcome
making_outcome_by R reply m (Event step) = making_step_end R reply m step

-- what is next of an open that is making, by the record
abbrev pub making_next : RecordState → OpenState → Making → Next
making_next R o m = in_time o.deadline R.moment (on_making R o.ask m)

-- what an open keeps behind a reply, by what it is making
abbrev pub open_told_by : RecordState → Reply → OpenState → Option Making → OpenState
open_told_by R reply o None = named_told R reply o
open_told_by R reply o (Some m) = making_told_by R reply o (making_next R o m)

-- what an open keeps behind a reply; that of a step of the record comes with the record behind the step
abbrev pub open_told : RecordState → Reply → OpenState → OpenState
open_told R reply o = open_told_by R reply o o.making

-- how a reply ends an open, if it does, by what it is making
abbrev pub open_outcome_by : RecordState → Reply → OpenState → Option Making → Option Outcome
open_outcome_by R reply o None = named_outcome R reply o
open_outcome_by R reply o (Some m) = making_outcome_by R reply m (making_next R o m)

-- how a reply ends an open, if it does; that of a step of the record comes with the record behind the step
abbrev pub open_outcome : RecordState → Reply → OpenState → Option Outcome
open_outcome R reply o = open_outcome_by R reply o o.making

-- ---- a call that brings what the active has to other replicas

-- how a synchronisation ends by a node's reply, being as it is behind that
abbrev pub sync_end : StepDone → Reply → SyncState → Option Outcome
sync_end d (replies.Done answer) s = sync_ended d.complete s.served s.pulled
sync_end d (replies.Older generation count) s = sync_ended d.complete s.served s.pulled
sync_end d reply s = refused_end d.live reply

-- what such a call keeps behind the reply to what is next: a node's changes it, and nothing else
abbrev pub sync_told_by : RecordState → Reply → SyncState → Next → SyncState
sync_told_by R reply s (Serve r request) = sync_taken (served_done R request r reply) s
sync_told_by R reply s next = s

-- what such a call keeps behind a reply
abbrev pub sync_told : RecordState → Reply → SyncState → SyncState
sync_told R reply s = sync_told_by R reply s (sync_next R s)

-- the call that holds a checkpoint
abbrev pub hold_in : Option Entry → Option CallId
hold_in None = None
hold_in (Some e) = e.hold

-- the setting of an active is done, unless its own hold stands, behind which it goes on
abbrev pub set_unless_held : CallId → Option CallId → Option Outcome
set_unless_held call hold = if is_own call hold then None else Some (Done answers.Nothing)

-- how it ends by what the record answers to its step
abbrev pub setting_end : RecordState → Reply → SyncState → Option Outcome
setting_end R (replies.Done answer) s = set_unless_held s.call (hold_in (entry_of s.ckpt R.entries))
setting_end R reply s = refused_by R reply

-- how the reply to what is next ends such a call, if it does; what the record alone decides ends it so
abbrev pub sync_outcome_by : RecordState → Reply → SyncState → Next → Option Outcome
sync_outcome_by R reply s (Serve r request) = sync_end (served_done R request r reply) reply (sync_taken (served_done R request r reply) s)
sync_outcome_by R reply s (End outcome) = Some outcome
sync_outcome_by R reply s (Event step) = setting_end R reply s

-- how a reply ends such a call, if it does; that of a step of the record comes with the record behind the step
abbrev pub sync_outcome : RecordState → Reply → SyncState → Option Outcome
sync_outcome R reply s = sync_outcome_by R reply s (sync_next R s)
