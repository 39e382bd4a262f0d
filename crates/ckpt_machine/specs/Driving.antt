-- What a call does next, by its own steps and the record: the steps of each call, decision by decision.
use Rattle.std.specs.Option.{option_map}
use Rattle.std.specs.Prelude.{ℕ, ◌+◌, List, [], ◌∷◌, length, Option, Some, None, Bool, true, false, ℤ}
use Rattle.moment_rules.specs.Times.{sum_until_end}
use Rattle.ckpt_types.specs.declared.answers.Answer.{Answer}
use Rattle.ckpt_types.specs.declared.answers.Answer.TheVariants as answers
use Rattle.ckpt_types.specs.declared.answers.Cause.{Cause}
use Rattle.ckpt_types.specs.declared.answers.Cause.TheVariants.{Plain, Index}
use Rattle.ckpt_types.specs.declared.answers.Outcome.{Outcome}
use Rattle.ckpt_types.specs.declared.answers.Outcome.TheVariants.{Done, Refused, NoMemory}
use Rattle.ckpt_types.specs.declared.identities.CallId.{CallId}
use Rattle.ckpt_types.specs.declared.operation.Op.{Op}
use Rattle.ckpt_types.specs.declared.update.Update.{Update}
use Rattle.ckpt_types.specs.declared.update.Update.TheVariants as updates
use Rattle.ckpt_types.specs.declared.operation.Op.TheVariants as ops
use Rattle.node_msgs.specs.declared.replies.Reply.{Reply}
use Rattle.node_msgs.specs.declared.replies.Reply.TheVariants as replies
use Rattle.node_msgs.specs.declared.next.RecordStep.{RecordStep}
use Rattle.node_msgs.specs.declared.next.RecordStep.TheVariants as events
use Rattle.node_msgs.specs.declared.next.Next.{Next}
use Rattle.ckpt_machine.specs.Drivers.{Rooms}
use Rattle.ckpt_machine.specs.Drivers.{Driver}
use Rattle.ckpt_machine.specs.Drivers as drivers
use Rattle.cluster_record.specs.declared.calls.ActiveKind.{ActiveKind}
use Rattle.cluster_record.specs.declared.calls.ActiveKind.TheVariants as kinds
use Rattle.cluster_record.specs.declared.calls.SyncKind.{SyncKind}
use Rattle.cluster_record.specs.declared.calls.SyncKind.TheVariants.{Synchronize, ActiveSet}
use Rattle.ckpt_types.specs.declared.attributes.CreationAttributes.{CreationAttributes}
use Rattle.cluster_record.specs.DueCopy.{copy_begun, copy_next, copy_taken, done_by}
use Rattle.cluster_record.specs.DueSync.{sync_begun, sync_next, sync_taken, sync_ended}
use Rattle.section_iter.specs.declared.room.Room.{Room}
use Rattle.cluster_record.specs.Calls.{client_of}
use Rattle.ckpt_types.specs.Asks.{Ask, asked}
use Rattle.ckpt_types.specs.Asks as asks
use Rattle.ckpt_machine.specs.Tables.{choice_of}
use Rattle.cluster_record.specs.LookUps.{identity_in}
use Rattle.cluster_record.specs.RecordState.{RecordState, named}
use Rattle.cluster_record.specs.StepDone.{StepDone}
use Rattle.cluster_record.specs.declared.opening.OpenAnswer.{OpenAnswer}
use Rattle.cluster_record.specs.declared.opening.OpenAnswer.TheVariants as opening
use Rattle.cluster_record.specs.Opening.{open_answer}
use Rattle.cluster_record.specs.DueOpen.{open_begun, open_next, open_taken, making_ckpt}
use Rattle.cluster_record.specs.DueUpdate.{update_begun, update_next, update_taken, done_end_by}
use Rattle.cluster_record.specs.DueActive.{active_begun, active_next, active_taken, active_end}
use Rattle.cluster_record.specs.Ends.{refused_end}
use Rattle.cluster_record.specs.DueOnce.{Enter, Leave, Close, Unlink, Retain, once_next}

-- a refusal of a vector tells the index of its first refused element
abbrev pub refused_cause : Op → ℕ → Cause
refused_cause (ops.Write place update) index = Index index
refused_cause (ops.Read place elements) index = Index index
refused_cause op index = Plain

-- how a call of an operation ends where its driver, which knows no operation, ends so: the index of a vector is told alone
abbrev pub index_told : Op → Outcome → Outcome
index_told op (Refused error (Index index)) = Refused error (refused_cause op index)
index_told op outcome = outcome

-- by the record, and by what the client's own tables have a free place for
abbrev pub driver_next : RecordState → Rooms → Driver → Next
driver_next R rooms (drivers.Once x) = once_next R x
driver_next R rooms (drivers.Open o) = open_next R rooms.handles o
driver_next R rooms (drivers.Update u) = update_next R u
driver_next R rooms (drivers.Active a) = active_next R rooms.iterations a
driver_next R rooms (drivers.Sync s) = sync_next R s
driver_next R rooms (drivers.Copy c) = copy_next R c

-- the driver after a step of its call
abbrev pub driver_taken : StepDone → Driver → Driver
driver_taken d (drivers.Once x) = drivers.Once x
driver_taken d (drivers.Open o) = drivers.Open (open_taken d o)
driver_taken d (drivers.Update u) = drivers.Update (update_taken d u)
driver_taken d (drivers.Active a) = drivers.Active (active_taken d a)
driver_taken d (drivers.Sync s) = drivers.Sync (sync_taken d s)
driver_taken d (drivers.Copy c) = drivers.Copy (copy_taken d c)

-- how the call ends where a node has done what it asked, by the record; a copying ends where nothing is left to do
abbrev pub done_end : RecordState → StepDone → Answer → Driver → Option Outcome
done_end R d answer (drivers.Once x) = None
done_end R d answer (drivers.Open o) = None
done_end R d answer (drivers.Update u) = done_end_by d answer u d.verb
done_end R d answer (drivers.Active a) = active_end answer d.verb
done_end R d answer (drivers.Sync s) = sync_ended d.complete s.served s.pulled
done_end R d answer (drivers.Copy c) = done_by (copy_next R c)

-- how it ends where a replica has no need of what it was to take over
abbrev pub older_end : StepDone → Driver → Option Outcome
older_end d (drivers.Sync s) = sync_ended d.complete s.served s.pulled
older_end d x = None

-- how it ends where a node was refused memory: a copying does so, and an open undoes what it is making first
abbrev pub memory_end : Driver → Option Outcome
memory_end (drivers.Copy c) = Some NoMemory
memory_end x = None

-- how a call of an operation ends by a node's reply, by the record; where nothing comes of it, the call goes on
abbrev pub driver_end : RecordState → Op → StepDone → Reply → Driver → Option Outcome
driver_end R op d (replies.Done answer) x = done_end R d answer x
driver_end R op d (replies.Older generation count) x = older_end d x
driver_end R op d (replies.Refused error index) x = Some (Refused error (refused_cause op index))
driver_end R op d replies.NoMemory x = memory_end x
driver_end R op d reply x = refused_end d.live reply

-- the checkpoint of a step of the record, which was as R before it
abbrev pub event_ckpt : RecordState → Driver → RecordStep → Option ℕ
event_ckpt R (drivers.Open o) events.Create = Some (R.last_identity + 1)
event_ckpt R (drivers.Open o) events.Open = identity_in (named o.ask.name R.entries)
event_ckpt R (drivers.Open o) events.Finish = making_ckpt o.making
event_ckpt R (drivers.Open o) events.Undo = making_ckpt o.making
event_ckpt R (drivers.Once (Close k)) events.Close = Some k
event_ckpt R (drivers.Once (Unlink name)) events.Unlink = identity_in (named name R.entries)
event_ckpt R (drivers.Once (Retain k duration)) events.Retain = Some k
event_ckpt R (drivers.Sync s) (events.Hold r) = Some s.ckpt
event_ckpt R (drivers.Sync s) (events.Activate r) = Some s.ckpt
event_ckpt R (drivers.Copy c) (events.Complete k r moment) = Some k
event_ckpt R driver step = None

-- the node of a step of the record
abbrev pub event_node : Driver → RecordStep → Option ℕ
event_node (drivers.Once (Enter r)) events.Enter = Some r
event_node (drivers.Sync s) (events.Hold r) = Some r
event_node (drivers.Sync s) (events.Activate r) = Some r
event_node (drivers.Copy c) (events.Complete k r moment) = Some r
event_node driver step = None

-- how a call ends by a step of the record that was done, and its checkpoint
abbrev pub opened_end : Option ℕ → Option Outcome
opened_end None = None
opened_end (Some k) = Some (Done (answers.Opened k))

-- how a call ends by a step that the record has done
abbrev pub event_end : RecordStep → Option ℕ → Option Outcome
event_end events.Enter k = Some (Done answers.Version)
event_end events.Open k = opened_end k
event_end events.Finish k = opened_end k
event_end events.Undo k = Some NoMemory
event_end events.Leave k = Some (Done answers.Nothing)
event_end events.Close k = Some (Done answers.Nothing)
event_end events.Unlink k = Some (Done answers.Nothing)
event_end events.Retain k = Some (Done answers.Nothing)
event_end (events.Activate r) k = Some (Done answers.Nothing)
event_end step k = None

-- the same, by what drives the call behind the step, and the record: a copying ends by a completion where nothing is left to do
abbrev pub step_end : RecordState → Driver → RecordStep → Option ℕ → Option Outcome
step_end R (drivers.Copy c) step k = done_by (copy_next R c)
step_end R x step k = event_end step k

-- how a call ends by a step that the record refuses: an open of what another call is making
abbrev pub refusal_in : OpenAnswer → Option Outcome
refusal_in (opening.Refused why) = Some (Refused why.error why.cause)
refusal_in answer = None

-- what the record refuses of an open
abbrev pub open_refusal : RecordState → Driver → Option Outcome
open_refusal R (drivers.Open o) = refusal_in (open_answer R o.ask)
open_refusal R driver = None

-- what the record refuses of a step
abbrev pub event_refusal : RecordState → RecordStep → Driver → Option Outcome
event_refusal R events.Open driver = open_refusal R driver
event_refusal R step driver = None

-- the checkpoint that a call is making
abbrev pub making_in : Driver → Option ℕ
making_in (drivers.Open o) = making_ckpt o.making
making_in driver = None

-- the steps that take memory, and may be refused it
abbrev pub takes_memory : RecordStep → Bool
takes_memory events.Enter = true
takes_memory events.Open = true
takes_memory events.Create = true
takes_memory step = false

-- what a call keeps of the tables and of the record at its beginning: the checkpoint of its handle, the room for the identifiers that this one declares,
-- whether its updates are on all replicas, whether its writes are weak, what it declares, the node of its client, or the one that copies, and the moment;
-- a copying keeps the same of a checkpoint for which its node has reserved
pub record Kept : Type 0 where
  pub ckpt : Option ℕ
  pub room : Room
  pub all : Bool
  pub weak : Bool
  pub declares : Option CreationAttributes
  pub node : ℕ
  pub moment : ℤ

-- the deadline of what was asked for at a moment, where it has a timeout
abbrev pub deadline_from : ℤ → Ask → Option ℤ
deadline_from moment (asks.Open place name flags timeout a) = option_map (sum_until_end moment) timeout
deadline_from moment (asks.Synchronize place timeout) = option_map (sum_until_end moment) timeout
deadline_from moment ask = None

-- the driver of a call on the checkpoint that it keeps, where it keeps one
abbrev pub on_kept : Option ℕ → (ℕ → Driver) → Option Driver
on_kept None start = None
on_kept (Some k) start = Some (start k)

-- an update has staged nowhere when it begins
abbrev pub update_start : CallId → Option ℕ → Option Driver
update_start call ckpt = on_kept ckpt (λ k. drivers.Update (update_begun call k))

-- the driver of a call to the active
abbrev pub active_start : CallId → ActiveKind → Option ℕ → Option Driver
active_start call kind ckpt = on_kept ckpt (λ k. drivers.Active (active_begun call k kind))

-- the driver of a call that brings what the active has to other replicas
abbrev pub sync_start : CallId → SyncKind → Option ℕ → Option Driver
sync_start call kind ckpt = on_kept ckpt (λ k. drivers.Sync (sync_begun call k kind))

-- how the active does an update, of a checkpoint that is weak or not: a weak write element by element, any other in one step
abbrev pub kind_of_change : Bool → Update → ActiveKind
kind_of_change true (updates.Write elements) = kinds.Weak (length elements)
kind_of_change weak update = kinds.Apply

-- an update is of all replicas, or is done by the active
abbrev pub change_start : CallId → Bool → ActiveKind → Option ℕ → Option Driver
change_start call true kind ckpt = update_start call ckpt
change_start call false kind ckpt = active_start call kind ckpt

-- what drives a call that goes on behind its beginning, or by itself; nothing drives a call on no checkpoint, or one that ends at its beginning
abbrev pub driver_start : CallId → Ask → Kept → Option Driver
driver_start call (asks.Enter r version callbacks) kept = Some (drivers.Once (Enter r))
driver_start call (asks.Open place name flags timeout a) kept =
    Some (drivers.Open (open_begun call (record { name = name; attrs = a; client = client_of call; node = kept.node })
    (option_map (sum_until_end kept.moment) timeout)))
driver_start call (asks.Change place update) kept = change_start call kept.all (kind_of_change kept.weak update) kept.ckpt
driver_start call (asks.Read place elements) kept = active_start call kinds.Read kept.ckpt
driver_start call (asks.Status place) kept = active_start call kinds.Status kept.ckpt
driver_start call (asks.Iterate iteration place chosen time) kept = active_start call (kinds.Iterate (choice_of chosen time)) kept.ckpt
driver_start call (asks.Next iteration) kept = active_start call kinds.Next kept.ckpt
driver_start call (asks.EndIteration iteration) kept = None
driver_start call (asks.Close place) kept = on_kept kept.ckpt (λ k. drivers.Once (Close k))
driver_start call (asks.Retain place duration) kept = on_kept kept.ckpt (λ k. drivers.Once (Retain k duration))
driver_start call (asks.Unlink name) kept = Some (drivers.Once (Unlink name))
driver_start call asks.Leave kept = Some (drivers.Once Leave)
driver_start call (asks.Synchronize place timeout) kept = sync_start call (Synchronize (option_map (sum_until_end kept.moment) timeout)) kept.ckpt
driver_start call (asks.SetActive place) kept = sync_start call (ActiveSet kept.node) kept.ckpt
driver_start call (asks.Dispatch flags) kept = None
driver_start call asks.Copy kept = Some (drivers.Copy (copy_begun call (update_begun call 0)))

-- where a call's steps, the newest first, have led what drove it at its beginning
abbrev pub driver_state : Driver → List StepDone → Driver
driver_state begun [] = begun
driver_state begun (d ∷ steps) = driver_taken d (driver_state begun steps)
