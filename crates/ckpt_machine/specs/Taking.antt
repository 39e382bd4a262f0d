-- How what drives a call takes a reply: of a node to what is next, or of the record to a step, with the record behind that.
use Rattle.std.specs.Prelude.{Option, Some, None, ◌≡◌, ℕ}
use Rattle.ckpt_types.specs.declared.answers.Answer.{Answer}
use Rattle.ckpt_types.specs.declared.answers.Answer.TheVariants as answers
use Rattle.ckpt_types.specs.declared.answers.Outcome.{Outcome}
use Rattle.ckpt_types.specs.declared.answers.Outcome.TheVariants.{Done, NoMemory}
use Rattle.node_msgs.specs.declared.replies.Reply.{Reply}
use Rattle.node_msgs.specs.declared.replies.Reply.TheVariants as replies
use Rattle.cluster_record.specs.DueCopy.{copy_outcome, copy_told}
use Rattle.cluster_record.specs.DueOnce.{OneStep, Enter}
use Rattle.cluster_record.specs.Ends.{active_outcome, active_told, open_outcome, open_told, sync_outcome, sync_told, update_outcome, update_told}
use Rattle.cluster_record.specs.RecordState.{RecordState}
use Rattle.ckpt_machine.specs.Drivers.{Driver, Rooms}
use Rattle.ckpt_machine.specs.Drivers as drivers
use Rattle.node_msgs.specs.declared.next.Next.TheVariants.{Serve}
use Rattle.node_msgs.specs.declared.requests.Request.{Request}
use Rattle.ckpt_machine.specs.Driving.{driver_next}

-- what a call of one step tells: an Initialize the version, and any other nothing
abbrev pub once_answer : OneStep → Answer
once_answer (Enter r) = answers.Version
once_answer x = answers.Nothing

-- how the record's answer to its step ends it
abbrev pub once_outcome : Reply → OneStep → Option Outcome
once_outcome (replies.Done answer) x = Some (Done (once_answer x))
once_outcome replies.NoMemory x = Some NoMemory
once_outcome reply x = None

-- what drives a call behind a reply
abbrev pub driver_told : RecordState → Reply → Driver → Driver
driver_told R reply (drivers.Once x) = drivers.Once x
driver_told R reply (drivers.Open o) = drivers.Open (open_told R reply o)
driver_told R reply (drivers.Update u) = drivers.Update (update_told R reply u)
driver_told R reply (drivers.Active a) = drivers.Active (active_told R reply a)
driver_told R reply (drivers.Sync s) = drivers.Sync (sync_told R reply s)
driver_told R reply (drivers.Copy c) = drivers.Copy (copy_told R reply c)

-- how a reply ends a call, if it does
abbrev pub driver_outcome : RecordState → Reply → Driver → Option Outcome
driver_outcome R reply (drivers.Once x) = once_outcome reply x
driver_outcome R reply (drivers.Open o) = open_outcome R reply o
driver_outcome R reply (drivers.Update u) = update_outcome R reply u
driver_outcome R reply (drivers.Active a) = active_outcome R reply a
driver_outcome R reply (drivers.Sync s) = sync_outcome R reply s
driver_outcome R reply (drivers.Copy c) = copy_outcome R reply c

-- this is what a call asks of a node next, by what its client has a free place for
pub record AsksNode (R : RecordState) (x : Driver) (r : ℕ) (request : Request) : Type 0 where
  pub rooms : Rooms
  pub next_is : driver_next R rooms x ≡ Serve r request
