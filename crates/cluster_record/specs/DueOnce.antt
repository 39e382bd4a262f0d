-- What a call of one step of the record does next, by the record: an Initialize, a Finalize, a close, an unlink, a setting of the retention.
use Rattle.std.specs.Prelude.{ℕ, List, length, Option, Some, None, is_some, nat_le, if◌then◌else◌, ℤ}
use Rattle.ckpt_types.specs.declared.ais_error.AisError.TheVariants.{NotExist, BadOperation, TryAgain, NoResources}
use Rattle.ckpt_types.specs.declared.answers.Answer.TheVariants as answers
use Rattle.ckpt_types.specs.declared.answers.Cause.TheVariants.{Plain, Holder, Count}
use Rattle.ckpt_types.specs.declared.answers.Outcome.TheVariants.{Done, Refused}
use Rattle.ckpt_types.specs.declared.identities.CallId.{CallId}
use Rattle.ckpt_types.specs.Limits.{clients_max}
use Rattle.node_msgs.specs.declared.next.Next.{Next}
use Rattle.node_msgs.specs.declared.next.Next.TheVariants.{Event, End}
use Rattle.node_msgs.specs.declared.next.RecordStep.TheVariants as events
use Rattle.cluster_record.specs.declared.entries.Entry.{Entry}
use Rattle.cluster_record.specs.RecordState.{RecordState, entry_of, named}

-- an Initialize on a node, a Finalize, a close of a checkpoint, an unlink of a name, and a setting of a checkpoint's retention
pub data OneStep : Type 0 where
  Enter : ℕ → OneStep
  Leave : OneStep
  Close : ℕ → OneStep
  Unlink : List ℕ → OneStep
  Retain : ℕ → ℤ → OneStep

-- no more clients become live than may be
abbrev pub enter_next : RecordState → Next
enter_next R = if nat_le clients_max (length R.clients) then End (Refused NoResources (Count clients_max)) else Event events.Enter

-- a close of a checkpoint that is gone has nothing left to do
abbrev pub close_of : Option Entry → Next
close_of None = End (Done answers.Nothing)
close_of (Some e) = Event events.Close

-- what is next of a close of this checkpoint
abbrev pub close_next : RecordState → ℕ → Next
close_next R k = close_of (entry_of k R.entries)

-- what is in the making keeps its name
abbrev pub unlink_of_making : Option CallId → Next
unlink_of_making None = Event events.Unlink
unlink_of_making (Some call) = End (Refused TryAgain (Holder call))

-- a name that no checkpoint has is refused
abbrev pub unlink_of : Option Entry → Next
unlink_of None = End (Refused NotExist Plain)
unlink_of (Some e) = unlink_of_making e.making

-- what is next of an unlink of this name
abbrev pub unlink_next : RecordState → List ℕ → Next
unlink_next R name = unlink_of (named name R.entries)

-- the retention of an unlinked checkpoint can't be set
abbrev pub retain_of : Option Entry → Next
retain_of None = End (Refused NotExist Plain)
retain_of (Some e) = if is_some e.name then Event events.Retain else End (Refused BadOperation Plain)

-- what is next of a setting of this checkpoint's retention
abbrev pub retain_next : RecordState → ℕ → Next
retain_next R k = retain_of (entry_of k R.entries)

-- what is next of a call of one step
abbrev pub once_next : RecordState → OneStep → Next
once_next R (Enter r) = enter_next R
once_next R Leave = Event events.Leave
once_next R (Close k) = close_next R k
once_next R (Unlink name) = unlink_next R name
once_next R (Retain k duration) = retain_next R k
