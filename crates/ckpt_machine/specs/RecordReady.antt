-- What a step of a call asks of the record.
use Rattle.std.specs.Prelude.{◌≡◌, ℕ, ◌+◌, ◌-◌, ◌^◌, ◌<◌, length, Option, Some, None, Result, Ok, Err, IsSome, IsSomeAnd, IsTrue, List, Bool, true, pos, ◌≤ℤ◌}
use Rattle.ckpt_types.specs.declared.ais_error.AisError.TheVariants.{TryAgain}
use Rattle.ckpt_types.specs.declared.answers.Cause.TheVariants.{Holder}
use Rattle.ckpt_types.specs.declared.answers.Outcome.{Outcome}
use Rattle.ckpt_types.specs.declared.answers.Outcome.TheVariants.{NoMemory}
use Rattle.ckpt_types.specs.declared.answers.Outcome.TheVariants as outcomes
use Rattle.node_msgs.specs.declared.next.RecordStep.{RecordStep}
use Rattle.node_msgs.specs.declared.next.RecordStep.TheVariants as events
use Rattle.node_msgs.specs.declared.replies.Reply.{Reply}
use Rattle.node_msgs.specs.declared.replies.Reply.TheVariants as replies
use Rattle.node_msgs.specs.declared.steps.StepReply.{StepReply}
use Rattle.node_msgs.specs.declared.steps.StepReply.TheVariants as words
use Rattle.ckpt_machine.specs.Driving.{event_ckpt, event_refusal, takes_memory}
use Rattle.ckpt_machine.specs.Drivers.{Driver}
use Rattle.ckpt_machine.specs.Drivers as drivers
use Rattle.cluster_record.specs.DueOnce.{OneStep, Enter, Unlink, Retain}
use Rattle.cluster_record.specs.DueOpen.{OpenState, making_ckpt}
use Rattle.ckpt_types.specs.declared.calls.OpenAsk.{OpenAsk}
use Rattle.ckpt_types.specs.declared.identities.CallId.{CallId}
use Rattle.ckpt_types.specs.Limits.{clients_max}
use Rattle.cluster_record.specs.declared.entries.Entry.{Entry}
use Rattle.cluster_record.specs.declared.opening.OpenAnswer.{OpenAnswer}
use Rattle.cluster_record.specs.declared.opening.OpenAnswer.TheVariants.{Opened, Made, Refused}
use Rattle.cluster_record.specs.Opening.{open_answer}
use Rattle.cluster_record.specs.Calls.{IsClient}
use Rattle.cluster_record.specs.RecordReady.{CanBecomeLive, CanOpen, CanRefer, CanReferAt}
use Rattle.cluster_record.specs.Placement.{adds}
use Rattle.cluster_record.specs.RecordState.{RecordState, named, entry_of, home_of}
use Rattle.cluster_record.specs.LookUps.{identity_in}
use Rattle.cluster_record.specs.Makings.{IsMakingOf, making_call}
use Rattle.replica.specs.Replicas.{Replica}
use Rattle.ckpt_machine.specs.Nodes.{replica_in}

-- an open can be asked of the record: by a client's call, as every open, and no number is at its end
pub record CanAsk (call : CallId) (R : RecordState) (ask : OpenAsk) : Type 0 where
  pub caller : IsClient call.actor
  pub can : CanOpen ask R
  pub references : CanReferAt ask.client R.entries (identity_in (named ask.name R.entries))
  pub identity : R.last_identity < 2 ^ 32 - 1

-- an open that is not refused
abbrev pub IsGranted : OpenAnswer → Type 0
IsGranted (Opened k added) = Unit {0}
IsGranted (Made k) = Unit {0}
IsGranted (Refused refused) = ⊥

-- a creation and an opening are the same call, and are answered as they were decided
abbrev pub IsOpenReady : CallId → RecordState → OpenState → RecordStep → Type 0
IsOpenReady call R o events.Create = CanAsk call R o.ask × (open_answer R o.ask ≡ Made (R.last_identity + 1))
IsOpenReady call R o events.Open =
    CanAsk call R o.ask × ((k : ℕ) × (added : Bool) × (identity_in (named o.ask.name R.entries) ≡ Some k) × (open_answer R o.ask ≡ Opened k added))
IsOpenReady call R o events.Finish = IsMakingOf R o.ask.client (making_ckpt o.making)
IsOpenReady call R o events.Undo = IsMakingOf R o.ask.client (making_ckpt o.making)
IsOpenReady call R o step = Unit {0}

-- where an open from this node adds a replica, the node has none of the checkpoint yet
abbrev pub HasNoneOf : Option Entry → ℕ → List (List Replica) → Type 0
HasNoneOf None r nodes = Unit {0}
HasNoneOf (Some e) r nodes = adds e.attributes r e.complete ≡ true → replica_in nodes e.identity r ≡ None

-- a step of a call that drives so can add what it adds
abbrev pub CanAdd : Driver → RecordStep → RecordState → List (List Replica) → Type 0
CanAdd (drivers.Open o) events.Open R nodes = HasNoneOf (named o.ask.name R.entries) (home_of o.ask.client R) nodes
CanAdd driver step R nodes = Unit {0}

-- a step is refused so: by the record, or the memory that it takes
abbrev pub IsRefusedWith : Option Outcome → RecordStep → StepReply → Outcome → Type 0
IsRefusedWith (Some why) step words.Refused end = end ≡ why
IsRefusedWith None step words.Memory end = IsTrue (takes_memory step) × (end ≡ NoMemory)
IsRefusedWith refusal step reply end = ⊥

-- the reply that its call takes then: that another call is making the checkpoint, or that memory was refused
abbrev pub IsRefusedAs : Option Outcome → RecordStep → Reply → Type 0
IsRefusedAs (Some why) step (replies.Held by) = why ≡ outcomes.Refused TryAgain (Holder by)
IsRefusedAs None step replies.NoMemory = IsTrue (takes_memory step)
IsRefusedAs refusal step reply = ⊥

-- a step that the record does not refuse, with its checkpoint; or one that it refuses, with the call that keeps it off
abbrev pub IsGrantedAt : RecordState → Driver → RecordStep → Result (Option ℕ) CallId → Type 0
IsGrantedAt R driver step (Ok k) = (event_refusal R step driver ≡ None) × (k ≡ event_ckpt R driver step)
IsGrantedAt R driver step (Err by) = event_refusal R step driver ≡ Some (outcomes.Refused TryAgain (Holder by))

-- this checkpoint has the name that an open asks for, is not in the making, and its client's references can rise
pub record IsOpenedAt (R : RecordState) (ask : OpenAsk) (k : ℕ) : Type 0 where
  pub name : identity_in (named ask.name R.entries) ≡ Some k
  pub entry : entry_of k R.entries ≡ named ask.name R.entries
  pub made : making_call (named ask.name R.entries) ≡ None
  pub references : CanRefer ask.client (entry_of k R.entries)

-- the checkpoint that an open opens was found, and is this one
abbrev pub IsOpenedAs : RecordState → OpenAsk → Option ℕ → Type 0
IsOpenedAs R ask None = ⊥
IsOpenedAs R ask (Some k) = IsOpenedAt R ask k

-- where a step opens a checkpoint, it was found by its name, and is this one
abbrev pub HasFound : RecordState → Driver → RecordStep → Option ℕ → Type 0
HasFound R (drivers.Open o) events.Open k = IsOpenedAs R o.ask k
HasFound R driver step k = Unit {0}

-- what a call of one step asks
abbrev pub IsOnceReady : CallId → RecordState → OneStep → Type 0
IsOnceReady call R (Enter r) = CanBecomeLive call r R × (length R.clients < clients_max)
IsOnceReady call R (Unlink name) = IsSomeAnd (named name R.entries) (λ e. e.making ≡ None)
IsOnceReady call R (Retain k duration) = IsSomeAnd (entry_of k R.entries) (λ e. IsSome e.name) × (pos 0 ≤ℤ duration)
IsOnceReady call R x = Unit {0}

-- a step of a call that drives so
abbrev pub IsRecordReady : CallId → RecordState → Driver → RecordStep → Type 0
IsRecordReady call R (drivers.Once x) step = IsOnceReady call R x
IsRecordReady call R (drivers.Open o) step = IsOpenReady call R o step
IsRecordReady call R driver step = Unit {0}

-- a step in which no replica takes part but one that is added: all but the two by which an active is set, and a completion
abbrev pub IsPlain : RecordStep → Type 0
IsPlain (events.Hold r) = ⊥
IsPlain (events.Activate r) = ⊥
IsPlain (events.Complete k r moment) = ⊥
IsPlain step = Unit {0}
