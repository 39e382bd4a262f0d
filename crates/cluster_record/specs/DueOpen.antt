-- What an open does next, by its own steps and the record.
use Rattle.std.specs.Prelude.{◌≡◌, ℕ, List, length, Option, Some, None, Bool, true, false, not, nat_le, if◌then◌else◌, ℤ}
use Rattle.moment_rules.specs.Times.{is_reached}
use Rattle.ckpt_types.specs.declared.ais_error.AisError.TheVariants.{NotExist, Exist, Timeout, NoResources}
use Rattle.ckpt_types.specs.declared.answers.Cause.TheVariants.{Plain, Deadline, Count}
use Rattle.ckpt_types.specs.declared.answers.Outcome.TheVariants.{Refused}
use Rattle.ckpt_types.specs.declared.attributes.CreationAttributes.{CreationAttributes}
use Rattle.ckpt_types.specs.declared.identities.CallId.{CallId}
use Rattle.node_msgs.specs.declared.requests.Request.TheVariants as requests
use Rattle.node_msgs.specs.declared.next.RecordStep.{RecordStep}
use Rattle.node_msgs.specs.declared.next.RecordStep.TheVariants as events
use Rattle.node_msgs.specs.declared.next.Next.{Next}
use Rattle.node_msgs.specs.declared.next.Next.TheVariants.{Serve, Event, End}
use Rattle.node_msgs.specs.declared.steps.Verb.{Verb}
use Rattle.node_msgs.specs.declared.steps.Verb.TheVariants as verbs
use Rattle.node_msgs.specs.declared.steps.StepReply.{StepReply}
use Rattle.node_msgs.specs.declared.steps.StepReply.TheVariants as words
use Rattle.cluster_record.specs.declared.entries.Entry.{Entry}
use Rattle.cluster_record.specs.declared.calls.Making.{Making}
use Rattle.ckpt_types.specs.Attributes.{same_but_retention}
use Rattle.ckpt_types.specs.Limits.{handles_max, checkpoints_max}
use Rattle.cluster_record.specs.LookUps.{at_ckpt}
use Rattle.cluster_record.specs.RecordState.{home_of, RecordState, named, no_nodes, created_by_ask, opened, finished, undone}
use Rattle.cluster_record.specs.Placement.{targets}
use Rattle.ckpt_types.specs.declared.calls.OpenAsk.{OpenAsk}
use Rattle.cluster_record.specs.StepDone.{StepDone, first_lacking, set_node, incarnation_of}

-- what an open keeps
pub record OpenState : Type 0 where
  pub call : CallId
  pub ask : OpenAsk
  -- the moment from which on it is too late, where it has a timeout
  pub deadline : Option ℤ
  -- the checkpoint that it is making, where it is
  pub making : Option Making

-- an open is making nothing when it begins
abbrev pub open_begun : CallId → OpenAsk → Option ℤ → OpenState
open_begun call ask deadline = record { call = call; ask = ask; deadline = deadline; making = None }

-- the attributes asked for are the checkpoint's, the retention left aside; none asked for are any
abbrev pub accepts : Option CreationAttributes → Entry → Bool
accepts None e = true
accepts (Some a) e = same_but_retention e.attributes a

-- what is next before the deadline; where it is reached, the call ends with TIMEOUT
abbrev pub in_time : Option ℤ → ℤ → Next → Next
in_time None moment next = next
in_time (Some deadline) moment next = if is_reached deadline moment then End (Refused Timeout (Deadline deadline moment)) else next

-- a deadline that is there is not reached at the moment
abbrev pub IsBefore : ℤ → Option ℤ → Type 0
IsBefore moment None = Unit {0}
IsBefore moment (Some deadline) = is_reached deadline moment ≡ false

-- a checkpoint is made, where there is room for its handle and for it
abbrev pub create_next : RecordState → Bool → Next
create_next R room =
    if not room then End (Refused NoResources (Count handles_max))
    else if nat_le checkpoints_max (length R.entries) then End (Refused NoResources (Count checkpoints_max))
    else Event events.Create

-- a checkpoint is opened that has the attributes asked for, where there is room for its handle; of one that is in the making the record is asked, which
-- refuses it
abbrev pub entry_by : Option CallId → Bool → Option CreationAttributes → Entry → Next
entry_by (Some call) room a e = Event events.Open
entry_by None room a e =
    if not (accepts a e) then End (Refused Exist Plain)
    else if not room then End (Refused NoResources (Count handles_max))
    else Event events.Open

-- what an open does next at a checkpoint that is there
abbrev pub entry_next : Bool → Option CreationAttributes → Entry → Next
entry_next room a e = entry_by e.making room a e

-- of a name that no checkpoint has: one is made where attributes are given
abbrev pub on_free_name : RecordState → Bool → Option ℤ → Option CreationAttributes → Next
on_free_name R room deadline None = End (Refused NotExist Plain)
on_free_name R room deadline (Some a) = in_time deadline R.moment (create_next R room)

-- of any name
abbrev pub on_named : RecordState → Bool → Option ℤ → Option CreationAttributes → Option Entry → Next
on_named R room deadline a None = on_free_name R room deadline a
on_named R room deadline a (Some e) = in_time deadline R.moment (entry_next room a e)

-- the next node reserves; where none is left to reserve, the making is finished
abbrev pub reserve_or_finish : ℕ → Option ℕ → Next
reserve_or_finish k (Some r) = Serve r (requests.Reserve k)
reserve_or_finish k None = Event events.Finish

-- the nodes on which what is asked for is to be made, with their incarnations
abbrev pub targets_by : Option CreationAttributes → ℕ → List ℕ → List ℕ
targets_by None opener up = up
targets_by (Some a) opener up = targets a opener up

-- the same of an ask, by the record
abbrev pub targets_of : OpenAsk → RecordState → List ℕ
targets_of ask R = targets_by ask.attrs (home_of ask.client R) R.up

-- a making before its deadline: each node on which it is made reserves, then it is finished; it is undone where memory was refused
abbrev pub on_making : RecordState → OpenAsk → Making → Next
on_making R ask m = if m.refused then Event events.Undo else reserve_or_finish m.ckpt (first_lacking 0 (targets_of ask R) m.reserved)

-- an open that is making nothing looks for its name; one that is making a checkpoint goes on with that until its deadline
abbrev pub by_making : RecordState → Bool → OpenState → Option Making → Next
by_making R room o None = on_named R room o.deadline o.ask.attrs (named o.ask.name R.entries)
by_making R room o (Some m) = in_time o.deadline R.moment (on_making R o.ask m)

-- what is next of an open, by the record and by whether its client has room for a handle
abbrev pub open_next : RecordState → Bool → OpenState → Next
open_next R room o = by_making R room o o.making

-- the making of a checkpoint that was just created: no node has reserved yet
abbrev pub made_of : Option ℕ → Option Making
made_of None = None
made_of (Some k) = Some (record { ckpt = k; reserved = no_nodes; refused = false })

-- what the open keeps behind its `create` step: what it is making, where the step was done
abbrev pub create_taken : StepDone → OpenState → StepReply → OpenState
create_taken d o words.Ok = record o { making = made_of d.ckpt }
create_taken d o _ = o

-- the open with a change of what it is making, where it is making something
abbrev pub with_making : OpenState → Option Making → (Making → Making) → OpenState
with_making o None change = o
with_making o (Some m) change = record o { making = Some (change m) }

-- behind a `reserve` step: that the node has reserved in this life, or that its memory was refused
abbrev pub reserve_taken : StepDone → OpenState → StepReply → OpenState
reserve_taken d o words.Ok = with_making o o.making (λ m. record m { reserved = set_node d.node m.reserved (incarnation_of d.node d.up) })
reserve_taken d o words.Memory = with_making o o.making (λ m. record m { refused = true })
reserve_taken d o _ = o

-- what the open keeps behind a step of this kind: only `create` and `reserve` change it
abbrev pub open_taken_by : StepDone → OpenState → Verb → OpenState
open_taken_by d o verbs.Create = create_taken d o d.reply
open_taken_by d o verbs.Reserve = reserve_taken d o d.reply
open_taken_by d o _ = o

-- what the open keeps behind a step
abbrev pub open_taken : StepDone → OpenState → OpenState
open_taken d o = open_taken_by d o d.verb

-- the checkpoint that a call is making
abbrev pub making_ckpt : Option Making → Option ℕ
making_ckpt None = None
making_ckpt (Some m) = Some m.ckpt

-- what the record becomes by a step of a call
abbrev pub open_event : CallId → OpenState → Option ℕ → RecordStep → RecordState → RecordState
open_event call o k events.Create R = created_by_ask call o.ask R
open_event call o k events.Open R = at_ckpt k R (λ k. opened k o.ask.client R)
open_event call o k events.Finish R = at_ckpt k R (λ k. finished k o.ask.client R)
open_event call o k events.Undo R = at_ckpt k R (λ k. undone k R)
open_event call o k step R = R
