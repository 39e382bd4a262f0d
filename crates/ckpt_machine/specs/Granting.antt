-- What the record grants a step of a call, and how a label tells that it does not.
use Rattle.std.specs.Prelude.{ℕ, Option, Result, Ok}
use Rattle.node_msgs.specs.declared.next.RecordStep.{RecordStep}
use Rattle.node_msgs.specs.declared.next.RecordStep.TheVariants as events
use Rattle.node_msgs.specs.declared.replies.Reply.{Reply}
use Rattle.node_msgs.specs.declared.replies.Reply.TheVariants as replies
use Rattle.node_msgs.specs.declared.steps.StepReply.{StepReply}
use Rattle.node_msgs.specs.declared.steps.StepReply.TheVariants as words
use Rattle.ckpt_machine.specs.Driving.{event_ckpt}
use Rattle.ckpt_machine.specs.Drivers.{Driver}
use Rattle.ckpt_machine.specs.Drivers as drivers
use Rattle.ckpt_types.specs.declared.identities.CallId.{CallId}
use Rattle.cluster_record.specs.RecordState.{RecordState, named}
use Rattle.cluster_record.specs.Opening.{found_in}

-- how a label tells that reply
abbrev pub refusal_word : Reply → StepReply
refusal_word replies.NoMemory = words.Memory
refusal_word reply = words.Refused

-- the checkpoint of a step; of an open what it finds, which is this, or the call that is making it
abbrev pub event_granted : RecordState → Driver → RecordStep → Result (Option ℕ) CallId
event_granted R (drivers.Open o) events.Open = found_in (named o.ask.name R.entries)
event_granted R driver step = Ok (event_ckpt R driver step)
