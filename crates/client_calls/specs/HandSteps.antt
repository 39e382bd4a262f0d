-- What a step makes of a call in hand.
use Rattle.std.specs.Prelude.{Option}
use Rattle.ckpt_types.specs.declared.answers.Outcome.{Outcome}
use Rattle.node_msgs.specs.declared.replies.Reply.{Reply}
use Rattle.client_calls.specs.declared.in_hand.InHand.{InHand}
use Rattle.cluster_record.specs.RecordState.{RecordState}
use Rattle.cluster_record.specs.StepDone.{StepDone}
use Rattle.ckpt_machine.specs.Driving.{driver_taken, driver_end}

-- a call in hand behind a step: its driver keeps what it needs of it
abbrev pub hand_taken : StepDone → InHand → InHand
hand_taken d h = record h { driver = driver_taken d h.driver }

-- how it ends by a node's reply, by the record, being as it is after the step
abbrev pub hand_end : RecordState → StepDone → Reply → InHand → Option Outcome
hand_end R d reply h = driver_end R h.op d reply h.driver

-- how a call ends by a node's reply, by the record, being as it was before the step
abbrev pub end_by : RecordState → StepDone → Reply → InHand → Option Outcome
end_by R d reply h = hand_end R d reply (hand_taken d h)
