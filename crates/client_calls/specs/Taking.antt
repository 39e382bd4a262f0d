-- How a call in hand takes a reply.
use Rattle.std.specs.Option.{option_map}
use Rattle.std.specs.Prelude.{Option}
use Rattle.ckpt_types.specs.declared.answers.Outcome.{Outcome}
use Rattle.node_msgs.specs.declared.replies.Reply.{Reply}
use Rattle.cluster_record.specs.RecordState.{RecordState}
use Rattle.ckpt_machine.specs.Driving.{index_told}
use Rattle.client_calls.specs.declared.in_hand.InHand.{InHand}
use Rattle.ckpt_machine.specs.Taking.{driver_outcome, driver_told}

-- a call in hand behind a reply
abbrev pub hand_told : RecordState → Reply → InHand → InHand
hand_told R reply h = record h { driver = driver_told R reply h.driver }

-- how a reply ends it, if it does
abbrev pub hand_outcome : RecordState → Reply → InHand → Option Outcome
hand_outcome R reply h = option_map (index_told h.op) (driver_outcome R reply h.driver)
