-- What a call in hand takes of a node's reply is what the machine says of it.
use Rattle.std.proofs.Common.{◌≡◌, ℕ, sym, ap, ◌∙◌}
use Rattle.node_msgs.specs.declared.replies.Reply.{Reply}
use Rattle.node_msgs.specs.declared.requests.Request.{Request}
use Rattle.cluster_record.specs.Ends.{served_done}
use Rattle.cluster_record.specs.RecordState.{RecordState}
use Rattle.client_calls.specs.declared.in_hand.InHand.{InHand}
use Rattle.client_calls.specs.HandSteps.{hand_end, hand_taken}
use Rattle.ckpt_machine.specs.Taking.{AsksNode}
use Rattle.client_calls.specs.Taking.{hand_outcome, hand_told}
use Rattle.ckpt_machine.proofs.DriverTaking.{driver_ends, driver_keeps}

module _ (R : RecordState) (reply : Reply) (r : ℕ) (request : Request) where
  -- what a call in hand takes of a node's reply is what the machine says
  pub hand_keeps : (hand : InHand) → AsksNode R hand.driver r request → hand_told R reply hand ≡ hand_taken (served_done R request r reply) hand
  hand_keeps hand asks = ap (λ x. record hand { driver = x }) (driver_keeps R reply r request hand.op hand.driver asks)

  pub hand_ends : (hand taken : InHand) → AsksNode R hand.driver r request → taken ≡ hand_told R reply hand → hand_outcome R reply hand ≡ hand_end R (served_done R request r reply) reply taken
  hand_ends hand taken asks is = driver_ends R reply r request hand.op hand.driver asks ∙ ap (hand_end R (served_done R request r reply) reply) (sym is)
