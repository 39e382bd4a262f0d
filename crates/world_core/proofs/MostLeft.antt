-- More than 736 steps are left of no call in hand.
use Rattle.std.proofs.Common.{◌≤◌, List, Option, Some, None, arith}
use Rattle.ckpt_types.specs.declared.identities.Who.{Who}
use Rattle.run_labels.specs.declared.labels.Label.{Label}
use Rattle.client_calls.specs.declared.in_hand.InHand.{InHand}
use Rattle.ckpt_machine.proofs.MostSteps.{most_steps-few}
use Rattle.world_core.specs.declared.world.World.{World}
use Rattle.world_core.specs.HandsState.{hand_at}
use Rattle.world_core.specs.Runs.{IsRunTo}
use Rattle.world_core.specs.StepsLeft.{FewAreLeft, hand_most, left_of, most_left}

-- whatever is in hand
hand_most-few : (o : Option InHand) → hand_most o ≤ 736
hand_most-few None = omega arith
hand_most-few (Some h) = most_steps-few h.driver

-- behind any run, whatever the call is
pub few_of_any : FewAreLeft → (w : World) (log : List Label) (v : Who) → IsRunTo w log → left_of w v ≤ 736
few_of_any few w log v run =
    let left : left_of w v ≤ most_left w v = few w log v run in
    let most : most_left w v ≤ 736 = hand_most-few (hand_at w.hands v) in
    omega (arith, left, most)
