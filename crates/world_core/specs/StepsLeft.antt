-- How many steps are left of a call in hand, at most: what whoever steps a call to its end counts down.
use Rattle.std.specs.Prelude.{ℕ, ◌<◌, ◌≤◌, List, [], Option, Some, None, IfSome}
use Rattle.ckpt_types.specs.declared.identities.ActorName.TheVariants.{Client}
use Rattle.ckpt_types.specs.declared.identities.Who.{Who}
use Rattle.run_labels.specs.declared.labels.Label.{Label}
use Rattle.client_calls.specs.declared.in_hand.InHand.{InHand}
use Rattle.world_core.specs.declared.world.Event.{Event}
use Rattle.world_core.specs.declared.world.Event.TheVariants.{Step}
use Rattle.world_core.specs.declared.world.World.{World}
use Rattle.cluster_record.specs.RecordState.{RecordState}
use Rattle.ckpt_machine.specs.Left.{steps_left, most_steps}
use Rattle.ckpt_machine.specs.Machine.{ReplicaState}
use Rattle.ckpt_machine.specs.Shown.{complete_replica, shown_replica}
use Rattle.world_core.specs.HandsState.{hand_at}
use Rattle.world_core.specs.Runs.{IsRunTo}

-- the replicas as the nodes have them: no step depends on effects, or on whose an update was that is staged
abbrev pub replicas_seen : World → ℕ → ℕ → Option ReplicaState
replicas_seen w k r = shown_replica [] (record { actor = Client 0; number = 0 }) (complete_replica w.cluster w.nodes k r)

-- at most so many steps are left of this call in hand, by the record and by what the nodes have, and none where there is no call
abbrev pub hand_left : RecordState → (ℕ → ℕ → Option ReplicaState) → Option InHand → ℕ
hand_left R replicas None = 0
hand_left R replicas (Some h) = steps_left R replicas h.driver

-- at most so many are left of the call in hand under a name
abbrev pub left_of : World → Who → ℕ
left_of w v = hand_left w.cluster (replicas_seen w) (hand_at w.hands v)

-- a step of a call in hand ends it or brings it nearer to its end
abbrev pub ComesNearer : Event → World → World → Type 0
ComesNearer (Step who finish) old new = IfSome (hand_at old.hands who) (λ h. left_of new who < left_of old who)
ComesNearer event old new = Unit {0}

-- the most that may be left of this call in hand, and none where there is no call
abbrev pub hand_most : Option InHand → ℕ
hand_most None = 0
hand_most (Some h) = most_steps h.driver

-- the most that may be left of the call in hand under a name
abbrev pub most_left : World → Who → ℕ
most_left w v = hand_most (hand_at w.hands v)

-- behind any run at most 41 steps are left of an update on all replicas that is in hand, at most 736 of a copying, and at most 66 of any other call
abbrev pub FewAreLeft : Type 0
FewAreLeft = (w : World) (log : List Label) (v : Who) → IsRunTo w log → left_of w v ≤ most_left w v
