-- In which order a replica has taken updates: that of a call which had ended before another began stands in front of the other's, however it ended.
use Rattle.std.specs.Prelude.{◌≡◌, ◌⊎◌, ℕ, List, [], ◌∷◌, ◌++◌, Option, Some}
use Rattle.ckpt_types.specs.declared.answers.Outcome.{Outcome}
use Rattle.ckpt_types.specs.declared.identities.CallId.{CallId}
use Rattle.ckpt_types.specs.declared.operation.Op.{Op}
use Rattle.node_msgs.specs.declared.details.Details.{Details}
use Rattle.run_labels.specs.declared.labels.Label.{Label}
use Rattle.run_labels.specs.declared.labels.Label.TheVariants as labels
use Rattle.ckpt_machine.specs.CallsEnd.{EndsBy}
use Rattle.ckpt_machine.specs.LastStep.{IsLastStep}
use Rattle.ckpt_machine.specs.Machine.{Machine, Effect, ReplicaState}
use Rattle.ckpt_machine.specs.Owned.{IsEffectOf, HasEffect}
use Rattle.ckpt_machine.specs.Owners.{IsCallInHand}
use Rattle.ckpt_machine.specs.Runs.{last}

-- in this state the call is in hand, and the label ends it in one of the ways in which a call in hand ends, as by the failure of its client's node
pub record EndsInHand (m : Machine) (l : Label) (c : CallId) : Type 0 where
  pub in_hand : IsCallInHand m c
  pub ends : EndsBy m l in_hand.state

-- behind the log the call ends by the label: this is its last step; or it is in hand till then, and ends in one of those ways
abbrev pub IsEnding : List Label → Label → CallId → Type 0
IsEnding log l c = IsLastStep l c ⊎ EndsInHand (last log) l c

-- in the log the first call ends, in whichever way, and behind that the second begins
pub record EndsBefore (log : List Label) (c d : CallId) : Type 0 where
  pub before : List Label
  pub between : List Label
  pub behind : List Label
  pub ending : Label
  pub op : Op
  pub end : Option Outcome
  pub details : Details
  pub log_is : log ≡ before ++ ending ∷ (between ++ labels.Began d op end details ∷ behind)
  pub ends : IsEnding before ending c

-- an effect of the first call stands in front of one of the second
abbrev pub StandsBefore : CallId → CallId → List Effect → Type 0
StandsBefore d c [] = ⊥
StandsBefore d c (x ∷ xs) = (IsEffectOf d x × HasEffect c xs) ⊎ StandsBefore d c xs

-- no effect of a call stands in front of one of a call that had ended before it began
abbrev pub KeepOrder : List Label → List Effect → Type 0
KeepOrder log effects = (c d : CallId) → EndsBefore log c d → StandsBefore d c effects → ⊥

-- AT EVERY TIME OF A RUN: the effects of each replica keep the order of the calls
abbrev pub EffectsKeepOrder : List Label → Type 0
EffectsKeepOrder log =
    (front back : List Label) → log ≡ front ++ back → (k r : ℕ) (x : ReplicaState) → (last front).replicas k r ≡ Some x → KeepOrder front x.effects
