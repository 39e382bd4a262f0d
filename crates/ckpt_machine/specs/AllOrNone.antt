-- Of a checkpoint with updates on all replicas: none has an update staged and all are equal, or all are of one update.
use Rattle.std.specs.Prelude.{◌≡◌, ◌⊎◌, ℕ, List, [], ◌∷◌, ◌++◌, Option, Some, None, Ok, Bool, true, false, ℤ}
use Rattle.cluster_record.specs.Placement.{is_all}
use Rattle.ckpt_types.specs.declared.attributes.CreationAttributes.{CreationAttributes}
use Rattle.ckpt_types.specs.declared.identities.CallId.{CallId}
use Rattle.ckpt_types.specs.declared.update.Update.{Update}
use Rattle.ckpt_types.specs.Sections.{Section}
use Rattle.ckpt_types.specs.Updates.{outcome}
use Rattle.run_labels.specs.declared.labels.Label.{Label}
use Rattle.cluster_record.specs.declared.entries.Entry.{Entry}
use Rattle.cluster_record.specs.RecordState.{entry_of}
use Rattle.ckpt_machine.specs.Machine.{Machine, Effect, Applied, Staged, ReplicaState}
use Rattle.ckpt_machine.specs.Complete.{complete_replicas}
use Rattle.ckpt_machine.specs.GuardTerms.{OnEach}
use Rattle.ckpt_machine.specs.Runs.{last}

-- no complete replica has a slot, and all have equal sections and effects
pub record AreEqual (m : Machine) (k : ℕ) : Type 0 where
  pub sections : List Section
  pub effects : List Effect
  pub each : OnEach (λ y. (y.slot ≡ None) × (y.sections ≡ sections) × (y.effects ≡ effects)) (complete_replicas m k)

-- one update, with the sections and effects under it and the sections after it
pub record OneUpdate : Type 0 where
  pub origin : CallId
  pub update : Update
  pub moment : ℤ
  pub sections : List Section
  pub effects : List Effect
  pub outcome : List Section

-- a replica with a slot is of it, and has what is under it; one without has that too, or all of those have what is after it
abbrev pub IsOfOne : OneUpdate → Bool → ReplicaState → Option Staged → Type 0
IsOfOne one done y (Some slot) =
    (slot.origin ≡ one.origin) × (slot.update ≡ one.update) × (slot.moment ≡ one.moment) × (y.sections ≡ one.sections) × (y.effects ≡ one.effects)
IsOfOne one true y None = (y.sections ≡ one.outcome) × (y.effects ≡ one.effects ++ Applied one.origin one.update one.moment ∷ [])
IsOfOne one false y None = (y.sections ≡ one.sections) × (y.effects ≡ one.effects)

-- all slots of the checkpoint are of one update, and its replicas are before it or after it
pub record AreOfOne (m : Machine) (k : ℕ) (a : CreationAttributes) : Type 0 where
  pub one : OneUpdate
  pub done : Bool
  pub fits : outcome a one.update one.moment one.sections ≡ Ok one.outcome
  pub each : OnEach (λ y. IsOfOne one done y y.slot) (complete_replicas m k)

-- of every checkpoint that is made, whose updates are on all replicas: no complete replica has a slot, and all are equal; or all slots are of one update
abbrev pub AllOrNone : Machine → Type 0
AllOrNone m =
    (k : ℕ) (e : Entry) → entry_of k m.cluster.entries ≡ Some e → e.making ≡ None → is_all e.attributes ≡ true → AreEqual m k ⊎ AreOfOne m k e.attributes

-- AT EVERY TIME OF A RUN: it is so after each front of the log
abbrev pub IsAllOrNoneThroughout : List Label → Type 0
IsAllOrNoneThroughout log = (front back : List Label) → log ≡ front ++ back → AllOrNone (last front)
