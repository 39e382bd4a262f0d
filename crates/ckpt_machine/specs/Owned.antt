-- What a call has in the cluster: slots, marks, makings and holds, and effects.
use Rattle.std.specs.Prelude.{◌≡◌, ◌≢◌, ◌⊎◌, ℕ, List, [], ◌∷◌, Some}
use Rattle.ckpt_types.specs.declared.identities.CallId.{CallId}
use Rattle.ckpt_types.specs.declared.update.Update.{Update}
use Rattle.cluster_record.specs.declared.entries.Entry.{Entry}
use Rattle.cluster_record.specs.RecordState.{entry_of}
use Rattle.weak_marks.specs.Marks.{Marked}
use Rattle.ckpt_machine.specs.Machine.{Machine, Effect, Applied, Broken, Staged, ReplicaState}

-- no replica has a slot that the call owns, or that has its update, or marks of it; and it makes and holds no checkpoint
pub record OwnsNothing (m : Machine) (call : CallId) : Type 0 where
  pub slots : (k r : ℕ) (x : ReplicaState) (slot : Staged) → m.replicas k r ≡ Some x → x.slot ≡ Some slot → (slot.owner ≢ call) × (slot.origin ≢ call)
  pub marks : (k r : ℕ) (x : ReplicaState) (marks : Marked) → m.replicas k r ≡ Some x → x.marks ≡ Some marks → marks.call ≢ call
  pub makes : (k : ℕ) (e : Entry) → entry_of k m.cluster.entries ≡ Some e → e.making ≢ Some call
  pub holds : (k : ℕ) (e : Entry) → entry_of k m.cluster.entries ≡ Some e → e.hold ≢ Some call

-- the effect is of the call
abbrev pub IsEffectOf : CallId → Effect → Type 0
IsEffectOf call (Applied origin update moment) = origin ≡ call
IsEffectOf call (Broken origin update moment done) = origin ≡ call

-- one of the effects is of the call
abbrev pub HasEffect : CallId → List Effect → Type 0
HasEffect call [] = ⊥
HasEffect call (x ∷ xs) = IsEffectOf call x ⊎ HasEffect call xs

-- no replica has an effect of the call
abbrev pub HasNoEffect : Machine → CallId → Type 0
HasNoEffect m call = (k r : ℕ) (x : ReplicaState) → m.replicas k r ≡ Some x → HasEffect call x.effects → ⊥

-- the call owns nothing, and has done nothing to a replica
pub record HasNothing (m : Machine) (call : CallId) : Type 0 where
  pub owns : OwnsNothing m call
  pub effects : HasNoEffect m call

-- the effect is this very update, by this call
abbrev pub IsUpdateBy : CallId → Update → Effect → Type 0
IsUpdateBy call update (Applied origin applied moment) = (origin ≡ call) × (applied ≡ update)
IsUpdateBy call update effect = ⊥

-- one of the effects is
abbrev pub HasUpdate : CallId → Update → List Effect → Type 0
HasUpdate call update [] = ⊥
HasUpdate call update (x ∷ xs) = IsUpdateBy call update x ⊎ HasUpdate call update xs
