-- What guards speak of: deadlines, all complete replicas of a checkpoint, and one of them.
use Rattle.std.specs.Prelude.{◌≡◌, ℕ, List, [], ◌∷◌, Option, Some, None, IsSomeAnd, Bool, true, false, not, ◌==◌, ◌&&◌, ◌||◌, ℤ}
use Rattle.ckpt_types.specs.declared.identities.CallId.{CallId}
use Rattle.ckpt_types.specs.declared.update.Update.{Update}
use Rattle.cluster_record.specs.declared.entries.Entry.{Entry}
use Rattle.cluster_record.specs.Calls.{same_call}
use Rattle.cluster_record.specs.RecordState.{entry_of}
use Rattle.cluster_record.specs.DueOpen.{IsBefore}
use Rattle.ckpt_types.specs.Asks.{asked}
use Rattle.ckpt_machine.specs.Driving.{deadline_from}
use Rattle.ckpt_machine.specs.Machine.{Machine, Staged, ReplicaState, CallState}
use Rattle.ckpt_machine.specs.Options.{is_weak, is_by_element}
use Rattle.cluster_record.specs.Placement.{is_all}

-- ---- deadlines

-- the deadline that a call has, if it has one
abbrev pub deadline_of : CallState → Option ℤ
deadline_of s = deadline_from s.kept.moment (asked s.op)

-- the deadline of the call is not reached
abbrev pub IsInTime : Machine → CallState → Type 0
IsInTime m s = IsBefore m.cluster.moment (deadline_of s)

-- ---- the complete replicas of a checkpoint, at once

-- each of them has it
abbrev pub OnEach : (ReplicaState → Type 0) → List (ℕ × ReplicaState) → Type 0
OnEach P [] = Unit {0}
OnEach P ((r, x) ∷ others) = P x × OnEach P others

-- the slot has it, if there is one
abbrev pub IfSlot : Option Staged → (Staged → Type 0) → Type 0
IfSlot None P = Unit {0}
IfSlot (Some slot) P = P slot

-- the call owns the slot
abbrev pub owns_slot : CallId → Option Staged → Bool
owns_slot call None = false
owns_slot call (Some slot) = same_call slot.owner call

-- a complete replica on another node has a slot of the call
abbrev pub owned_elsewhere : CallId → ℕ → List (ℕ × ReplicaState) → Bool
owned_elsewhere call r [] = false
owned_elsewhere call r ((q, x) ∷ others) = (not (q == r) && owns_slot call x.slot) || owned_elsewhere call r others

-- ---- a checkpoint with its entry, and a node's replica of it

-- the checkpoint is there, and the node has its replica
abbrev pub OnReplica : Machine → ℕ → ℕ → (Entry → ReplicaState → Type 0) → Type 0
OnReplica m k r P = IsSomeAnd (entry_of k m.cluster.entries) (λ e. IsSomeAnd (m.replicas k r) (P e))

-- its updates are on all replicas
abbrev pub OnAll : Machine → ℕ → ℕ → (Entry → ReplicaState → Type 0) → Type 0
OnAll m k r P = OnReplica m k r (λ e x. (is_all e.attributes ≡ true) × P e x)

-- its updates are on the active alone, which this node has, no call holds it, and there this update is done element by element, or at once
abbrev pub OnActive : Machine → Update → Bool → ℕ → ℕ → (Entry → ReplicaState → Type 0) → Type 0
OnActive m update by_element k r P =
    OnReplica m k r (λ e x. (is_all e.attributes ≡ false) × (e.active ≡ Some r) × (e.hold ≡ None) × (is_by_element (is_weak e.attributes) update ≡ by_element)
    × P e x)
