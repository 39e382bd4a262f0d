-- Which sections are corrupted: those of weak writes that were cut short, whose calls a failure has abandoned.
use Rattle.std.specs.Prelude.{◌≡◌, ◌⊎◌, ℕ, List, [], ◌∷◌, ◌++◌, Some, Contains, ℤ}
use Rattle.ckpt_types.specs.declared.identities.CallId.{CallId}
use Rattle.ckpt_types.specs.declared.sections.SectionState.TheVariants.{Corrupted}
use Rattle.ckpt_types.specs.declared.update.IoElement.{IoElement}
use Rattle.ckpt_types.specs.declared.update.Update.{Update}
use Rattle.ckpt_types.specs.Sections.{Section}
use Rattle.run_labels.specs.declared.labels.Label.{Label}
use Rattle.weak_marks.specs.Marks.{elements_in}
use Rattle.ckpt_machine.specs.CallsEnd.{IsAbandonedIn}
use Rattle.ckpt_machine.specs.Machine.{Effect, Applied, Broken, ReplicaState}
use Rattle.ckpt_machine.specs.Owners.{WasAbandoned}
use Rattle.ckpt_machine.specs.Runs.{last}

-- one of these elements of a write names the section
abbrev pub IsNamedBy : List ℕ → List IoElement → Type 0
IsNamedBy id [] = ⊥
IsNamedBy id (e ∷ elements) = (e.id ≡ id) ⊎ IsNamedBy id elements

-- the effect is a weak write that was cut short, of which an element names the section
abbrev pub IsBrokenAt : List ℕ → Effect → Type 0
IsBrokenAt id (Applied call update moment) = ⊥
IsBrokenAt id (Broken call update moment done) = IsNamedBy id (elements_in update)

-- one of the effects is
abbrev pub IsNamedByBroken : List ℕ → List Effect → Type 0
IsNamedByBroken id [] = ⊥
IsNamedByBroken id (x ∷ xs) = IsBrokenAt id x ⊎ IsNamedByBroken id xs

-- each corrupted section of the replica is named by a weak write that was cut short there
abbrev pub EachCorruptedIsNamed : ReplicaState → Type 0
EachCorruptedIsNamed x = (s : Section) → Contains x.sections s → s.state ≡ Corrupted → IsNamedByBroken s.id x.effects

-- a failure has cut the call short: it was in hand, and was abandoned by the failure; and so it has begun, no step of it has ended it, and it is neither in hand
-- nor live
pub record WasCutShort (log : List Label) (call : CallId) : Type 0 where
  pub failure : IsAbandonedIn log call
  pub abandoned : WasAbandoned log call

-- each weak write among the effects that was cut short is of a call that a failure has cut short
abbrev pub EachBrokenWasCutShort : List Label → List Effect → Type 0
EachBrokenWasCutShort log effects =
    (call : CallId) (update : Update) (moment : ℤ) (done : ℕ) → Contains effects (Broken call update moment done) → WasCutShort log call

-- each corrupted section of the replica is named by a weak write that was cut short there, and each such write is of such a call
pub record HasOnlyBrokenCorrupt (log : List Label) (x : ReplicaState) : Type 0 where
  pub named : EachCorruptedIsNamed x
  pub cut_short : EachBrokenWasCutShort log x.effects

-- AT EVERY TIME OF A RUN: only a weak write that was cut short leaves sections corrupted, and only a failure cuts one short
abbrev pub OnlyBrokenCorrupt : List Label → Type 0
OnlyBrokenCorrupt log =
    (front back : List Label) → log ≡ front ++ back → (k r : ℕ) (x : ReplicaState) → (last front).replicas k r ≡ Some x → HasOnlyBrokenCorrupt front x
