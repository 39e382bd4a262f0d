-- A step on one replica: what its row says of the replica and of the entry, and that the replica has its generation and its effects still.
use Rattle.std.proofs.Common.{◌≡◌, ◌⊎◌, ℕ, inr, [], ◌∷◌, ◌++◌, Option, Some, None, Bool, true, false, ℤ, List, refl, ap}
use Rattle.std.specs.Prelude.{IsOk}
use Rattle.ckpt_types.specs.declared.identities.CallId.{CallId}
use Rattle.ckpt_types.specs.declared.update.Update.{Update}
use Rattle.ckpt_types.specs.Updates.{outcome}
use Rattle.weak_marks.specs.Marks.{Marked}
use Rattle.node_msgs.specs.declared.steps.Verb.{Verb}
use Rattle.ckpt_types.specs.Asks.{asked, update_of}
use Rattle.std.proofs.lemmas.Option.{same_Some}
use Rattle.run_labels.specs.declared.labels.Label.{Label}
use Rattle.ckpt_machine.specs.WasAsked.{WasAsked}
use Rattle.cluster_record.specs.declared.entries.Entry.{Entry}
use Rattle.cluster_record.specs.RecordState.{entry_of}
use Rattle.ckpt_machine.specs.Beginning.{update_is_bad}
use Rattle.ckpt_machine.specs.ActiveGuards.{AreMarksOf}
use Rattle.ckpt_machine.specs.InHand.{IsUpdateAsk}
use Rattle.ckpt_machine.specs.Invariant.{Invariant}
use Rattle.ckpt_machine.specs.Machine.{Machine, Staged, ReplicaState, CallState, who}
use Rattle.ckpt_machine.specs.Options.{is_weak, is_by_element}
use Rattle.cluster_record.specs.Placement.{is_all}
use Rattle.ckpt_machine.specs.Replays.{IsPrefix}
use Rattle.ckpt_machine.specs.Runs.{last}
use Rattle.ckpt_machine.specs.After.{committed_slot, with_committed, next_element_written, with_next_element, effect_of, slot_claimed}
use Rattle.ckpt_machine.specs.Due.{Told, IsDone, due}
use Rattle.ckpt_machine.proofs.Histories.{HasHistory}
use Rattle.ckpt_machine.proofs.Prefixes.{prefix_same, prefix_of_same}

-- the state is the one behind a front of the log
pub record IsBehindFront (log : List Label) (m : Machine) : Type 0 where
  pub front : List Label
  pub rest : List Label
  pub log_is : log ≡ front ++ rest
  pub state_is : m ≡ last front

-- this label is the next one behind that front
abbrev pub ComesNext : (log : List Label) (m : Machine) → IsBehindFront log m → Label → Type 0
ComesNext log m at l = (more : List Label) × (at.rest ≡ l ∷ more)

-- a call in hand takes this step, which is due, behind a front of the log where this holds, on a replica that is there; it began in the log with this very update, of this checkpoint, or is a copying that has reserved for it
pub record StepsWhen (When : Machine → Type 0) (log : List Label) (m : Machine) (s : CallState) (verb : Verb) (k r : ℕ) (x : ReplicaState) : Type 0 where
  pub inv : Invariant m
  pub history : HasHistory m
  pub at : IsBehindFront log m
  pub held : m.in_hand (who s) ≡ Some s
  pub there : m.replicas k r ≡ Some x
  pub told : Told
  pub verb_is : told.verb ≡ verb
  pub done : IsDone m s (due m s) told
  pub asks : IsUpdateAsk (asked s.op)
  pub kept : s.kept.ckpt ≡ Some k
  pub asked : WasAsked log k s.call (update_of s.op)
  pub when : When m

-- behind any front
abbrev pub StepsOn : List Label → Machine → CallState → Verb → ℕ → ℕ → ReplicaState → Type 0
StepsOn log m s verb k r x = StepsWhen (λ m. Unit {0}) log m s verb k r x

-- the checkpoint has this entry, and its updates are on all replicas
pub record DeclaresAll (m : Machine) (k : ℕ) (e : Entry) : Type 0 where
  pub found : entry_of k m.cluster.entries ≡ Some e
  pub all : is_all e.attributes ≡ true

-- it has this entry, and they are on the active alone, which is this node
pub record IsActiveOf (m : Machine) (k r : ℕ) (e : Entry) : Type 0 where
  pub found : entry_of k m.cluster.entries ≡ Some e
  pub alone : is_all e.attributes ≡ false
  pub active : e.active ≡ Some r

-- no marks stand, and this is a write of some elements, done one after the other, which has an outcome
pub record CanBeMarked (e : Entry) (update : Update) (t : ℤ) (x : ReplicaState) : Type 0 where
  pub none : x.marks ≡ None
  pub by_element : is_by_element (is_weak e.attributes) update ≡ true
  pub good : update_is_bad update ≡ false
  pub fits : IsOk (outcome e.attributes update t x.sections)

-- these marks stand, of an update of the call, of which an element is left, or none
pub record IsMarkedFor (call : CallId) (update : Update) (left : Bool) (x : ReplicaState) (marks : Marked) : Type 0 where
  pub stand : x.marks ≡ Some marks
  pub are : AreMarksOf call update left marks

-- what one replica becomes: it has its generation and its effects still, and where updates are on the active alone, more only if it is the active
pub record Grows (m : Machine) (k r : ℕ) (x y : ReplicaState) : Type 0 where
  pub generation : y.generation ≡ x.generation
  pub more : IsPrefix x.effects y.effects
  pub other : (e : Entry) → entry_of k m.cluster.entries ≡ Some e → is_all e.attributes ≡ false → (e.active ≡ Some r) ⊎ (y.effects ≡ x.effects)

-- a commit leaves the generation
pub committed_generation : (o : Option Entry) (x : ReplicaState) → (with_committed o x).generation ≡ x.generation
committed_generation None x = refl
committed_generation (Some e) x = by_slot x.slot
  where
    by_slot : (o : Option Staged) → (committed_slot e.attributes x o).generation ≡ x.generation
    by_slot None = refl
    by_slot (Some slot) = refl

-- an element of a weak write leaves the generation
pub element_generation : (o : Option Entry) (x : ReplicaState) → (with_next_element o x).generation ≡ x.generation
element_generation None x = refl
element_generation (Some e) x = by_marks x.marks
  where
    by_marks : (marks : Option Marked) → (next_element_written e.attributes x marks).generation ≡ x.generation
    by_marks None = refl
    by_marks (Some marked) = refl

-- a commit takes no effect away
pub committed_more : (o : Option Entry) (x : ReplicaState) → IsPrefix x.effects (with_committed o x).effects
committed_more None x = prefix_same x.effects
committed_more (Some e) x = by_slot x.slot
  where
    by_slot : (o : Option Staged) → IsPrefix x.effects (committed_slot e.attributes x o).effects
    by_slot None = prefix_same x.effects
    by_slot (Some slot) = (effect_of slot ∷ [], refl)

-- where its effects and its generation stay
pub grows_same : (m : Machine) (k r : ℕ) (x y : ReplicaState) → y.effects ≡ x.effects → y.generation ≡ x.generation → Grows m k r x y
grows_same m k r x y same generation = record { generation = generation; more = prefix_of_same x.effects y.effects same; other = λ e found alone. inr same }

-- a slot that a call has claimed stood there, with the same update of the same call
pub claimed_was : (call : CallId) (o : Option Staged) (slot : Staged) → slot_claimed call o ≡ Some slot → (old : Staged) × (o ≡ Some old) × (old.origin ≡ slot.origin) × (old.update ≡ slot.update)
claimed_was call None slot is = absurd (cc is)
claimed_was call (Some old) slot is = let same = same_Some (record old { owner = call }) slot is in (old, refl, ap (λ (z : Staged). z.origin) same, ap (λ (z : Staged). z.update) same)
