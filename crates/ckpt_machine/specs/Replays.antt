-- What a replica has, by what it has taken: its sections are those of the opening with its effects done in their order.
use Rattle.std.specs.Prelude.{◌≡◌, ◌⊎◌, ℕ, List, [], ◌∷◌, ◌++◌, take, Option, Some, None, false, ℤ}
use Rattle.ckpt_types.specs.declared.attributes.CreationAttributes.{CreationAttributes}
use Rattle.ckpt_types.specs.declared.identities.CallId.{CallId}
use Rattle.ckpt_types.specs.declared.update.IoElement.{IoElement}
use Rattle.ckpt_types.specs.Sections.{Section, opening}
use Rattle.ckpt_types.specs.Updates.{outcome}
use Rattle.run_labels.specs.declared.labels.Label.{Label}
use Rattle.weak_marks.specs.Marks.{Marked, elements_in}
use Rattle.replica.specs.Replicas.{or_same, first_written, all_corrupted}
use Rattle.cluster_record.specs.declared.entries.Entry.{Entry}
use Rattle.cluster_record.specs.Placement.{is_collocated}
use Rattle.cluster_record.specs.RecordState.{entry_of}
use Rattle.ckpt_machine.specs.Machine.{Machine, Effect, Applied, Broken, ReplicaState}
use Rattle.cluster_record.specs.Placement.{is_all}
use Rattle.ckpt_machine.specs.Owned.{HasEffect}
use Rattle.ckpt_machine.specs.Runs.{last}

-- ---- effects, done again

-- these elements of a write, each alone, from the first
abbrev pub each_done : CreationAttributes → ℤ → List IoElement → List Section → List Section
each_done a t [] sections = sections
each_done a t (e ∷ elements) sections = each_done a t elements (first_written a t (e ∷ elements) sections)

-- one effect: an update; or the first elements of a weak write that was cut short, whose sections are all corrupted then
abbrev pub effect_done : CreationAttributes → Effect → List Section → List Section
effect_done a (Applied call update t) sections = or_same (outcome a update t sections) sections
effect_done a (Broken call update t done) sections = all_corrupted (elements_in update) (each_done a t (take done (elements_in update)) sections)

-- one after the other
abbrev pub effects_done : CreationAttributes → List Effect → List Section → List Section
effects_done a [] sections = sections
effects_done a (effect ∷ effects) sections = effects_done a effects (effect_done a effect sections)

-- over what a checkpoint has when it is made
abbrev pub replay : CreationAttributes → ℤ → List Effect → List Section
replay a made effects = effects_done a effects (opening a made)

-- with the elements that are done of the weak write that is under way
abbrev pub with_marked : CreationAttributes → Option Marked → List Section → List Section
with_marked a None sections = sections
with_marked a (Some marked) sections = each_done a marked.moment (take marked.done (elements_in marked.update)) sections

-- the sections of the replica are that
abbrev pub IsReplay : Entry → ReplicaState → Type 0
IsReplay e x = x.sections ≡ with_marked e.attributes x.marks (replay e.attributes e.made x.effects)

-- ---- the effects themselves

-- whose an effect is
abbrev pub call_of_effect : Effect → CallId
call_of_effect (Applied call update t) = call
call_of_effect (Broken call update t done) = call

-- no call has two of them
abbrev pub EachCallOnce : List Effect → Type 0
EachCallOnce [] = Unit {0}
EachCallOnce (x ∷ xs) = (HasEffect (call_of_effect x) xs → ⊥) × EachCallOnce xs

-- the second list goes on from the first
abbrev pub IsPrefix : List Effect → List Effect → Type 0
IsPrefix xs ys = (zs : List Effect) × (ys ≡ xs ++ zs)

-- the replica follows the active: any of a checkpoint that is not collocated, and of a collocated one, of which another node may have been the active
-- before, each that has its present generation
abbrev pub IsToFollow : Entry → ReplicaState → Type 0
IsToFollow e x = (is_collocated e.attributes ≡ false) ⊎ (x.generation ≡ e.generation)

-- ---- in a state

-- each complete replica is the replay of its effects; none has two of one call; and where updates go to the active alone, each that follows the active
-- has only what this has taken first
pub record EffectsTell (m : Machine) : Type 0 where
  pub replays : (k r : ℕ) (e : Entry) (x : ReplicaState) → entry_of k m.cluster.entries ≡ Some e → m.replicas k r ≡ Some x → IsReplay e x
  pub once : (k r : ℕ) (x : ReplicaState) → m.replicas k r ≡ Some x → EachCallOnce x.effects
  pub prefix : (k q r : ℕ) (e : Entry) (x y : ReplicaState) → entry_of k m.cluster.entries ≡ Some e → is_all e.attributes ≡ false → e.active ≡ Some r
      → m.replicas k r ≡ Some y → m.replicas k q ≡ Some x → IsToFollow e x → IsPrefix x.effects y.effects

-- AT EVERY TIME OF A RUN: it is so after each front of the log
abbrev pub EffectsTellThroughout : List Label → Type 0
EffectsTellThroughout log = (front back : List Label) → log ≡ front ++ back → EffectsTell (last front)
