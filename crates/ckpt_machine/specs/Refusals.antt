-- What a refused call leaves as it was.
use Rattle.std.specs.Prelude.{◌≡◌, ◌⊎◌, ℕ, ◌+◌, List, [], ◌∷◌, ◌++◌, Option, Some, None, IsSomeAnd, false, if◌then◌else◌}
use Rattle.ckpt_types.specs.declared.answers.Outcome.{Outcome}
use Rattle.ckpt_types.specs.declared.answers.Outcome.TheVariants.{Refused, NoMemory}
use Rattle.ckpt_types.specs.declared.identities.ActorName.{ActorName}
use Rattle.ckpt_types.specs.declared.identities.CallId.{CallId}
use Rattle.ckpt_types.specs.declared.identities.Who.{Who}
use Rattle.ckpt_types.specs.declared.update.Update.TheVariants as updates
use Rattle.ckpt_types.specs.declared.words.OpWord.{OpWord}
use Rattle.ckpt_types.specs.declared.words.OpWord.TheVariants as opwords
use Rattle.ckpt_types.specs.OpWord.{word_of_op, is_async, stepped_as}
use Rattle.node_msgs.specs.declared.steps.Verb.TheVariants as verbs
use Rattle.run_labels.specs.declared.labels.Label.{Label}
use Rattle.run_labels.specs.declared.labels.Label.TheVariants as labels
use Rattle.ckpt_machine.specs.Machine.{Machine, Effect, ReplicaState}
use Rattle.cluster_record.specs.Calls.{put_actor}
use Rattle.call_dispatch.specs.PendingCalls.{ended_in}
use Rattle.ckpt_machine.specs.Whose.{same_who}
use Rattle.cluster_record.specs.Places.{put}
use Rattle.cluster_record.specs.RecordState.{undone}
use Rattle.ckpt_machine.specs.Owned.{HasNothing, IsEffectOf, IsUpdateBy, OwnsNothing}
use Rattle.ckpt_machine.specs.After.{record_step, with_pending}
use Rattle.ckpt_machine.specs.OpenGuards.{IsMadeBy}
use Rattle.ckpt_machine.specs.Runs.{last}

-- a call ends so that was refused, or was refused its own memory
abbrev pub IsRefused : Option Outcome → Type 0
IsRefused (Some (Refused error cause)) = Unit {0}
IsRefused (Some NoMemory) = Unit {0}
IsRefused end = ⊥

-- the label ends a call with a refusal, or by the want of memory of its own, where it begins or at a step
abbrev pub IsRefusal : Label → Type 0
IsRefusal (labels.Began call op end details) = IsRefused end
IsRefusal (labels.Stepped call op verb k r reply end details) = IsRefused end
IsRefusal label = ⊥

-- the call of a label
abbrev pub call_told : Label → Option CallId
call_told (labels.Began call op end details) = Some call
call_told (labels.Stepped call op verb k r reply end details) = Some call
call_told label = None

-- m' is as n, but that no call is in hand under this name
pub record LeavesAll (whose : Who) (n m' : Machine) : Type 0 where
  -- the record with its names
  pub cluster : m'.cluster ≡ n.cluster
  -- what nodes have of checkpoints
  pub replicas : (k r : ℕ) → m'.replicas k r ≡ n.replicas k r
  pub reserved : (k r : ℕ) → m'.reserved k r ≡ n.reserved k r
  pub snapshots : (k : ℕ) → m'.snapshots k ≡ n.snapshots k
  -- the tables of every client, and its asynchronous calls
  pub tables : (a : ActorName) → m'.tables a ≡ n.tables a
  pub pending : (a : ActorName) → m'.pending a ≡ n.pending a
  -- the calls
  pub next : (a : ActorName) → m'.next a ≡ n.next a
  pub others : (w : Who) → same_who w whose ≡ false → m'.in_hand w ≡ n.in_hand w
  pub ended : m'.in_hand whose ≡ None

-- a checkpoint that was in the making is undone: its entry is gone with its name, and what nodes reserved for it
abbrev pub unmade : ℕ → Machine → Machine
unmade k m = record m { cluster = undone k m.cluster; reserved = put m.reserved k (λ r. None) }

-- the same as a step of the record: what is over is swept away then
abbrev pub unmade_swept : ℕ → Machine → Machine
unmade_swept k m = record_step (undone k) m

-- where the call is an asynchronous one, its end stands behind those of its client's that have ended before, till its callback is given
abbrev pub end_kept : CallId → OpWord → Option Outcome → Machine → Machine
end_kept call word None m = m
end_kept call word (Some end) m = with_pending call.actor (λ p. if is_async word then ended_in call None end p else p) m

-- all is as it was, but that the checkpoint that this call was making is undone, and that its end is kept
pub record UndoesOwn (undo : ℕ → Machine → Machine) (call : CallId) (word : OpWord) (end : Option Outcome) (m m' : Machine) : Type 0 where
  pub ckpt : ℕ
  pub own : IsMadeBy m call ckpt
  pub rest : LeavesAll (stepped_as call word) (end_kept call word end (undo ckpt m)) m'

-- the number of this call is taken
abbrev pub number_taken : CallId → Machine → Machine
number_taken call m = record m { next = put_actor m.next call.actor (m.next call.actor + 1) }

-- a refusal leaves all as it was, but that its call has ended, which is kept of an asynchronous one, and its number is taken; one that the record alone
-- decides may undo the making of its own call; and where a node had no memory for a making, it is undone
abbrev pub LeavesBy : (ℕ → Machine → Machine) → Label → Machine → Machine → Type 0
LeavesBy undo (labels.Began call op end details) m m' = LeavesAll (stepped_as call (word_of_op op)) (number_taken call m) m'
LeavesBy undo (labels.Stepped call op verbs.Look k r reply end details) m m' =
    LeavesAll (stepped_as call op) (end_kept call op end m) m' ⊎ UndoesOwn undo call op end m m'
LeavesBy undo (labels.Stepped call op verbs.Undo k r reply end details) m m' = UndoesOwn undo call op end m m'
LeavesBy undo (labels.Stepped call op verb k r reply end details) m m' = LeavesAll (stepped_as call op) (end_kept call op end m) m'
LeavesBy undo label m m' = ⊥

-- of the effects, each of this call is an update that changes nothing
abbrev pub ChangeNothing : CallId → List Effect → Type 0
ChangeNothing call [] = Unit {0}
ChangeNothing call (x ∷ xs) = (IsEffectOf call x → IsUpdateBy call updates.Nothing x) × ChangeNothing call xs

-- the call owns nothing, and what it has done to replicas changes none of their sections
pub record HasChangedNothing (m : Machine) (call : CallId) : Type 0 where
  pub owns : OwnsNothing m call
  pub effects : (k r : ℕ) (x : ReplicaState) → m.replicas k r ≡ Some x → ChangeNothing call x.effects

-- by the word of a call: a copying that is refused leaves what it has completed, where its own updates change nothing; any other leaves nothing
abbrev pub HasNothingBy : OpWord → Machine → CallId → Type 0
HasNothingBy opwords.Copy m call = HasChangedNothing m call
HasNothingBy word m call = HasNothing m call

-- the word of the call of a label
abbrev pub word_told : Label → Option OpWord
word_told (labels.Began call op end details) = Some (word_of_op op)
word_told (labels.Stepped call op verb k r reply end details) = Some op
word_told label = None

-- A call that ends with a refusal owns no slot, no marks, no making and no hold after it, and no replica has an effect of it, but for those of a copying,
-- which change nothing; and the label that refuses it leaves all else as it was.
pub record Refuses (l : Label) (m m' : Machine) : Type 0 where
  pub leaves : LeavesBy unmade l m m'
  pub nothing : IsSomeAnd (call_told l) (λ call. IsSomeAnd (word_told l) (λ word. HasNothingBy word m' call))

-- OF EACH LABEL OF A LOG that is a refusal: it is so by the states before and after it
abbrev pub EachRefusalLeaves : List Label → Type 0
EachRefusalLeaves log = (front back : List Label) (l : Label) → log ≡ front ++ l ∷ back → IsRefusal l → Refuses l (last front) (last (front ++ l ∷ []))
