-- Only what was asked for is done: which call an effect, a slot and marks are of.
use Rattle.std.specs.Prelude.{◌≡◌, ◌⊎◌, ℕ, List, [], ◌∷◌, ◌++◌, Some, None}
use Rattle.ckpt_types.specs.declared.identities.CallId.{CallId}
use Rattle.ckpt_types.specs.declared.operation.Op.{Op}
use Rattle.ckpt_types.specs.declared.operation.Op.TheVariants as ops
use Rattle.ckpt_types.specs.declared.update.Update.{Update}
use Rattle.ckpt_types.specs.declared.update.Update.TheVariants as updates
use Rattle.ckpt_types.specs.declared.words.OpWord.TheVariants as opwords
use Rattle.node_msgs.specs.declared.steps.Verb.TheVariants as verbs
use Rattle.node_msgs.specs.declared.steps.StepReply.TheVariants as words
use Rattle.ckpt_types.specs.Asks.{update_of}
use Rattle.ckpt_types.specs.OpWord.{word_of_op}
use Rattle.run_labels.specs.declared.labels.Label.{Label}
use Rattle.run_labels.specs.declared.labels.Label.TheVariants as labels
use Rattle.weak_marks.specs.Marks.{Marked}
use Rattle.ckpt_machine.specs.Acknowledged.{IsUpdateWord, HasBegun}
use Rattle.ckpt_machine.specs.Machine.{Effect, Applied, Broken, Staged, ReplicaState, Snapshot}
use Rattle.ckpt_machine.specs.Runs.{last}

-- the call began in the log with an operation that asks for this very update, of this very checkpoint
pub record WasAskedFor (log : List Label) (k : ℕ) (call : CallId) (update : Update) : Type 0 where
  pub op : Op
  pub asks : IsUpdateWord (word_of_op op)
  pub begun : HasBegun log call op (Some k)
  pub update_is : update ≡ update_of op

-- the label is a step of this call, at this checkpoint
abbrev pub IsStepAt : Label → CallId → ℕ → Type 0
IsStepAt (labels.Stepped call word verb ckpt r reply end details) d k = (call ≡ d) × (word ≡ opwords.Copy) × (verb ≡ verbs.Reserve) × (ckpt ≡ Some k) × (reply ≡ words.Ok)
IsStepAt label d k = ⊥

-- the call is the copying of a node, which has reserved for the checkpoint by a step in the log, and whose update changes nothing
pub record WasCopying (log : List Label) (k : ℕ) (call : CallId) (update : Update) : Type 0 where
  pub begun : HasBegun log call ops.Copy None
  pub before : List Label
  pub behind : List Label
  pub step : Label
  pub log_is : log ≡ before ++ step ∷ behind
  pub reserved : IsStepAt step call k
  pub update_is : update ≡ updates.Nothing

-- the call was asked for this update of this checkpoint, or was copying it
abbrev pub WasAsked : List Label → ℕ → CallId → Update → Type 0
WasAsked log k call update = WasAskedFor log k call update ⊎ WasCopying log k call update

-- an effect is of such a call; a weak write that was cut short is of one that was asked for it
abbrev pub EffectWasAsked : List Label → ℕ → Effect → Type 0
EffectWasAsked log k (Applied call update moment) = WasAsked log k call update
EffectWasAsked log k (Broken call update moment done) = WasAskedFor log k call update

-- each of these is
abbrev pub EachWasAsked : List Label → ℕ → List Effect → Type 0
EachWasAsked log k [] = Unit {0}
EachWasAsked log k (x ∷ xs) = EffectWasAsked log k x × EachWasAsked log k xs

-- a replica of the checkpoint has no effect but such, and what is staged on it is of such a call; what is marked, of one that was asked for it
pub record HasOnlyAsked (log : List Label) (k : ℕ) (x : ReplicaState) : Type 0 where
  pub effects : EachWasAsked log k x.effects
  pub staged : (slot : Staged) → x.slot ≡ Some slot → WasAsked log k slot.origin slot.update
  pub marked : (marks : Marked) → x.marks ≡ Some marks → WasAskedFor log k marks.call marks.update

-- each replica behind the log has no more, and each background snapshot
pub record IsOnlyAsked (log : List Label) : Type 0 where
  pub replicas : (k r : ℕ) (x : ReplicaState) → (last log).replicas k r ≡ Some x → HasOnlyAsked log k x
  pub snapshots : (k : ℕ) (s : Snapshot) → (last log).snapshots k ≡ Some s → EachWasAsked log k s.effects

-- AT EVERY TIME OF A RUN: after each front of the log, by calls that began in that front
abbrev pub OnlyAskedThroughout : List Label → Type 0
OnlyAskedThroughout log = (front back : List Label) → log ≡ front ++ back → IsOnlyAsked front
