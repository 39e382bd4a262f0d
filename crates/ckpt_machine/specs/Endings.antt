-- How a call may end.
use Rattle.std.specs.Prelude.{◌≡◌, IfSome, Bool, true, false}
use Rattle.ckpt_types.specs.declared.answers.Outcome.{Outcome}
use Rattle.ckpt_types.specs.declared.answers.Outcome.TheVariants.{Done, Refused, NoMemory}
use Rattle.run_labels.specs.declared.labels.Label.{Label}
use Rattle.run_labels.specs.declared.labels.Label.TheVariants as labels
use Rattle.ckpt_types.specs.declared.words.OpWord.{OpWord}
use Rattle.ckpt_types.specs.declared.words.OpWord.TheVariants as opwords
use Rattle.ckpt_types.specs.OpWord.{word_of_op}

-- the calls that take memory of their own, and may be refused it, of those not built yet too; an update, a read, a status, a close and all others never are
abbrev pub may_lack_memory : OpWord → Bool
may_lack_memory opwords.Client = true
may_lack_memory opwords.Open = true
may_lack_memory opwords.OpenAsync = true
may_lack_memory opwords.Active = true
may_lack_memory opwords.Iter = true
may_lack_memory opwords.Sync = true
may_lack_memory opwords.SyncAsync = true
may_lack_memory opwords.Copy = true
may_lack_memory word = false

-- a call of this word may end so: answered OK, refused with a cause, or without the memory that it takes; without failures no call is abandoned, and
-- BUSY and a step astray end none
abbrev pub IsEndOf : OpWord → Outcome → Type 0
IsEndOf word (Done answer) = Unit {0}
IsEndOf word (Refused error cause) = Unit {0}
IsEndOf word NoMemory = may_lack_memory word ≡ true
IsEndOf word outcome = ⊥

-- where the label ends a call, at its beginning or by a step, it ends it as a call of its word may end
abbrev pub EndsKnown : Label → Type 0
EndsKnown (labels.Began call op end details) = IfSome end (IsEndOf (word_of_op op))
EndsKnown (labels.Stepped call word verb k r reply end details) = IfSome end (IsEndOf word)
EndsKnown label = Unit {0}
