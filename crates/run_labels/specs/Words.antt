-- The words of steps and of states, and those that answer a line in place of a call.
use Rattle.std.specs.Prelude.{ℕ, List, codes}
use Rattle.run_labels.specs.declared.words.LineWord.{LineWord}
use Rattle.run_labels.specs.declared.words.LineWord.TheVariants as lines
use Rattle.run_labels.specs.declared.words.Said.{Said}
use Rattle.run_labels.specs.declared.words.Said.TheVariants as said
use Rattle.node_msgs.specs.declared.steps.Verb.{Verb}
use Rattle.node_msgs.specs.declared.steps.Verb.TheVariants as verbs
use Rattle.ckpt_types.specs.declared.sections.SectionState.{SectionState}
use Rattle.ckpt_types.specs.declared.sections.SectionState.TheVariants as states
use Rattle.ckpt_types.specs.declared.words.FirstWord.TheVariants as first
use Rattle.ckpt_types.specs.FirstWord.{first_word_text}
use Rattle.ckpt_types.specs.OpWord.{op_text}

-- whether a section has what was written
abbrev pub state_text : SectionState → List ℕ
state_text states.Valid = codes "VALID"
state_text states.Corrupted = codes "CORRUPTED"

-- what a step does
abbrev pub verb_text : Verb → List ℕ
verb_text verbs.Enter = codes "enter"
verb_text verbs.Leave = codes "leave"
verb_text verbs.Open = codes "open"
verb_text verbs.Create = codes "create"
verb_text verbs.Reserve = codes "reserve"
verb_text verbs.Finish = codes "finish"
verb_text verbs.Undo = codes "undo"
verb_text verbs.Close = codes "close"
verb_text verbs.Unlink = codes "unlink"
verb_text verbs.Retain = codes "retain"
verb_text verbs.Read = codes "read"
verb_text verbs.Status = codes "status"
verb_text verbs.Iter = codes "iter"
verb_text verbs.Next = codes "next"
verb_text verbs.Stage = codes "stage"
verb_text verbs.Commit = codes "commit"
verb_text verbs.Claim = codes "claim"
verb_text verbs.Withdraw = codes "withdraw"
verb_text verbs.Apply = codes "apply"
verb_text verbs.Mark = codes "mark"
verb_text verbs.Element = codes "element"
verb_text verbs.Unmark = codes "unmark"
verb_text verbs.Pull = codes "pull"
verb_text verbs.Install = codes "install"
verb_text verbs.Hold = codes "hold"
verb_text verbs.Activate = codes "activate"
verb_text verbs.Complete = codes "complete"
verb_text verbs.Look = codes "look"

-- the line that a word answers
abbrev pub line_word_text : LineWord → List ℕ
line_word_text (lines.Op op) = op_text op
line_word_text lines.Step = first_word_text first.Step
line_word_text lines.Finish = first_word_text first.Finish

-- the word that answers a line
abbrev pub said_text : Said → List ℕ
said_text said.Busy = codes "BUSY"
said_text said.Idle = codes "IDLE"
said_text said.Live = codes "LIVE"
said_text said.Down = codes "DOWN"
