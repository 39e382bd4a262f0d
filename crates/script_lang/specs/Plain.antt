-- A line that is read at once, word by word from the left.
use Rattle.std.specs.Prelude.{◌≡◌, ℕ, false, List, Option, Some, None, IfSome, Ok, ◌∷◌, ◌+◌, ◌≤◌, sum_by, ⊤}
use Rattle.std.specs.List.{list_any}
use Rattle.ckpt_types.specs.declared.operation.Op.TheVariants as ops
use Rattle.ckpt_types.specs.Limits.{script_reads_max}
use Rattle.ckpt_types.specs.FirstWord.{begin_text}
use Rattle.script_words.specs.Words.{Class, Meaning, read_word, a_client, a_place}
use Rattle.ckpt_types.specs.declared.words.FirstWord.{FirstWord}
use Rattle.script_lines.specs.declared.lines.Line.{Line}
use Rattle.script_lines.specs.declared.lines.Line.TheVariants as lines
use Rattle.script_lang.specs.declared.quick.Front.{Front}
use Rattle.script_lang.specs.declared.quick.Quick.{Quick}
use Rattle.script_lang.specs.declared.quick.Quick.TheVariants as quicks
use Rattle.script_lines.specs.Table.{said_by, any_number, only_begun, is_empty, line_said}
use Rattle.script_lang.specs.Grammar.{words_of, fault_after, marks_after}
use Rattle.script_lang.specs.declared.marks.Marks.{Marks}

-- the first word of the text says the value, and the others are those of the rest
pub record SaysFirst (c : Class) (text : List ℕ) (value : Meaning c) (rest : List ℕ) : Type 0 where
  pub word : List ℕ
  pub words : words_of text ≡ word ∷ words_of rest
  pub says : read_word c word ≡ Ok value

-- the words of the text up to the last say what the front tells
pub record SaysFront (text : List ℕ) (front : Front) : Type 0 where
  pub rest : List ℕ
  pub behind : List ℕ
  pub after : List ℕ
  pub client : SaysFirst a_client text front.client rest
  pub place : SaysFirst a_place rest front.place behind
  pub id : words_of behind ≡ front.id.now ∷ words_of after
  pub offset : SaysFirst any_number after front.offset front.last.now

-- the line that was read at once
abbrev pub line_in_quick : Quick → Option Line
line_in_quick (quicks.Write client place update) = Some (lines.Call client (ops.Write place update))
line_in_quick (quicks.Read client place elements asked) = Some (lines.Call client (ops.Read place elements))
line_in_quick quicks.Other = None

-- how many bytes it is said to ask for, which are all that it asks for
abbrev pub AsksAll : Quick → Type 0
AsksAll (quicks.Read client place elements asked) = sum_by (λ e. e.len) elements ≡ asked
AsksAll (quicks.Write client place update) = ⊤
AsksAll quicks.Other = ⊤

-- the text behind a first word says it, and no word is empty
abbrev pub SaysBehind : FirstWord → List ℕ → Quick → Type 0
SaysBehind k text quick = IfSome (line_in_quick quick) (λ x. (list_any is_empty (words_of text) ≡ false) × (said_by k (words_of text) ≡ Ok x)) × AsksAll quick

-- the text says it, and behind `begin` that it is begun
abbrev pub SaysLine : List ℕ → Quick → Type 0
SaysLine text quick = IfSome (line_in_quick quick) (λ x. (line_said (words_of text) ≡ Ok x) × (line_said (begin_text ∷ words_of text) ≡ Ok (only_begun x))) × AsksAll quick

-- outside of a block the line leaves no mark but the bytes that it asks for, where they may be asked for
abbrev pub OnlyAsks : Line → ℕ → Type 0
OnlyAsks x asked = (m : Marks) → m.none ≡ false → m.block ≡ None → m.asked + asked ≤ script_reads_max → (fault_after m x ≡ None) × (marks_after x m ≡ record m { asked = m.asked + asked })
