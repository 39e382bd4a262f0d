-- The first words of lines.
use Rattle.std.specs.Prelude.{ℕ, List, codes}
use Rattle.ckpt_types.specs.declared.words.FirstWord.{FirstWord}
use Rattle.ckpt_types.specs.declared.words.FirstWord.TheVariants as words
use Rattle.ckpt_types.specs.OpWord.{op_text}

-- how a first word is spelled
abbrev pub first_word_text : FirstWord → List ℕ
first_word_text (words.Op op) = op_text op
first_word_text words.Nodes = codes "nodes"
first_word_text words.Step = codes "step"
first_word_text words.Finish = codes "finish"
first_word_text words.Fail = codes "fail"
first_word_text words.Join = codes "join"
first_word_text words.At = codes "at"
first_word_text words.Pull = codes "pull"
first_word_text words.Put = codes "put"
first_word_text words.Propagate = codes "propagate"
first_word_text words.Show = codes "show"
first_word_text words.Race = codes "race"
first_word_text words.End = codes "end"

-- what stands in front of a line whose call is only begun
abbrev pub begin_text : List ℕ
begin_text = codes "begin"
