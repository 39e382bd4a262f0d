-- The word of a line that steps a call.
use Rattle.std.specs.Prelude.{Bool, true, false}
use Rattle.run_labels.specs.declared.words.LineWord.{LineWord}
use Rattle.run_labels.specs.declared.words.LineWord.TheVariants as linewords

-- the first word of the line that steps a call: `finish` to its end, else `step`
abbrev pub step_word : Bool → LineWord
step_word true = linewords.Finish
step_word false = linewords.Step
