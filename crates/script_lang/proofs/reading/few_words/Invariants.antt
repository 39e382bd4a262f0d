use Rattle.std.proofs.Common.{◌≡◌, ◌++◌, length, take}
use Rattle.script_lines.specs.Table.{texts}
use Rattle.script_lang.specs.Grammar.{words_of}
use Rattle.script_lang.proofs.reading.few_words.Given as goal

abbrev pub invariant-loop-count : goal.invariant-loop-count
invariant-loop-count l = record {
  told : texts (take l.count l.words) ++ words_of l.rest ≡ words_of l.line;
  places : length l.words ≡ length l.initial.words;
}
