use Rattle.std.proofs.Common.{◌≡◌, take}
use Rattle.std.specs.List.{list_all}
use Rattle.script_words.specs.Words.{is_graphic}
use Rattle.script_words.proofs.reading.each_graphic.Given as goal

abbrev pub invariant-loop-byte : goal.invariant-loop-byte
invariant-loop-byte l = l.graphic ≡ list_all is_graphic (take l.byte-index l.text)
