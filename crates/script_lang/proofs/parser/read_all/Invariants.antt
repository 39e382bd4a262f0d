use Rattle.std.proofs.Common.{◌≡◌, length}
use Rattle.script_lang.specs.Grammar.{take_lines, text_lines}
use Rattle.script_lang.proofs.parser.read_all.Given as goal

abbrev pub invariant-loop-rest : goal.invariant-loop-rest
invariant-loop-rest l = take_lines l.reader (text_lines l.rest) ≡ take_lines l.initial.reader (text_lines l.bytes)

abbrev pub decreases-loop-rest : goal.decreases-loop-rest
decreases-loop-rest l = length l.rest
