use Rattle.std.proofs.Common.{◌≡◌, ◌++◌, ◌∷◌, [], take, flat_map}
use Rattle.script_lines.specs.Spelling.{line_text}
use Rattle.script_lang.proofs.printing.write_lines.Given as goal

abbrev pub invariant-loop-line : goal.invariant-loop-line
invariant-loop-line l = l.out.items ≡ l.initial.out.items ++ flat_map (λ x. line_text x ++ 10 ∷ []) (take l.line-index l.lines)
