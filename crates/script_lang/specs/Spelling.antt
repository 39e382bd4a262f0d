-- The one spelling of a script.
use Rattle.std.specs.Prelude.{ℕ, List, [], ◌∷◌, ◌++◌, flat_map}
use Rattle.script_lines.specs.declared.lines.Line.{Line}
use Rattle.script_lines.specs.Spelling.{line_text}

-- THE SPELLING: each line, and the byte 10 behind it
unfoldable pub spelling : List Line → List ℕ
spelling xs = flat_map (λ x. line_text x ++ 10 ∷ []) xs
