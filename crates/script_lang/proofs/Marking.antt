-- One more line for the marks.
use Rattle.std.proofs.Common.{◌≡◌, ap, List, [], ◌∷◌, ◌++◌, reverse}
use Rattle.std.proofs.lemmas.List.{reverse-append}
use Rattle.script_lines.specs.declared.lines.Line.{Line}
use Rattle.script_lang.specs.Grammar.{marks_of, marks_after}

pub marks_more : (xs : List Line) (x : Line) → marks_of (reverse (xs ++ x ∷ [])) ≡ marks_after x (marks_of (reverse xs))
unfolding marks_of marks_after
marks_more xs x = ap marks_of (reverse-append xs (x ∷ []))
