-- What a script is, apart from how it is spelled.
use Rattle.std.specs.Prelude.{◌≡◌, ◌≤◌, List, [], ◌∷◌, None}
use Rattle.ckpt_types.specs.Limits.{script_reads_max}
use Rattle.script_lines.specs.declared.lines.Line.{Line}
use Rattle.script_lines.specs.Fitting.{IsLine}
use Rattle.script_lang.specs.Grammar.{marks_of, order_fault, asked_in, block_of}

-- behind these lines, the latest first, each line is of its form, may stand where it stands and reads no more bytes than a script may ask for, and no block is left open
abbrev pub Orderly : List Line → List Line → Type 0
Orderly earlier [] = block_of earlier ≡ None
Orderly earlier (x ∷ xs) = IsLine x × (order_fault (marks_of earlier) x ≡ None) × (asked_in x ≤ script_reads_max) × Orderly (x ∷ earlier) xs

-- a script, but for its length and the limits of what it asks for in all
abbrev pub IsScript : List Line → Type 0
IsScript xs = Orderly [] xs
