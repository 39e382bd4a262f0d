-- What parse and print returned.
use Rattle.std.proofs.Common.{◌≡◌, ◌≤◌, List, ℕ, length, Result, Ok, Err, IfOk, sym, subst}
use Rattle.ckpt_types.specs.Limits.{script_bytes_max}
use Rattle.script_lines.specs.declared.lines.Line.{Line}
use Rattle.script_lang.specs.declared.faults.ParseError.{ParseError}
use Rattle.script_lang.specs.BuiltScripts.{IsBuiltScript}
use Rattle.script_lang.specs.Faults.{Parses}
use Rattle.script_lang.specs.Grammar.{script_of}
use Rattle.script_lang.specs.Scripts.{IsScript}
use Rattle.script_lang.specs.Spelling.{spelling}
use Rattle.script_lang.proofs.Again.{script_fits, script_again}
use Rattle.script_lang.proofs.Built.{built_script}

-- what is read is a script
pub parses_script : (bytes : List ℕ) (r : Result (List Line) ParseError) → Parses r (script_of bytes) → IfOk r IsScript
parses_script bytes (Ok s) e = (script_fits bytes s e).0
parses_script bytes (Err e) h = tt

-- of what is built
pub parses_built : (bytes : List ℕ) (r : Result (List Line) ParseError) → Parses r (script_of bytes) → IfOk r IsBuiltScript
parses_built bytes (Ok s) e = let f = script_fits bytes s e in built_script s f.0 f.1
parses_built bytes (Err e) h = tt

-- a text that is the spelling is read again
pub text_again : {E : Type 0} (s : List Line) (r : Result (List ℕ) E) → IfOk r (λ text. text ≡ spelling s) → (bytes : List ℕ) → script_of bytes ≡ Ok s → IfOk r (λ text. length text ≤ script_bytes_max → script_of text ≡ Ok s)
text_again s (Ok text) is bytes e = subst (λ t. length t ≤ script_bytes_max → script_of t ≡ Ok s) (sym is) (script_again bytes s e)
text_again s (Err d) is bytes e = tt
