-- What the answers of the readers tell.
use Rattle.std.specs.Prelude.{◌≡◌, Result, Ok, Err, ⊤}
use Rattle.script_lang.specs.declared.faults.ScriptFault.{ScriptFault}
use Rattle.script_lang.specs.declared.faults.ParseError.{ParseError}
use Rattle.script_lang.specs.declared.faults.ParseError.TheVariants as parse_errors

-- An error is the fault that the definition tells; want of memory may stand for any answer.
abbrev pub Misses : {X : Type 0} → ParseError → Result X ScriptFault → Type 0
Misses (parse_errors.Fault fault) said = said ≡ Err fault
Misses parse_errors.NoMemory said = ⊤

-- A reader of scripts answers what the definition says.
abbrev pub Parses : {X : Type 0} → Result X ParseError → Result X ScriptFault → Type 0
Parses (Ok x) said = said ≡ Ok x
Parses (Err e) said = Misses e said
