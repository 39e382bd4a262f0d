-- What the program's one call promises.
use Rattle.std.specs.Prelude.{◌≡◌, ◌⊎◌, ℕ, Bool, false, List, [], ◌∷◌, ◌++◌, codes, bytes_eq, if◌then◌else◌, Option, Ok, Err}
use Rattle.std.specs.String.{string_bytes}
use Rattle.std.specs.declared.string.String.{String}
use Rattle.std.specs.declared.alloc.Global.{Global}
use Rattle.std.specs.Io.KnownBytes.{Appends}
use Rattle.run_labels.specs.declared.labels.Label.{Label}
use Rattle.run_labels.specs.Lines.{lines_of}
use Rattle.script_words.specs.declared.reason.Reason.TheVariants.{Length}
use Rattle.script_lang.specs.declared.faults.ScriptFault.{ScriptFault}
use Rattle.script_lines.specs.declared.lines.Line.{Line}
use Rattle.script_lang.specs.Grammar.{script_of}
use Rattle.session_run.specs.Follows.{Follows, FollowsFront}
use Rattle.load_script.specs.Load.{SpellsTurns, generated}
use Rattle.load_summary.specs.Summary.{summary}
use Rattle.command_run.specs.Reading.{HasRead, TakesFew}
use Rattle.command_run.specs.declared.reading.Ended.TheVariants.{AtEnd, TooLong}
use Rattle.command_run.specs.declared.running.Status.{Status}
use Rattle.command_run.specs.declared.writing.Form.{Form}
use Rattle.command_run.specs.declared.writing.Form.TheVariants.{Lines, Summary}
use Rattle.command_run.specs.declared.running.Status.TheVariants.{Ran, Usage, Script, ReadFault, WriteFault, NoMemory}

-- the words of the command line ask for a run of a script: `run`, or `run --steps`
abbrev pub IsRun : List (String Global) → Type 0
IsRun (word ∷ []) = string_bytes word ≡ codes "run"
IsRun (word ∷ option ∷ []) = (string_bytes word ≡ codes "run") × (string_bytes option ≡ codes "--steps")
IsRun words = ⊥

-- they ask for a load of so many turns: `load`, and the number
abbrev pub AsksLoad : List (String Global) → ℕ → Type 0
AsksLoad (word ∷ count ∷ []) turns = (string_bytes word ≡ codes "load") × SpellsTurns (string_bytes count) turns
AsksLoad words turns = ⊥

-- the words are a command: they ask for a run, or for a load
abbrev pub IsCommand : List (String Global) → Type 0
IsCommand words = IsRun words ⊎ ((turns : ℕ) × AsksLoad words turns)

-- the steps are asked for: there are two words, and the second is `--steps`
abbrev pub asks_steps : List (String Global) → Bool
asks_steps (word ∷ option ∷ []) = bytes_eq (string_bytes option) (codes "--steps")
asks_steps words = false

-- the lines that a log prints, with its steps or without them
abbrev pub printed : Bool → List Label → List ℕ
printed steps log = lines_of steps log

-- what is told of a log in this form
abbrev pub text_of : Form → List Label → List ℕ
text_of (Lines steps) log = printed steps log
text_of Summary log = summary log

-- what the words ask to be told: of a load its summary, of a run its lines
abbrev pub form_asked : List (String Global) → Form
form_asked (word ∷ option ∷ []) = if bytes_eq (string_bytes word) (codes "load") then Summary else Lines (asks_steps (word ∷ option ∷ []))
form_asked words = Lines (asks_steps words)

-- what these words tell of a log
abbrev pub told : List (String Global) → List Label → List ℕ
told words log = text_of (form_asked words) log

-- a front of the bytes was written
abbrev pub WritesPart : Option (List ℕ) → Option (List ℕ) → List ℕ → Type 0
WritesPart old new bytes = (front : List ℕ) × (back : List ℕ) × (front ++ back ≡ bytes) × Appends old new front

-- the source was read to its end, and its bytes are this script
abbrev pub ReadsScript : Option (List ℕ) → Option (List ℕ) → List Line → Type 0
ReadsScript old new script = (bytes : List ℕ) × HasRead old new bytes AtEnd × (script_of bytes ≡ Ok script)

-- THE SCRIPT THAT IS PLAYED, by the words: that which the source was read for, or the load
abbrev pub IsScriptOf : List (String Global) → Option (List ℕ) → Option (List ℕ) → List Line → Type 0
IsScriptOf words old new script = (IsRun words × ReadsScript old new script) ⊎ ((turns : ℕ) × AsksLoad words turns × (script ≡ generated turns))

-- the bytes of the source have just this fault; or it is `length`, and one byte more was taken than a script may have
abbrev pub HasFault : Option (List ℕ) → Option (List ℕ) → ScriptFault → Type 0
HasFault old new fault =
    ((bytes : List ℕ) × HasRead old new bytes AtEnd × (script_of bytes ≡ Err fault))
    ⊎ ((bytes : List ℕ) × HasRead old new bytes TooLong × (fault ≡ record { line = 0; reason = Length }))

-- WHAT WAS PLAYED, by how the command ends: the log follows the whole script, or a front of it where memory was refused; or nothing was played
abbrev pub HasPlayed : List (String Global) → Status → Option (List ℕ) → Option (List ℕ) → List Label → Type 0
HasPlayed words Ran old new log = (script : List Line) × IsScriptOf words old new script × Follows script log
HasPlayed words WriteFault old new log = (script : List Line) × IsScriptOf words old new script × Follows script log
HasPlayed words NoMemory old new log = ((script : List Line) × IsScriptOf words old new script × FollowsFront script log) ⊎ (TakesFew old new × (log ≡ []))
HasPlayed words (Script fault) old new log = log ≡ []
HasPlayed words ReadFault old new log = TakesFew old new × (log ≡ [])
HasPlayed words Usage old new log = TakesFew old new × (log ≡ [])

-- how a load may end: no script is read for it
abbrev pub EndsLoad : Status → Type 0
EndsLoad Ran = Unit {0}
EndsLoad WriteFault = Unit {0}
EndsLoad NoMemory = Unit {0}
EndsLoad Usage = ⊥
EndsLoad (Script fault) = ⊥
EndsLoad ReadFault = ⊥

-- the answers after which nothing was played, and nothing written
abbrev pub PlayedNothing : Status → Type 0
PlayedNothing Usage = Unit {0}
PlayedNothing (Script fault) = Unit {0}
PlayedNothing ReadFault = Unit {0}
PlayedNothing Ran = ⊥
PlayedNothing WriteFault = ⊥
PlayedNothing NoMemory = ⊥

-- how a command ends whose script is right, where neither the source nor the sink has failed
abbrev pub RanOrNoMemory : Status → Type 0
RanOrNoMemory Ran = Unit {0}
RanOrNoMemory NoMemory = Unit {0}
RanOrNoMemory Usage = ⊥
RanOrNoMemory (Script fault) = ⊥
RanOrNoMemory ReadFault = ⊥
RanOrNoMemory WriteFault = ⊥

-- the number with which the program ends
abbrev pub status_number : Status → ℕ
status_number Ran = 0
status_number Usage = 2
status_number (Script fault) = 3
status_number ReadFault = 4
status_number WriteFault = 5
status_number NoMemory = 6
