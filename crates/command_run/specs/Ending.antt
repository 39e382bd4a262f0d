-- How a command ends, told of its parts: the reading of the script, the playing of it, and both.
use Rattle.std.specs.Prelude.{◌≡◌, ℕ, List, Option, Result, Ok, Err, IfSome, IsOk}
use Rattle.std.specs.Io.KnownBytes.{Appends}
use Rattle.std.specs.declared.alloc.Global.{Global}
use Rattle.std.specs.declared.string.String.{String}
use Rattle.outside_io.specs.Causes.{Rose}
use Rattle.run_labels.specs.declared.labels.Label.{Label}
use Rattle.script_lang.specs.BuiltScripts.{IsBuiltScript}
use Rattle.script_lang.specs.Grammar.{script_of}
use Rattle.script_lang.specs.declared.faults.ScriptFault.{ScriptFault}
use Rattle.script_lines.specs.declared.lines.Line.{Line}
use Rattle.session_run.specs.Follows.{Follows, FollowsFront}
use Rattle.command_run.specs.Headline.{AsksLoad, EndsLoad, HasFault, HasPlayed, IsRun, RanOrNoMemory, ReadsScript, WritesPart}
use Rattle.command_run.specs.Reading.{TakesFew}
use Rattle.command_run.specs.declared.running.Status.{Status}
use Rattle.command_run.specs.declared.running.Status.TheVariants.{Ran, Usage, Script, ReadFault, WriteFault, NoMemory}

-- what the source gave is a script of what is built; or the command ends so without one
abbrev pub Reads : Option (List ℕ) → Option (List ℕ) → ℕ → ℕ → Result (List Line) Status → Type 0
Reads old new before now (Ok script) = ReadsScript old new script × IsBuiltScript script
Reads old new before now (Err (Script fault)) = HasFault old new fault
Reads old new before now (Err ReadFault) = TakesFew old new × Rose before now
Reads old new before now (Err NoMemory) = TakesFew old new
Reads old new before now (Err Ran) = ⊥
Reads old new before now (Err Usage) = ⊥
Reads old new before now (Err WriteFault) = ⊥

-- the script was played, and the lines of the log were written, as far as the end of the command tells
abbrev pub Plays : List Line → List Label → Option (List ℕ) → Option (List ℕ) → List ℕ → ℕ → ℕ → Status → Type 0
Plays script log old new lines before now Ran = Follows script log × Appends old new lines
Plays script log old new lines before now WriteFault = Follows script log × WritesPart old new lines × Rose before now
Plays script log old new lines before now NoMemory = FollowsFront script log × WritesPart old new lines
Plays script log old new lines before now Usage = ⊥
Plays script log old new lines before now (Script fault) = ⊥
Plays script log old new lines before now ReadFault = ⊥

-- what a source or a sink tells of itself: the bytes that it has left or holds, where it tells them, and how often it has failed
pub record End : Type 0 where
  pub bytes : Option (List ℕ)
  pub faults : ℕ

-- this end
abbrev pub end_of : Option (List ℕ) → ℕ → End
end_of bytes faults = record { bytes = bytes; faults = faults }

-- what the end of a command tells of its source, its sink, its log and the log's lines; each is a clause of run_command
pub record Tells (words : List (String Global)) (source source_now sink sink_now : End) (log : List Label) (lines : List ℕ) (status : Status) : Type 0 where
  pub played : HasPlayed words status source.bytes source_now.bytes log
  pub written : status ≡ Ran → Appends sink.bytes sink_now.bytes lines
  pub part : WritesPart sink.bytes sink_now.bytes lines
  pub usage : status ≡ Usage → ⊥
  pub script : (fault : ScriptFault) → status ≡ Script fault → HasFault source.bytes source_now.bytes fault
  pub read : status ≡ ReadFault → Rose source.faults source_now.faults
  pub write : status ≡ WriteFault → Rose sink.faults sink_now.faults
  pub load : (turns : ℕ) → AsksLoad words turns → EndsLoad status
  pub complete : IsRun words → IfSome source.bytes (λ input. IsOk (script_of input) → (Rose source.faults source_now.faults → ⊥) → (Rose sink.faults sink_now.faults → ⊥) → RanOrNoMemory status)
