-- What the parts of a command tell of its end.
use Rattle.std.proofs.Common.{◌≡◌, ℕ, ◌+◌, ◌<◌, ◌++◌, Bool, true, false, inl, inr, List, [], length, nat_lt, refl, sym, ap, subst, ◌∙◌, arith, length-append, append-nil}
use Rattle.std.specs.Prelude.{Option, Some, None, Err, IfSome, IsOk, is_ok, if◌then◌else◌}
use Rattle.std.proofs.KnownBytes.{Appends-nil}
use Rattle.std.specs.declared.alloc.Global.{Global}
use Rattle.std.specs.declared.string.String.{String}
use Rattle.ckpt_types.specs.Limits.{script_bytes_max}
use Rattle.run_labels.specs.declared.labels.Label.{Label}
use Rattle.script_words.specs.declared.reason.Reason.TheVariants.{Length}
use Rattle.script_lang.specs.Grammar.{script_of, text_lines, start, take_lines, whole_script, fault, if_no_fault}
use Rattle.script_lang.specs.declared.faults.ScriptFault.{ScriptFault}
use Rattle.script_lines.specs.declared.lines.Line.{Line}
use Rattle.world_core.specs.declared.world.World.{World}
use Rattle.world_core.specs.Runs.{IsNew, IsRunTo, NewBeginsRuns}
use Rattle.command_run.specs.Ending.{End, Plays, Reads, Tells}
use Rattle.command_run.specs.Headline.{HasFault, IsRun, PlayedNothing, ReadsScript}
use Rattle.command_run.specs.declared.running.Status.{Status}
use Rattle.command_run.specs.declared.running.Status.TheVariants.{Ran, Usage, Script, ReadFault, WriteFault, NoMemory}
use Rattle.command_run.proofs.Asked.{not_both}
use Rattle.command_run.proofs.Written.{part_of_all}

-- where no label came, a new world shows the state after it
pub nothing_ran : NewBeginsRuns → (w : World) (log : List Label) → IsNew w → log ≡ [] → IsRunTo w log
nothing_ran begins w log new none = subst (IsRunTo w) (sym none) (begins w new)

-- more bytes than a script may have are no script
too_long : (bytes : List ℕ) → script_bytes_max < length bytes → is_ok (script_of bytes) ≡ false
unfolding script_of
too_long bytes more =
    let is_more : nat_lt script_bytes_max (length bytes) ≡ true = grind (arith, more) in
    ap (λ (b : Bool). is_ok (if b then fault 0 Length else if_no_fault (take_lines start (text_lines bytes)) whole_script)) is_more

-- a source whose bytes have a fault has no script
no_script : (Q : Type 0) (old new : Option (List ℕ)) (why : ScriptFault) → HasFault old new why → IfSome old (λ input. IsOk (script_of input) → Q)
no_script Q None new why has = tt
no_script Q (Some input) None why (inl (bytes, read, is)) = absurd read.0
no_script Q (Some input) None why (inr (bytes, read, is)) = absurd read.0
no_script Q (Some input) (Some rest) why (inl (bytes, read, is)) = λ is_script.
    let whole : input ≡ bytes = read.0 ∙ ap (λ left. bytes ++ left) read.1 ∙ append-nil bytes in
    let is_none : script_of input ≡ Err why = ap script_of whole ∙ is in
    absurd (cc)
no_script Q (Some input) (Some rest) why (inr (bytes, read, is)) = λ is_script.
    let size : length input ≡ length bytes + length rest = ap length read.0 ∙ length-append bytes rest in
    let is_none : is_ok (script_of input) ≡ false = too_long input (omega (arith, size, read.1)) in
    absurd (cc)

-- what holds of any bytes holds of those that are told
of_any : (P : List ℕ → Type 0) (told : Option (List ℕ)) → ((bytes : List ℕ) → P bytes) → IfSome told P
of_any P None all = tt
of_any P (Some bytes) all = all bytes

module _ (words : List (String Global)) (is_run : IsRun words) (source source_now : End) where
  -- there is no script, and nothing was played
  pub unread : (sink : End) (log : List Label) (lines : List ℕ) (status : Status)
      → Reads source.bytes source_now.bytes source.faults source_now.faults (Err status) → log ≡ [] → Tells words source source_now sink sink log lines status
  unread sink log lines (Script why) has none = record {
    played = none;
    written = λ is. absurd (cc);
    part = ([], lines, refl, Appends-nil sink.bytes);
    usage = λ is. absurd (cc);
    script = λ other is. let same : why ≡ other = cc in subst (HasFault source.bytes source_now.bytes) same has;
    read = λ is. absurd (cc);
    write = λ is. absurd (cc);
    load = λ turns asks. absurd (not_both words turns is_run asks);
    complete = λ _. no_script _ source.bytes source_now.bytes why has;
  }
  unread sink log lines ReadFault has none = record {
    played = (has.0, none);
    written = λ is. absurd (cc);
    part = ([], lines, refl, Appends-nil sink.bytes);
    usage = λ is. absurd (cc);
    script = λ other is. absurd (cc);
    read = λ is. has.1;
    write = λ is. absurd (cc);
    load = λ turns asks. absurd (not_both words turns is_run asks);
    complete = λ _. of_any _ source.bytes (λ bytes is no_read no_write. no_read has.1);
  }
  unread sink log lines NoMemory has none = record {
    played = inr (has, none);
    written = λ is. absurd (cc);
    part = ([], lines, refl, Appends-nil sink.bytes);
    usage = λ is. absurd (cc);
    script = λ other is. absurd (cc);
    read = λ is. absurd (cc);
    write = λ is. absurd (cc);
    load = λ turns asks. absurd (not_both words turns is_run asks);
    complete = λ _. of_any _ source.bytes (λ bytes is no_read no_write. tt);
  }
  unread sink log lines Ran has none = absurd has
  unread sink log lines Usage has none = absurd has
  unread sink log lines WriteFault has none = absurd has

  -- the script was read, and played
  pub played : (sink sink_now : End) (script : List Line) (log : List Label) (lines : List ℕ) (status : Status) → ReadsScript source.bytes source_now.bytes script
      → Plays script log sink.bytes sink_now.bytes lines sink.faults sink_now.faults status → Tells words source source_now sink sink_now log lines status
  played sink sink_now script log lines Ran reads plays = record {
    played = (script, inl (is_run, reads), plays.0);
    written = λ is. plays.1;
    part = part_of_all sink.bytes sink_now.bytes lines plays.1;
    usage = λ is. absurd (cc);
    script = λ other is. absurd (cc);
    read = λ is. absurd (cc);
    write = λ is. absurd (cc);
    load = λ turns asks. absurd (not_both words turns is_run asks);
    complete = λ _. of_any _ source.bytes (λ bytes is no_read no_write. tt);
  }
  played sink sink_now script log lines WriteFault reads plays = record {
    played = (script, inl (is_run, reads), plays.0);
    written = λ is. absurd (cc);
    part = plays.1;
    usage = λ is. absurd (cc);
    script = λ other is. absurd (cc);
    read = λ is. absurd (cc);
    write = λ is. plays.2;
    load = λ turns asks. absurd (not_both words turns is_run asks);
    complete = λ _. of_any _ source.bytes (λ bytes is no_read no_write. no_write plays.2);
  }
  played sink sink_now script log lines NoMemory reads plays = record {
    played = inl (script, inl (is_run, reads), plays.0);
    written = λ is. absurd (cc);
    part = plays.1;
    usage = λ is. absurd (cc);
    script = λ other is. absurd (cc);
    read = λ is. absurd (cc);
    write = λ is. absurd (cc);
    load = λ turns asks. absurd (not_both words turns is_run asks);
    complete = λ _. of_any _ source.bytes (λ bytes is no_read no_write. tt);
  }
  played sink sink_now script log lines Usage reads plays = absurd plays
  played sink sink_now script log lines (Script why) reads plays = absurd plays
  played sink sink_now script log lines ReadFault reads plays = absurd plays

-- behind the playing of a script nothing need be as it was
pub not_kept : (Q : Type 0) (script : List Line) (log : List Label) (old new : Option (List ℕ)) (lines : List ℕ) (before now : ℕ) (status : Status)
    → Plays script log old new lines before now status → PlayedNothing status → Q
not_kept Q script log old new lines before now Ran plays nothing = absurd nothing
not_kept Q script log old new lines before now WriteFault plays nothing = absurd nothing
not_kept Q script log old new lines before now NoMemory plays nothing = absurd nothing
not_kept Q script log old new lines before now status plays nothing = absurd plays
