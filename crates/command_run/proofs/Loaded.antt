-- What the playing of a load tells of the end of its command.
use Rattle.std.proofs.Common.{◌≡◌, ℕ, List, [], inl, inr, refl, arith}
use Rattle.std.proofs.KnownBytes.{Appends-nil, Consumes-nil}
use Rattle.std.specs.declared.alloc.Global.{Global}
use Rattle.std.specs.declared.string.String.{String}
use Rattle.run_labels.specs.declared.labels.Label.{Label}
use Rattle.load_script.specs.Load.{generated}
use Rattle.command_run.specs.Ending.{End, Plays, Tells}
use Rattle.command_run.specs.Headline.{AsksLoad}
use Rattle.command_run.specs.declared.running.Status.{Status}
use Rattle.command_run.specs.declared.running.Status.TheVariants.{Ran, Usage, Script, ReadFault, WriteFault, NoMemory}
use Rattle.command_run.proofs.Asked.{not_both}
use Rattle.command_run.proofs.Written.{part_of_all}

module _ (words : List (String Global)) (turns : ℕ) (asks : AsksLoad words turns) (source : End) where
  -- there was no memory for its script, and nothing was played
  pub not_loaded : (sink : End) (log : List Label) (lines : List ℕ) → log ≡ [] → Tells words source source sink sink log lines NoMemory
  not_loaded sink log lines none = record {
    played = inr (([], Consumes-nil source.bytes, omega arith), none);
    written = λ is. absurd (cc);
    part = ([], lines, refl, Appends-nil sink.bytes);
    usage = λ is. absurd (cc);
    script = λ fault is. absurd (cc);
    read = λ is. absurd (cc);
    write = λ is. absurd (cc);
    load = λ _ _. tt;
    complete = λ run. absurd (not_both words turns run asks);
  }

  -- the load was played, with no look at the source
  pub loaded : (sink sink_now : End) (log : List Label) (lines : List ℕ) (status : Status) → Plays (generated turns) log sink.bytes sink_now.bytes lines sink.faults sink_now.faults status → Tells words source source sink sink_now log lines status
  loaded sink sink_now log lines Ran plays = record {
    played = (generated turns, inr (turns, asks, refl), plays.0);
    written = λ is. plays.1;
    part = part_of_all sink.bytes sink_now.bytes lines plays.1;
    usage = λ is. absurd (cc);
    script = λ fault is. absurd (cc);
    read = λ is. absurd (cc);
    write = λ is. absurd (cc);
    load = λ _ _. tt;
    complete = λ run. absurd (not_both words turns run asks);
  }
  loaded sink sink_now log lines WriteFault plays = record {
    played = (generated turns, inr (turns, asks, refl), plays.0);
    written = λ is. absurd (cc);
    part = plays.1;
    usage = λ is. absurd (cc);
    script = λ fault is. absurd (cc);
    read = λ is. absurd (cc);
    write = λ is. plays.2;
    load = λ _ _. tt;
    complete = λ run. absurd (not_both words turns run asks);
  }
  loaded sink sink_now log lines NoMemory plays = record {
    played = inl (generated turns, inr (turns, asks, refl), plays.0);
    written = λ is. absurd (cc);
    part = plays.1;
    usage = λ is. absurd (cc);
    script = λ fault is. absurd (cc);
    read = λ is. absurd (cc);
    write = λ is. absurd (cc);
    load = λ _ _. tt;
    complete = λ run. absurd (not_both words turns run asks);
  }
  loaded sink sink_now log lines Usage plays = absurd plays
  loaded sink sink_now log lines (Script fault) plays = absurd plays
  loaded sink sink_now log lines ReadFault plays = absurd plays
