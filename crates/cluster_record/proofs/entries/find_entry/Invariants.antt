use Rattle.std.proofs.Common.{◌≡◌, drop}
use Rattle.cluster_record.specs.RecordState.{entry_of}
use Rattle.cluster_record.proofs.entries.find_entry.Given as goal

abbrev pub invariant-loop-entry : goal.invariant-loop-entry
invariant-loop-entry l = entry_of l.identity (drop l.entry-index l.entries) ≡ entry_of l.identity l.entries
