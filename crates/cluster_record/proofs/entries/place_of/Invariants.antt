use Rattle.std.proofs.Common.{◌≡◌, drop}
use Rattle.cluster_record.specs.Places.{place_from}
use Rattle.cluster_record.specs.RecordState.{identity_of}
use Rattle.cluster_record.proofs.entries.place_of.Given as goal

abbrev pub invariant-loop-i : goal.invariant-loop-i
invariant-loop-i l = place_from identity_of l.identity l.i (drop l.i l.entries) ≡ place_from identity_of l.identity 0 l.entries
