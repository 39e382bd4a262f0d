use Rattle.std.proofs.Common.{◌≡◌, drop}
use Rattle.cluster_record.specs.RecordState.{first_complete}
use Rattle.cluster_record.proofs.entries.first_complete.Given as goal

abbrev pub invariant-loop-r : goal.invariant-loop-r
invariant-loop-r l = first_complete l.r (drop l.r l.nodes) ≡ first_complete 0 l.nodes
