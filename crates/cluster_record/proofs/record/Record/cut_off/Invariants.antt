use Rattle.std.proofs.Common.{◌≡◌, length}
use Rattle.cluster_record.specs.Failing.{cut_off, goes_with_node}
use Rattle.cluster_record.proofs.record.Record.cut_off.Given as goal

abbrev pub invariant-loop-client : goal.invariant-loop-client
invariant-loop-client l = cut_off (goes_with_node l.self l.node) l.self ≡ cut_off (goes_with_node l.initial.self l.node) l.initial.self

abbrev pub decreases-loop-client : goal.decreases-loop-client
decreases-loop-client l = length l.self.clients
