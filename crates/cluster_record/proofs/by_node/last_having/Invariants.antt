use Rattle.std.proofs.Common.{◌≡◌, drop, None}
use Rattle.cluster_record.specs.StepDone.{last_having}
use Rattle.cluster_record.proofs.by_node.last_having.Given as goal

abbrev pub invariant-loop-r : goal.invariant-loop-r
invariant-loop-r l = last_having l.r (drop l.r l.nodes) (drop l.r l.own) ≡ None
