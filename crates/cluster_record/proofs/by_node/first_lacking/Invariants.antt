use Rattle.std.proofs.Common.{◌≡◌, drop}
use Rattle.cluster_record.specs.StepDone.{first_lacking}
use Rattle.cluster_record.proofs.by_node.first_lacking.Given as goal

abbrev pub invariant-loop-r : goal.invariant-loop-r
invariant-loop-r l = first_lacking l.r (drop l.r l.nodes) (drop l.r l.own) ≡ first_lacking 0 l.nodes l.own
