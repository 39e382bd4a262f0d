use Rattle.std.proofs.Common.{◌≡◌, drop}
use Rattle.std.specs.Prelude.{is_some}
use Rattle.cluster_record.specs.StepDone.{last_having}
use Rattle.cluster_record.proofs.by_node.has_any.Given as goal

abbrev pub invariant-loop-r : goal.invariant-loop-r
invariant-loop-r l = is_some (last_having l.r (drop l.r l.nodes) (drop l.r l.own)) ≡ is_some (last_having 0 l.nodes l.own)
