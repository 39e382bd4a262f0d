use Rattle.std.proofs.Common.{◌≡◌}
use Rattle.node_core.specs.Failing.{node_left, HoldsEachOnce}
use Rattle.node_core.proofs.FailingLaws.{changes_left}
use Rattle.node_core.proofs.node.Node.fail.Given as goal

abbrev pub invariant-loop-change : goal.invariant-loop-change
invariant-loop-change l = (node_left l.seen l.failed l.self ≡ node_left l.seen l.failed l.initial.self) × HoldsEachOnce l.self.replicas

abbrev pub decreases-loop-change : goal.decreases-loop-change
decreases-loop-change l = changes_left l.seen l.failed l.self
