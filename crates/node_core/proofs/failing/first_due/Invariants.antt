use Rattle.std.proofs.Common.{◌≡◌, drop}
use Rattle.node_core.specs.Failing.{first_due}
use Rattle.node_core.proofs.failing.first_due.Given as goal

abbrev pub invariant-loop-replica : goal.invariant-loop-replica
invariant-loop-replica l = first_due l.seen l.number (drop l.replica-index l.replicas) ≡ first_due l.seen l.number l.replicas
