use Rattle.std.proofs.Common.{◌≡◌, drop}
use Rattle.cluster_record.specs.Places.{find_key}
use Rattle.node_core.specs.Nodes.{replica_key}
use Rattle.node_core.proofs.replicas.find_at.Given as goal

abbrev pub invariant-loop-replica : goal.invariant-loop-replica
invariant-loop-replica l = find_key replica_key l.ckpt (drop l.replica-index l.replicas) ≡ find_key replica_key l.ckpt l.replicas
