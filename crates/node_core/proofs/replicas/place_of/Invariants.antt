use Rattle.std.proofs.Common.{◌≡◌, drop}
use Rattle.cluster_record.specs.Places.{place_from}
use Rattle.node_core.specs.Nodes.{replica_key}
use Rattle.node_core.proofs.replicas.place_of.Given as goal

abbrev pub invariant-loop-i : goal.invariant-loop-i
invariant-loop-i l = place_from replica_key l.ckpt l.i (drop l.i l.replicas) ≡ place_from replica_key l.ckpt 0 l.replicas
