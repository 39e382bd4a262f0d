use Rattle.std.proofs.Common.{◌≡◌, length, take, vec_capacity}
use Rattle.node_core.proofs.copying.copy_replicas.Given as goal

abbrev pub invariant-loop-replica : goal.invariant-loop-replica
invariant-loop-replica l = record { copied : l.copies.items ≡ take l.replica-index l.replicas; room : vec_capacity l.copies ≡ length l.replicas }
