use Rattle.std.proofs.Common.{◌≡◌, ◌++◌, take}
use Rattle.std.specs.List.{flat_map}
use Rattle.run_labels.specs.Shows.{replica_line}
use Rattle.run_labels.proofs.shows.append_replicas.Given as goal

abbrev pub invariant-loop-replica : goal.invariant-loop-replica
invariant-loop-replica l = l.out.items ≡ l.initial.out.items ++ flat_map (replica_line l.ckpt) (take l.replica-index l.replicas)
