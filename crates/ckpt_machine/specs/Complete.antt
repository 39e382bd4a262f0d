-- The complete replicas of a checkpoint, with their nodes, in node order.
use Rattle.std.specs.Prelude.{ℕ, ◌+◌, List, [], ◌∷◌, Option, Some, None, ◌==◌, if◌then◌else◌}
use Rattle.cluster_record.specs.RecordState.{entry_of, complete_of}
use Rattle.ckpt_machine.specs.Machine.{Machine, ReplicaState}

-- one replica more, where the node has one
abbrev pub with_replica : ℕ → Option ReplicaState → List (ℕ × ReplicaState) → List (ℕ × ReplicaState)
with_replica r None others = others
with_replica r (Some x) others = (r, x) ∷ others

-- the complete replicas from a node on
abbrev pub replicas_from : (ℕ → Option ReplicaState) → ℕ → List ℕ → List (ℕ × ReplicaState)
replicas_from replicas n [] = []
replicas_from replicas n (c ∷ cs) = if c == 0 then replicas_from replicas (n + 1) cs else with_replica n (replicas n) (replicas_from replicas (n + 1) cs)

-- the complete replicas of a checkpoint, in node order
abbrev pub complete_replicas : Machine → ℕ → List (ℕ × ReplicaState)
complete_replicas m k = replicas_from (m.replicas k) 0 (complete_of (entry_of k m.cluster.entries))
