-- How many updates the replicas of the nodes have, as the failure of a node is told of it.
use Rattle.std.specs.Prelude.{ℕ, ◌+◌, List, [], ◌∷◌, ◌++◌, Option, Some, None, ◌==◌, if◌then◌else◌}
use Rattle.cluster_record.specs.declared.counts.UpdateCount.{UpdateCount}
use Rattle.cluster_record.specs.declared.entries.Entry.{Entry}
use Rattle.replica.specs.Replicas.{Replica}
use Rattle.ckpt_machine.specs.Nodes.{replica_in}

-- of a replica, if there is one
abbrev pub count_kept : Option Replica → ℕ
count_kept None = 0
count_kept (Some x) = x.count

-- of a checkpoint on the nodes that are complete for it, of which these are left, counted from n
abbrev pub counts_from : List (List Replica) → ℕ → ℕ → List ℕ → List UpdateCount
counts_from nodes k n [] = []
counts_from nodes k n (c ∷ cs) =
    let more = counts_from nodes k (n + 1) cs in
    if c == 0 then more else record { ckpt = k; node = n; count = count_kept (replica_in nodes k n) } ∷ more

-- of all checkpoints that have these entries
abbrev pub counts_of : List (List Replica) → List Entry → List UpdateCount
counts_of nodes [] = []
counts_of nodes (e ∷ es) = counts_from nodes e.identity 0 e.complete ++ counts_of nodes es
