-- How many updates replicas have, as a list tells it.
use Rattle.std.specs.Prelude.{ℕ, List, [], ◌∷◌, Bool, ◌&&◌, ◌==◌, if◌then◌else◌}
use Rattle.cluster_record.specs.declared.counts.UpdateCount.{UpdateCount}

-- so many are told at most: one of each checkpoint on each node
abbrev pub counts_max : ℕ
counts_max = 128

-- this is the count of a checkpoint on a node
abbrev pub tells_of : ℕ → ℕ → UpdateCount → Bool
tells_of k r told = (told.ckpt == k) && (told.node == r)

-- how many updates the replica of a checkpoint on a node has, by the first count that tells it; 0 where none does
abbrev pub count_told : List UpdateCount → ℕ → ℕ → ℕ
count_told [] k r = 0
count_told (told ∷ more) k r = if tells_of k r told then told.count else count_told more k r
