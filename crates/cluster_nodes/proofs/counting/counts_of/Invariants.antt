use Rattle.std.proofs.Common.{◌≡◌, ◌≤◌, ◌++◌, ◌*◌, length, drop}
use Rattle.ckpt_machine.specs.CountsTold.{counts_of}
use Rattle.cluster_nodes.proofs.counting.counts_of.Given as goal

-- those of the entries from the place on are left to tell
abbrev pub invariant-loop-place : goal.invariant-loop-place
invariant-loop-place l = record {
  left : l.told ++ counts_of l.nodes (drop l.place l.cluster.entries) ≡ counts_of l.nodes l.cluster.entries;
  few : length l.told ≤ 8 * l.place;
}
