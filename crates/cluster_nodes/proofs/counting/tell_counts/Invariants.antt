use Rattle.std.proofs.Common.{◌≡◌, ◌+◌, ◌≤◌, ◌++◌, length, drop}
use Rattle.ckpt_machine.specs.CountsTold.{counts_from}
use Rattle.cluster_nodes.proofs.counting.tell_counts.Given as goal

-- those of the nodes from the number on are left to tell
abbrev pub invariant-loop-r : goal.invariant-loop-r
invariant-loop-r l = record {
  left : l.told ++ counts_from l.nodes l.entry.identity l.r (drop l.r l.entry.complete) ≡ l.initial.told ++ counts_from l.nodes l.entry.identity 0 l.entry.complete;
  few : length l.told ≤ length l.initial.told + l.r;
}
