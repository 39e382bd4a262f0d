use Rattle.std.proofs.Common.{◌≡◌, ◌≤◌, length}
use Rattle.ckpt_machine.specs.NodeListing.{nodes_listed}
use Rattle.world_core.proofs.showing.list_replicas.Given as goal

abbrev pub invariant-loop-r : goal.invariant-loop-r
invariant-loop-r l = record {
  listed : l.replicas.items ≡ nodes_listed l.nodes l.ckpt l.entry l.now l.r;
  few : length l.replicas.items ≤ l.r;
}
