use Rattle.std.proofs.Common.{◌≡◌, length}
use Rattle.client_calls.specs.Abandoning.{calls_left}
use Rattle.cluster_record.specs.Failing.{goes_with_node}
use Rattle.ckpt_machine.specs.ByNumber.{each_by_number}
use Rattle.world_core.proofs.ByNumber.{left_from}
use Rattle.world_core.proofs.hands.leave_calls.Given as goal

-- the lists from the number on are left to do
abbrev pub invariant-loop-c : goal.invariant-loop-c
invariant-loop-c l = record {
  left : left_from (calls_left (goes_with_node l.cluster l.node)) 0 l.c l.lists ≡ each_by_number (calls_left (goes_with_node l.cluster l.node)) 0 l.initial.lists;
  all : length l.lists ≡ 100;
}
