use Rattle.std.proofs.Common.{◌≡◌, length}
use Rattle.client_calls.specs.Abandoning.{table_left}
use Rattle.cluster_record.specs.Failing.{goes_with_node}
use Rattle.ckpt_machine.specs.ByNumber.{each_by_number}
use Rattle.world_core.proofs.ByNumber.{left_from}
use Rattle.world_core.proofs.tables.cut_off.Given as goal

-- the tables from the number on are left to do
abbrev pub invariant-loop-c : goal.invariant-loop-c
invariant-loop-c l = record {
  left : left_from (table_left (goes_with_node l.cluster l.node)) 0 l.c l.tables ≡ each_by_number (table_left (goes_with_node l.cluster l.node)) 0 l.initial.tables;
  all : length l.tables ≡ 100;
}
