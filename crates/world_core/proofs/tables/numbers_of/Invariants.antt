use Rattle.std.proofs.Common.{◌≡◌, length, map, take, vec_capacity}
use Rattle.world_core.specs.TakenApart.{next_part}
use Rattle.world_core.proofs.tables.numbers_of.Given as goal

abbrev pub invariant-loop-table : goal.invariant-loop-table
invariant-loop-table l = record {
  told : l.numbers.items ≡ map next_part (take l.table-index l.tables);
  count : length l.numbers.items ≡ l.table-index;
  room : vec_capacity l.numbers ≡ length l.tables;
}
