use Rattle.std.proofs.Common.{◌≡◌, ◌+◌, ◌≤◌, ◌++◌}
use Rattle.indexmap.specs.Drain.{drain_rest, DrainKeeps}
use Rattle.indexmap.specs.IndexMap.{index_map_len, spare}
use Rattle.name_table.specs.Kept.{table_of}
use Rattle.name_table.specs.Table.{name_taken_away}
use Rattle.name_table.proofs.moves.move_others.Given as goal

abbrev pub invariant-loop-other : goal.invariant-loop-other
invariant-loop-other l = record {
  next : (goal.iterator-loop-other).can_next l.other-iterator;
  ends : (goal.iterator-loop-other).is_finite l.other-iterator;
  keeps : DrainKeeps l.initial.other-iterator l.other-iterator;
  moved : table_of l.to.entries ++ name_taken_away l.name (table_of (drain_rest l.other-iterator)) ≡ name_taken_away l.name (table_of (drain_rest l.initial.other-iterator));
  room : spare l.initial.to ≤ index_map_len l.to + spare l.to;
}
