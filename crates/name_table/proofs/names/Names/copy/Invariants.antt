use Rattle.std.proofs.Common.{◌≡◌, ◌++◌}
use Rattle.name_table.specs.Kept.{table_of}
use Rattle.name_table.proofs.names.Names.copy.Given as goal

abbrev pub invariant-loop-name : goal.invariant-loop-name
invariant-loop-name l = record {
  next : (goal.iterator-loop-name).can_next l.name-iterator;
  ends : (goal.iterator-loop-name).is_finite l.name-iterator;
  copied : l.copy ++ table_of l.name-iterator ≡ l.self;
}
