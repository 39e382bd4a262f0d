use Rattle.std.proofs.Common.{◌≡◌}
use Rattle.std.specs.Prelude.{replicate}
use Rattle.client_calls.specs.NewTable.{new_table}
use Rattle.world_core.proofs.tables.new_tables.Given as goal

abbrev pub invariant-loop-n : goal.invariant-loop-n
invariant-loop-n l = l.tables.items ≡ replicate l._n new_table
