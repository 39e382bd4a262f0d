use Rattle.std.proofs.Common.{◌≡◌, length, take, vec_capacity}
use Rattle.world_core.proofs.tables.copy_tables.Given as goal

abbrev pub invariant-loop-table : goal.invariant-loop-table
invariant-loop-table l = record { copied : l.copies.items ≡ take l.table-index l.tables; room : vec_capacity l.copies ≡ length l.tables }
