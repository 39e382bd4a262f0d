-- What is left of the tables of all clients where one is lent.
use Rattle.std.specs.Prelude.{ℕ, List, slice_set}
use Rattle.std.specs.Borrow.{Lends, MutBor, Fml}
use Rattle.client_calls.specs.contracts.table.Table.{the_row as table_row}
use Rattle.world_core.specs.contracts.tables.Tables.{the_row}
use Rattle.client_calls.specs.TableState.{TableState}

-- the tables end with that of a client set to what is left in it
abbrev pub LendsTable : MutBor (List TableState) → ℕ → MutBor TableState → Fml
LendsTable tables c table = Lends the_row table_row tables table (slice_set tables.now c)
