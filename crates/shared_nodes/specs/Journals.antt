-- A journal as contracts see it.
use Rattle.std.specs.Prelude.{ℕ, List}
use Rattle.shared_nodes.specs.declared.journal.JournalEntry.{JournalEntry}

-- its entries, in the order of the steps, and how many more there is room for
pub record KeptJournal : Type 0 where
  pub entries : List JournalEntry
  pub spare : ℕ
