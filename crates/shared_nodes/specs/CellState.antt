-- A node with its journal, as contracts see it.
use Rattle.std.specs.Prelude.{ℕ, List}
use Rattle.node_core.specs.Nodes.{NodeState}
use Rattle.shared_nodes.specs.declared.journal.JournalEntry.{JournalEntry}

-- the node before all that was done to it, the node as it is, its journal, and how many entries more there is room for
pub record CellState : Type 0 where
  pub opening : NodeState
  pub node : NodeState
  pub journal : List JournalEntry
  pub spare : ℕ
