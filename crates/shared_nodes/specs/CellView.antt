-- How a cell shows itself, and what its type keeps.
use Rattle.shared_nodes.specs.declared.cell.NodeCell.TheInside.{Inside}
use Rattle.shared_nodes.specs.CellState.{CellState}
use Rattle.shared_nodes.specs.Plays.{Plays}

-- the opening node, the node, and the journal
abbrev pub cell_shown : Inside → CellState
cell_shown c = record { opening = c.opening; node = c.node; journal = c.journal.entries; spare = c.journal.spare }

-- the node is the play of its journal from the opening node
abbrev pub IsPlayed : Inside → Type 0
IsPlayed c = Plays c.opening c.journal.entries c.node
