-- How a journal shows itself.
use Rattle.std.specs.Prelude.{◌-◌, vec_len, vec_capacity}
use Rattle.shared_nodes.specs.declared.journal.Journal.TheInside.{Inside}
use Rattle.shared_nodes.specs.Journals.{KeptJournal}

-- its entries, and the room that they leave
abbrev pub journal_shown : Inside → KeptJournal
journal_shown j = record { entries = j.items.items; spare = vec_capacity j.items - vec_len j.items }
