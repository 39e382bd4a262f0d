-- The names of a record's checkpoints, as its table of names has them.
use Rattle.std.specs.Prelude.{ℕ, List, [], ◌∷◌, ◌++◌, Option, Some, None, Bool, not, ◌==◌, if◌then◌else◌}
use Rattle.name_table.specs.Table.{NamedCkpt, name_taken_away}
use Rattle.cluster_record.specs.declared.entries.Entry.{Entry}
use Rattle.cluster_record.specs.declared.entries.Staying.{Staying}
use Rattle.cluster_record.specs.declared.entries.Staying.TheVariants.{Swept, AllBut, NotMadeBy, Surviving}
use Rattle.cluster_record.specs.Failing.{survives}
use Rattle.cluster_record.specs.RecordState.{stays, is_call_of}

-- what the table has of a checkpoint: its name, or nothing once it is unlinked
abbrev pub linked_name : Option (List ℕ) → ℕ → List NamedCkpt
linked_name None k = []
linked_name (Some name) k = record { name = name; identity = k } ∷ []

-- each name that a checkpoint has, in the order of the entries
abbrev pub names_of : List Entry → List NamedCkpt
names_of [] = []
names_of (e ∷ es) = linked_name e.name e.identity ++ names_of es

-- which entries stay: those that a sweep leaves, all but one, those that a client is not making, or those that survive the failure of a node
abbrev pub stays_by : Staying → Entry → Bool
stays_by (Swept t) = stays t
stays_by (AllBut k) = λ e. not (e.identity == k)
stays_by (NotMadeBy c) = λ e. not (is_call_of c e.making)
stays_by Surviving = survives

-- a table without this name, where there is one
abbrev pub without_name : Option (List ℕ) → List NamedCkpt → List NamedCkpt
without_name None table = table
without_name (Some name) table = name_taken_away name table

-- a table without the names of the entries that go
abbrev pub without_gone : (Entry → Bool) → List Entry → List NamedCkpt → List NamedCkpt
without_gone p [] table = table
without_gone p (e ∷ es) table = without_gone p es (if p e then table else without_name e.name table)
