-- How a table of names is kept: in a map with its places, beside an empty one with as many.
use Rattle.std.specs.Prelude.{ℕ, ◌+◌, ◌≤◌, List, map}
use Rattle.indexmap.specs.IndexMap.{index_map_len, spare, IsEmpty}
use Rattle.name_table.specs.Table.{NamedCkpt, EachOnce, places}
use Rattle.name_table.specs.declared.names.Names.TheInside.{Inside}

-- the entry, as callers see it
abbrev pub named_ckpt : List ℕ × ℕ → NamedCkpt
named_ckpt entry = record { name = entry.0; identity = entry.1 }

-- the table that these entries make
abbrev pub table_of : List (List ℕ × ℕ) → List NamedCkpt
table_of entries = map named_ckpt entries

-- each name stands once, in one of the places, and both maps have room for them all
pub record HasItsPlaces (names : Inside) : Type 0 where
  pub each_once : EachOnce (table_of names.linked.entries)
  pub few : index_map_len names.linked ≤ places
  pub room : places ≤ index_map_len names.linked + spare names.linked
  pub empty : IsEmpty names.unused
  pub unused_room : places ≤ spare names.unused
