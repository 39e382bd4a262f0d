-- How a region keeps its strings: all room that they can need is taken.
use Rattle.std.specs.Prelude.{◌+◌, ◌≤◌, length, vec_capacity}
use Rattle.section_store.specs.Extents.{strings_in, AreLaid}
use Rattle.section_store.specs.RegionState.{RegionState}
use Rattle.section_store.specs.declared.region.Region.TheInside.{Inside}

-- the region as contracts see it
abbrev pub region_state : Inside → RegionState
region_state r = record { strings = strings_in r.buffer.items r.extents.items; size = r.size; spare = r.spare }

-- the strings lie in the buffer, which is no longer than they may be together; there is room for all bytes and for all places
pub record HasRoom (r : Inside) : Type 0 where
  pub laid : AreLaid (length r.buffer.items) r.extents.items
  pub inside : length r.buffer.items ≤ r.size
  pub bytes : r.size ≤ vec_capacity r.buffer
  pub places : length r.extents.items + r.spare ≤ vec_capacity r.extents
