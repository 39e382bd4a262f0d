-- How strings are moved in one buffer.
use Rattle.std.specs.Prelude.{◌≡◌, ◌-◌, ◌<◌, ℕ, List, length, nat_lt, if◌then◌else◌}
use Rattle.section_store.specs.Extents.{extent_at, end_of}
use Rattle.section_store.specs.declared.extents.Extent.{Extent}

-- the same extents, each of which tells the place at which it stands
pub record TellPlaces (old extents : List Extent) : Type 0 where
  pub len : length extents ≡ length old
  pub each : (place : ℕ) → place < length old → extent_at place extents ≡ record (extent_at place old) { place = place }

-- a string that lay behind another starts earlier by the length of that one
abbrev pub lowered : Extent → Extent → Extent
lowered moved e = if nat_lt e.start (end_of moved) then e else record e { start = e.start - moved.len }
