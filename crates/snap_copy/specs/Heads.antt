-- Sections whose bytes stand in one buffer, with a head for each.
use Rattle.std.specs.Prelude.{ℕ, ◌-◌, ◌≤◌, List, All, map, take, drop}
use Rattle.ckpt_types.specs.Sections.{Section}
use Rattle.snap_copy.specs.declared.heads.Head.{Head}

-- the section of a head, whose bytes stand among these
abbrev pub section_in : List ℕ → Head → Section
section_in bytes h = record { id = h.id; bytes = take (h.end - h.start) (drop h.start bytes); expiration = h.expiration; state = h.state; last_update = h.last_update }

-- the sections of the heads, in their order
abbrev pub sections_in : List ℕ → List Head → List Section
sections_in bytes heads = map (section_in bytes) heads

-- the bytes of a section stand among so many
pub record IsWithin (len : ℕ) (h : Head) : Type 0 where
  pub begins : h.start ≤ h.end
  pub ends : h.end ≤ len

-- the bytes of each section stand among so many
abbrev pub AreWithin : ℕ → List Head → Type 0
AreWithin len heads = All (IsWithin len) heads
