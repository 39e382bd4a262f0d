-- The sections in the order of their identifiers, as a store sees them.
use Rattle.std.specs.Prelude.{ℕ, pos, List, [], slice_index_or}
use Rattle.ckpt_types.specs.declared.sections.SectionState.TheVariants.{Valid}
use Rattle.ckpt_types.specs.Sections.{Section}

-- the sections in the order of their places, how many bytes they may have together, and how many there may be
pub record KeptState : Type 0 where
  pub sections : List Section
  pub size : ℕ
  pub places : ℕ

-- what is read at a place where no section is
abbrev pub no_section : Section
no_section = record { id = []; bytes = []; expiration = pos 0; state = Valid; last_update = pos 0 }

-- the section at a place
abbrev pub section_in : KeptState → ℕ → Section
section_in kept place = slice_index_or kept.sections place no_section
