-- What a store holds, as its callers see it, and the changes that no update makes.
use Rattle.std.specs.Prelude.{ℕ, ℤ, ◌-◌, List, ◌++◌, length, sum_by, Option, Some, None}
use Rattle.ckpt_types.specs.declared.attributes.CreationAttributes.{CreationAttributes}
use Rattle.ckpt_types.specs.declared.sections.SectionState.TheVariants.{Valid, Corrupted}
use Rattle.ckpt_types.specs.Buffer.{Buffer}
use Rattle.ckpt_types.specs.Sections.{Section, section_at, with_section}

-- the attributes of the checkpoint, and the sections of this replica
pub record StoreState : Type 0 where
  pub attributes : CreationAttributes
  pub sections : List Section

-- a section that is made at a moment, with these bytes
abbrev pub new_section : List ℕ → List ℕ → ℤ → ℤ → Section
new_section id bytes expiration t = record { id = id; bytes = bytes; expiration = expiration; state = Valid; last_update = t }

-- the sections, of which the one found is corrupted now; all else stays
abbrev pub corrupted_where : Option Section → List Section → List Section
corrupted_where None sections = sections
corrupted_where (Some s) sections = with_section (record s { state = Corrupted }) sections

-- the sections, of which the one of that identifier is corrupted, where one stands; all else stays
abbrev pub with_corrupted : List ℕ → List Section → List Section
with_corrupted id sections = corrupted_where (section_at id sections) sections

-- the buffer with these pieces behind the others
abbrev pub with_pieces : List (List ℕ) → Buffer → Buffer
with_pieces pieces b = record { pieces = b.pieces ++ pieces; spare_pieces = b.spare_pieces - length pieces; spare_bytes = b.spare_bytes - sum_by length pieces }
