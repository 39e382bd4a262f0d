-- Sections that keep to what a checkpoint declares, one by one.
use Rattle.std.specs.Prelude.{◌≡◌, ◌≤◌, [], length}
use Rattle.ckpt_types.specs.declared.attributes.CreationAttributes.{CreationAttributes}
use Rattle.ckpt_types.specs.Sections.{Section, size_of}

-- one section is not too large, its identifier is not too long, and it is the default section where it is the only one
pub record KeepsTo (a : CreationAttributes) (s : Section) : Type 0 where
  pub small : size_of s ≤ a.max_section_size
  pub named_short : length s.id ≤ a.max_section_id_size
  pub default_only : a.max_sections ≡ 1 → s.id ≡ []
