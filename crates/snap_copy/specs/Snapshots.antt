-- A snapshot of a replica, as its callers see it.
use Rattle.std.specs.Prelude.{ℕ, List}
use Rattle.ckpt_types.specs.Sections.{Section}
use Rattle.ckpt_types.specs.declared.attributes.CreationAttributes.{CreationAttributes}

-- the attributes of the checkpoint, the sections that the replica had, and its generation and its count of updates then
pub record Snapshot : Type 0 where
  pub attributes : CreationAttributes
  pub sections : List Section
  pub generation : ℕ
  pub count : ℕ
