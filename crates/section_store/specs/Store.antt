-- How a store keeps the sections of a replica: all storage that they can need is taken.
use Rattle.std.specs.Prelude.{◌≡◌, false}
use Rattle.ckpt_types.specs.Attributes.{is_malformed}
use Rattle.ckpt_types.specs.Sections.{Rises, Fits}
use Rattle.section_store.specs.StoreState.{StoreState}
use Rattle.section_store.specs.Summary.{IsSummary}
use Rattle.section_store.specs.declared.store.Store.TheInside.{Inside}

-- the store as contracts see it: the attributes, and the sections in their order
abbrev pub store_state : Inside → StoreState
store_state s = record { attributes = s.attributes; sections = s.kept.sections }

-- the attributes pass the check, the sections rise and keep to what was declared, what is kept
-- beside them is so, and there is room for all bytes and sections that were declared
pub record IsReserved (s : Inside) : Type 0 where
  pub checked : is_malformed s.attributes ≡ false
  pub rises : Rises s.kept.sections
  pub fits : Fits s.attributes s.kept.sections
  pub summary : IsSummary s.summary s.kept.sections
  pub size : s.kept.size ≡ s.attributes.checkpoint_size
  pub places : s.kept.places ≡ s.attributes.max_sections
