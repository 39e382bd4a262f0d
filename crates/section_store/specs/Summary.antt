-- What a store keeps of its sections beside them.
use Rattle.std.specs.Prelude.{◌≡◌, ℕ, ◌<◌, ◌≤◌, ℤ, List, true}
use Rattle.std.specs.Int.{int_min}
use Rattle.ckpt_types.specs.Sections.{Section, is_taken, memory_used, earliest_expiration}
use Rattle.ckpt_types.specs.Updates.{numbered_id}
use Rattle.section_store.specs.declared.summary.Summary.{Summary}

-- from 1 on, the numbers below this one are all taken by sections
pub record AreTaken (first : ℕ) (sections : List Section) : Type 0 where
  pub counted : 1 ≤ first
  pub taken : (n : ℕ) → 1 ≤ n → n < first → is_taken (numbered_id n) sections ≡ true

-- the least expiration of the sections, their bytes together, and numbers that are taken
pub record IsSummary (summary : Summary) (sections : List Section) : Type 0 where
  pub earliest : summary.earliest ≡ earliest_expiration sections
  pub used : summary.used ≡ memory_used sections
  pub numbers : AreTaken summary.first sections

-- this is the least expiration of the sections and of one that is gone, which had that expiration
abbrev pub IsEarliestBut : ℤ → ℤ → List Section → Type 0
IsEarliestBut gone earliest sections = earliest ≡ int_min gone (earliest_expiration sections)
