-- What a source in memory is, and what a read makes of it.
use Rattle.std.specs.Prelude.{◌≡◌, ℕ, ◌-◌, ◌^◌, List, ◌++◌, length, take, drop, min, Result, Ok, Err}
use Rattle.outside_io.specs.Causes.{next_count}

-- the bytes left, the most that a read gives, how many reads there were, the numbers of those that fail, and how many failed
pub record SourceInMemory : Type 0 where
  pub left : List ℕ
  pub piece : ℕ
  pub calls : ℕ
  pub fails : List ℕ
  pub faults : ℕ

-- a source that was not yet read
abbrev pub fresh_source : List ℕ → List ℕ → ℕ → SourceInMemory
fresh_source contents fails piece = record { left = contents; piece = piece; calls = 0; fails = fails; faults = 0 }

-- more bytes than a call can ask for
abbrev pub unlimited : ℕ
unlimited = 2 ^ 64 - 1

-- the source after a read: one read more, and the bytes given are gone, or one fault more
abbrev pub source_after : {E : Type 0} → SourceInMemory → Result ℕ E → SourceInMemory
source_after s (Ok count) = record s { left = drop count s.left; calls = next_count s.calls }
source_after s (Err e) = record s { calls = next_count s.calls; faults = next_count s.faults }

-- as many bytes as are left and fit go to the front of the buffer, whose other bytes stay; at a failure all stay
abbrev pub FillsFront : {E : Type 0} → List ℕ → Result ℕ E → List ℕ → List ℕ → Type 0
FillsFront left (Ok count) old new = (count ≡ min (length left) (length old)) × (new ≡ take count left ++ drop count old)
FillsFront left (Err e) old new = new ≡ old
