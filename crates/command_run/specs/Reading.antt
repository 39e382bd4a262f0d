-- What was read of a source.
use Rattle.std.specs.Prelude.{◌≡◌, ℕ, ◌+◌, ◌≤◌, List, length, Option}
use Rattle.std.specs.Io.KnownBytes.{Consumes, IsAtEnd}
use Rattle.ckpt_types.specs.Limits.{script_bytes_max}
use Rattle.command_run.specs.declared.reading.Ended.{Ended}
use Rattle.command_run.specs.declared.reading.Ended.TheVariants.{AtEnd, TooLong}

-- the bytes were taken from the source: all of them, at most as many as a script may have, or one more
abbrev pub HasRead : Option (List ℕ) → Option (List ℕ) → List ℕ → Ended → Type 0
HasRead old new bytes AtEnd = Consumes old new bytes × IsAtEnd new × (length bytes ≤ script_bytes_max)
HasRead old new bytes TooLong = Consumes old new bytes × (length bytes ≡ script_bytes_max + 1)

-- at most as many bytes were taken from the source as a script may have
abbrev pub TakesFew : Option (List ℕ) → Option (List ℕ) → Type 0
TakesFew old new = (bytes : List ℕ) × Consumes old new bytes × (length bytes ≤ script_bytes_max)
