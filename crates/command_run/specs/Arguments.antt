-- What a program was called with, and what its words tell.
use Rattle.std.specs.Prelude.{◌≡◌, ◌⊎◌, ◌<◌, ◌≤◌, ℕ, List, length, take, slice_get, Contains, IsUtf8, Option, Some, None, Result, Ok, Err, string_bytes}
use Rattle.std.specs.declared.env.FillError.{FillError}
use Rattle.std.specs.declared.env.FillError.TheVariants.{NotPresent, TooLong}
use Rattle.std.specs.declared.string.String.{String}
use Rattle.std.specs.declared.alloc.Global.{Global}
use Rattle.command_run.specs.declared.running.Status.{Status}
use Rattle.command_run.specs.declared.running.Status.TheVariants.{Ran, Usage, Script, ReadFault, WriteFault, NoMemory}

-- WHAT A READING OF ONE WORD TELLS of the words that the program was called with: the word with this number stands at
-- the front of the place, or it is longer than the place, or there are no more than so many words
abbrev pub ReadsWord : List (List ℕ) → ℕ → Result ℕ FillError → List ℕ → Type 0
ReadsWord words number (Ok count) place = slice_get words number ≡ Some (take count place)
ReadsWord words number (Err TooLong) place = (word : List ℕ) × (slice_get words number ≡ Some word) × (length place < length word)
ReadsWord words number (Err NotPresent) place = length words ≤ number

-- the word that was read has this number, or none was read, and there are no more than so many words
abbrev pub IsWordAt : List (List ℕ) → ℕ → Option (String Global) → Type 0
IsWordAt words number (Some text) = slice_get words number ≡ Some (string_bytes text)
IsWordAt words number None = length words ≤ number

-- no command has this word: it is no text, or longer than 64 bytes
abbrev pub IsNoWord : List ℕ → Type 0
IsNoWord bytes = (IsUtf8 bytes → ⊥) ⊎ (64 < length bytes)

-- one of the words is such
abbrev pub HasNoWord : List (List ℕ) → Type 0
HasNoWord words = (word : List ℕ) × Contains words word × IsNoWord word

-- the program ends with the usage, and then for this cause, or since memory is refused
abbrev pub IsUsageWhere : Type 0 → Status → Type 0
IsUsageWhere Cause Usage = Cause
IsUsageWhere Cause NoMemory = Unit {0}
IsUsageWhere Cause Ran = ⊥
IsUsageWhere Cause (Script fault) = ⊥
IsUsageWhere Cause ReadFault = ⊥
IsUsageWhere Cause WriteFault = ⊥
