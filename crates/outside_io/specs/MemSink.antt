-- What a sink in memory is, and what a write makes of it.
use Rattle.std.specs.Prelude.{◌≡◌, ℕ, ◌-◌, ◌<◌, List, [], ◌++◌, length, take, min, Contains, Result, Ok, Err, ◌⊎◌}
use Rattle.outside_io.specs.Causes.{next_count}

-- the bytes it holds, how many it has room for, the most that a write takes, how many writes there were, the numbers of those that fail,
-- and how many failed
pub record SinkInMemory : Type 0 where
  pub held : List ℕ
  pub room : ℕ
  pub piece : ℕ
  pub calls : ℕ
  pub fails : List ℕ
  pub faults : ℕ

-- a sink that was not yet written to
abbrev pub fresh_sink : ℕ → List ℕ → ℕ → SinkInMemory
fresh_sink room fails piece = record { held = []; room = room; piece = piece; calls = 0; fails = fails; faults = 0 }

-- the write is one of those that fail, or there are bytes to write and the room is full
abbrev pub IsFailing : SinkInMemory → List ℕ → Type 0
IsFailing s bytes = Contains s.fails s.calls ⊎ ((0 < length bytes) × (length s.held ≡ s.room))

-- how many of the bytes fit, of as many as a write takes
abbrev pub fitting : SinkInMemory → List ℕ → ℕ
fitting s bytes = min (min s.piece (length bytes)) (s.room - length s.held)

-- the sink after a write: one write more, and the bytes taken stand at its end, or one fault more
abbrev pub sink_after : {E : Type 0} → SinkInMemory → List ℕ → Result ℕ E → SinkInMemory
sink_after s bytes (Ok count) = record s { held = s.held ++ take count bytes; calls = next_count s.calls }
sink_after s bytes (Err e) = record s { calls = next_count s.calls; faults = next_count s.faults }
