-- A client that is live has the room for its handles and iterations.
use Rattle.std.specs.Prelude.{◌≡◌, ℕ, List, Bool, true, false, Option, Some, None, slice_get}
use Rattle.cluster_record.specs.RecordState.{RecordState, is_live_client}
use Rattle.client_calls.specs.TableState.{TableState}

-- whether a client has taken its room; one that is none has not
abbrev pub room_is_taken : Option TableState → Bool
room_is_taken None = false
room_is_taken (Some t) = t.roomy

-- each client that is live has taken its room
abbrev pub LiveHaveRoom : RecordState → List TableState → Type 0
LiveHaveRoom R tables = (c : ℕ) → is_live_client c R ≡ true → room_is_taken (slice_get tables c) ≡ true
