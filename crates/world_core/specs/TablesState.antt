-- What is kept of all clients, a table for each.
use Rattle.std.specs.Prelude.{ℕ, Bool, List, Option, Some, None, slice_get, slice_set}
use Rattle.client_handles.specs.ClientState.{ClientState}
use Rattle.call_dispatch.specs.PendingCalls.{PendingCalls}
use Rattle.client_handles.specs.declared.handle_view.HandleView.{HandleView}
use Rattle.ckpt_machine.specs.Beginning.{Standing}
use Rattle.client_calls.specs.TableState.{TableState, kept_in, pending_in}

-- what a client keeps
abbrev pub kept_by : List TableState → ℕ → ClientState
kept_by tables c = kept_in (slice_get tables c)

-- those of a client
abbrev pub pending_by : List TableState → ℕ → PendingCalls
pending_by tables c = pending_in (slice_get tables c)

-- the tables with one of them changed, where it is there
abbrev pub table_changed : ℕ → (TableState → TableState) → List TableState → Option TableState → List TableState
table_changed c change tables None = tables
table_changed c change tables (Some t) = slice_set tables c (change t)

-- the tables with that of this client changed
abbrev pub at_client : ℕ → (TableState → TableState) → List TableState → List TableState
at_client c change tables = table_changed c change tables (slice_get tables c)

-- the same of a client
abbrev pub standing_in : Bool → Option HandleView → ℕ → List TableState → Standing
standing_in live handle c tables = record { live = live; handle = handle; callbacks = (kept_by tables c).callbacks; pending = pending_by tables c }
