-- What a client's table is at the start.
use Rattle.std.specs.Prelude.{ℕ, Option, Some, None, true, false}
use Rattle.call_dispatch.specs.PendingCalls.{no_pending}
use Rattle.ckpt_machine.specs.Machine.{no_tables}
use Rattle.client_handles.specs.ClientState.{ClientState}
use Rattle.client_calls.specs.TableState.{TableState}

-- the next call is the first, no room is taken, and nothing is kept
abbrev pub new_table : TableState
new_table = record { next = 1; roomy = false; client = no_tables; pending = no_pending }

-- the next call has this number, and what is kept is this, where the room for it was taken
abbrev pub table_of : ℕ → Option ClientState → TableState
table_of next None = record { next = next; roomy = false; client = no_tables; pending = no_pending }
table_of next (Some client) = record { next = next; roomy = true; client = client; pending = no_pending }
