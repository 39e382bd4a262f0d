-- How a table is kept.
use Rattle.std.specs.Prelude.{◌≡◌, Option, Some, None, is_some}
use Rattle.std.specs.Global.{Box}
use Rattle.call_dispatch.specs.PendingCalls.{PendingCalls, no_pending}
use Rattle.client_handles.specs.ClientState.{ClientState}
use Rattle.ckpt_machine.specs.Machine.{no_tables}
use Rattle.client_calls.specs.TableState.{TableState}
use Rattle.client_calls.specs.declared.table.Table.TheInside.{Inside}

-- before its room was taken a client keeps nothing
abbrev pub client_in : Option (Box ClientState) → ClientState
client_in None = no_tables
client_in (Some client) = client.value

-- and has no asynchronous calls
abbrev pub calls_in : Option (Box PendingCalls) → PendingCalls
calls_in None = no_pending
calls_in (Some pending) = pending.value

-- a client's table as contracts see it
abbrev pub table_shown : Inside → TableState
table_shown t = record { next = t.next; roomy = is_some t.client; client = client_in t.client; pending = calls_in t.pending }

-- the room for both is taken at once
abbrev pub HasBoth : Inside → Type 0
HasBoth t = is_some t.pending ≡ is_some t.client
