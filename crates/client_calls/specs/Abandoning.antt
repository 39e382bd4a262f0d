-- What the failure of a node makes of a client's call in hand, and of its table, where the client is on the node.
use Rattle.std.specs.Prelude.{ℕ, List, [], Option, Some, None, Bool, if◌then◌else◌}
use Rattle.call_dispatch.specs.PendingCalls.{no_pending}
use Rattle.client_handles.specs.ClientState.{emptied}
use Rattle.cluster_record.specs.RecordState.{RecordState}
use Rattle.ckpt_machine.specs.Failing.{is_abandoned}
use Rattle.client_calls.specs.TableState.{TableState, with_calls, with_client}
use Rattle.client_calls.specs.declared.in_hand.InHand.{InHand}

-- what is in hand at a place behind the failure
abbrev pub place_left : RecordState → ℕ → Option InHand → Option InHand
place_left R r None = None
place_left R r (Some h) = if is_abandoned R r h.call h.op then None else Some h

-- the table of a client that goes: without its handles and iterations, and its asynchronous calls
abbrev pub table_gone : TableState → TableState
table_gone t = with_calls (λ p. no_pending) (with_client emptied t)

-- the table of a client by its number, where it goes or stays
abbrev pub table_left : (ℕ → Bool) → ℕ → TableState → TableState
table_left goes c t = if goes c then table_gone t else t

-- the asynchronous calls of a client by its number, where it goes or stays
abbrev pub calls_left : (ℕ → Bool) → ℕ → List (Option InHand) → List (Option InHand)
calls_left goes c calls = if goes c then [] else calls
