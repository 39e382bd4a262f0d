-- What is kept of a client: the number of its next call, its tables, and its asynchronous calls that are not dispatched.
use Rattle.std.specs.Prelude.{◌≡◌, ℕ, ◌+◌, ◌<◌, IsFalse, Bool, true, Option, Some, None, if◌then◌else◌}
use Rattle.ckpt_types.specs.declared.answers.Outcome.{Outcome}
use Rattle.client_handles.specs.ClientState.{ClientState}
use Rattle.ckpt_types.specs.Asks.{asked}
use Rattle.ckpt_types.specs.declared.identities.CallId.{CallId}
use Rattle.ckpt_types.specs.declared.operation.Op.{Op}
use Rattle.ckpt_types.specs.declared.answers.Answer.{Answer}
use Rattle.ckpt_types.specs.declared.answers.Outcome.TheVariants.{Done}
use Rattle.ckpt_types.specs.Limits.{pending_max}
use Rattle.ckpt_types.specs.OpWord.{is_async, word_of_op}
use Rattle.call_dispatch.specs.PendingCalls.{PendingCalls, is_pending, no_pending, pending_count}
use Rattle.client_handles.specs.declared.handle_view.HandleView.{HandleView}
use Rattle.ckpt_machine.specs.After.{pending_begun}
use Rattle.ckpt_machine.specs.Machine.{no_tables}
use Rattle.ckpt_machine.specs.Tables.{ended_at_once}

-- the number of a client's next call, whether its room was taken, and its handles, iterations and places
pub record TableState : Type 0 where
  pub next : ℕ
  -- whether the room for handles and iterations was taken
  pub roomy : Bool
  -- its handles and iterations, and the places that stand for them
  pub client : ClientState
  -- its asynchronous calls that are not dispatched
  pub pending : PendingCalls

-- ---- what is told of it

-- the number of the client's next call
abbrev pub next_in : Option TableState → ℕ
next_in None = 1
next_in (Some t) = t.next

-- its handles and iterations; where there is no table there are none
abbrev pub kept_in : Option TableState → ClientState
kept_in None = no_tables
kept_in (Some t) = t.client

-- its asynchronous calls that are not dispatched; where there is no table there are none
abbrev pub pending_in : Option TableState → PendingCalls
pending_in None = no_pending
pending_in (Some t) = t.pending

-- its handles and iterations, once the room for them was taken
abbrev pub client_part : TableState → Option ClientState
client_part t = if t.roomy then Some t.client else None

-- ---- what changes

-- the room is taken
abbrev pub with_room : TableState → TableState
with_room t = record t { roomy = true }

-- its handles and iterations are changed
abbrev pub with_client : (ClientState → ClientState) → TableState → TableState
with_client change t = record t { client = change t.client }

-- its asynchronous calls are changed
abbrev pub with_calls : (PendingCalls → PendingCalls) → TableState → TableState
with_calls change t = record t { pending = change t.pending }

-- one call more was begun: it has ended its iteration where it was to end one, it is not dispatched where it goes on by itself, and what it gives is dispatched
abbrev pub begun_with : Option Outcome → CallId → Op → Option HandleView → TableState → TableState
begun_with end call op h t =
    record t { next = t.next + 1; client = ended_at_once end (asked op) t.pending t.client; pending = pending_begun end call op h t.pending }

-- ---- what a beginning asks

-- an asynchronous call that goes on by itself is new, and there is room for it
pub record CanGoOnAlone (call : CallId) (t : TableState) : Type 0 where
  pub roomy : t.roomy ≡ true
  pub new : IsFalse (is_pending call t.pending)
  pub room : pending_count t.pending < pending_max

-- what an operation asks that is answered OK at once
abbrev pub CanBeginDone : CallId → Op → TableState → Type 0
CanBeginDone call op t = is_async (word_of_op op) ≡ true → CanGoOnAlone call t

-- and any, by how it is answered
abbrev pub CanBegin : Option Outcome → CallId → Op → TableState → Type 0
CanBegin (Some (Done answer)) call op t = CanBeginDone call op t
CanBegin end call op t = Unit {0}

-- what an operation changes that is answered OK at its beginning
abbrev pub begun_done : Answer → CallId → Op → Option HandleView → TableState → TableState
begun_done answer call op h t =
    record t { client = ended_at_once (Some (Done answer)) (asked op) t.pending t.client; pending = pending_begun (Some (Done answer)) call op h t.pending }
