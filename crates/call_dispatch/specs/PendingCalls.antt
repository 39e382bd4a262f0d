-- The asynchronous calls of one client that were not dispatched, and what becomes of them.
use Rattle.std.specs.Prelude.{ℕ, ◌+◌, ◌-◌, ◌==◌, Bool, true, false, not, ◌&&◌, ◌||◌, if◌then◌else◌, List, [], ◌∷◌, ◌++◌, length, take, drop, min, filter, find, Option, Some, None, unwrap_or, ok_or, option_map, Result, Ok, Err}
use Rattle.std.specs.List.{list_any}
use Rattle.ckpt_types.specs.declared.ais_error.AisError.{AisError}
use Rattle.ckpt_types.specs.declared.ais_error.AisError.TheVariants.{InvalidParam}
use Rattle.ckpt_types.specs.declared.answers.Given.{Given}
use Rattle.ckpt_types.specs.declared.answers.Outcome.{Outcome}
use Rattle.ckpt_types.specs.declared.calls.AsyncKind.{AsyncKind}
use Rattle.ckpt_types.specs.declared.calls.AsyncKind.TheVariants.{Open, Sync}
use Rattle.ckpt_types.specs.declared.calls.Callback.{Callback}
use Rattle.ckpt_types.specs.declared.calls.Count.{Count}
use Rattle.ckpt_types.specs.declared.identities.ActorName.{ActorName}
use Rattle.ckpt_types.specs.declared.identities.ActorName.TheVariants.{Client, Node}
use Rattle.ckpt_types.specs.declared.identities.CallId.{CallId}
use Rattle.ckpt_types.specs.Limits.{dispatch_all, dispatch_one, pending_max}
use Rattle.call_dispatch.specs.declared.async_call.AsyncCall.{AsyncCall}
use Rattle.call_dispatch.specs.declared.async_call.EndedCall.{EndedCall}

-- the calls under way, in the order of their beginning, and those that have ended, in the order of their ends
pub record PendingCalls : Type 0 where
  pub unfinished : List AsyncCall
  pub finished : List EndedCall

-- no call is kept
abbrev pub no_pending : PendingCalls
no_pending = record { unfinished = []; finished = [] }

-- ---- what is told of them

-- how many were not dispatched
abbrev pub pending_count : PendingCalls → ℕ
pending_count p = length p.unfinished + length p.finished

-- two names of one client, or of one node
abbrev pub is_actor : ActorName → ActorName → Bool
is_actor (Client a) (Client b) = a == b
is_actor (Node a) (Node b) = a == b
is_actor (Client a) (Node b) = false
is_actor (Node a) (Client b) = false

-- two names of one call
abbrev pub is_call : CallId → CallId → Bool
is_call a b = is_actor a.actor b.actor && (a.number == b.number)

-- the call of that name
abbrev pub find_async : CallId → List AsyncCall → Option AsyncCall
find_async call calls = find (λ (kept : AsyncCall). is_call call kept.call) calls

-- a call of that name is kept, under way or ended
abbrev pub is_pending : CallId → PendingCalls → Bool
is_pending call p = list_any (λ (kept : AsyncCall). is_call call kept.call) p.unfinished || list_any (λ (ended : EndedCall). is_call call ended.asked.call) p.finished

-- a synchronisation, and no open
abbrev pub is_sync : AsyncKind → Bool
is_sync (Open place) = false
is_sync Sync = true

-- it is a synchronisation over the handle of that number
abbrev pub goes_over : ℕ → AsyncCall → Bool
goes_over handle call = is_sync call.kind && (call.handle == handle)

-- a callback is there to be given
abbrev pub has_callbacks : PendingCalls → Bool
has_callbacks p = not (length p.finished == 0)

-- ---- how a call begins, ends and is forgotten

-- with this call under way, behind the others
abbrev pub with_begun : AsyncCall → PendingCalls → PendingCalls
with_begun call p = record p { unfinished = p.unfinished ++ call ∷ [] }

-- one more may begin, else the count of those that were not dispatched
abbrev pub begun_answer : PendingCalls → Result (Unit {0}) Count
begun_answer p = if pending_count p == pending_max then Err (record { count = pending_max }) else Ok tt

-- the calls of other names, in the same order
abbrev pub other_calls : CallId → List AsyncCall → List AsyncCall
other_calls call calls = filter (λ (kept : AsyncCall). not (is_call call kept.call)) calls

-- those of them that have ended
abbrev pub other_ended : CallId → List EndedCall → List EndedCall
other_ended call calls = filter (λ (ended : EndedCall). not (is_call call ended.asked.call)) calls

-- the call has ended with this outcome; an open that was done has opened this handle
abbrev pub ended_call : Option ℕ → Outcome → AsyncCall → EndedCall
ended_call opened outcome call = record { asked = record call { handle = unwrap_or opened call.handle }; outcome = outcome }

-- what was found of that name is under way no more, and has ended behind the others
abbrev pub ending : Option AsyncCall → CallId → Option ℕ → Outcome → PendingCalls → PendingCalls
ending None call opened outcome p = p
ending (Some kept) call opened outcome p = record { unfinished = other_calls call p.unfinished; finished = p.finished ++ ended_call opened outcome kept ∷ [] }

-- the call of that name has ended; where none of that name is under way, nothing has changed
abbrev pub ended_in : CallId → Option ℕ → Outcome → PendingCalls → PendingCalls
ended_in call opened outcome p = ending (find_async call p.unfinished) call opened outcome p

-- without the call of that name, whether it has ended or not
abbrev pub forgotten : CallId → PendingCalls → PendingCalls
forgotten call p = record { unfinished = other_calls call p.unfinished; finished = other_ended call p.finished }

-- without the synchronisations over the handle of that number, whether they have ended or not
abbrev pub forgotten_over : ℕ → PendingCalls → PendingCalls
forgotten_over handle p = record {
  unfinished = filter (λ (kept : AsyncCall). not (goes_over handle kept)) p.unfinished;
  finished = filter (λ (ended : EndedCall). not (goes_over handle ended.asked)) p.finished;
}

-- ---- what a dispatch gives

-- the callback that tells of the end of a call
abbrev pub callback_of : EndedCall → Callback
callback_of ended = record { kind = ended.asked.kind; invocation = ended.asked.invocation; outcome = ended.outcome }

-- how many callbacks a dispatch gives by its flag: one if one is there, or all; there is no other flag
abbrev pub given_count : ℕ → PendingCalls → Option ℕ
given_count flag p = if flag == dispatch_one then Some (min (length p.finished) 1) else if flag == dispatch_all then Some (length p.finished) else None

-- as many, and none where there is no such flag
abbrev pub given_number : ℕ → PendingCalls → ℕ
given_number flag p = unwrap_or (given_count flag p) 0

-- the calls whose callbacks it gives: those that have ended first
abbrev pub given_by : ℕ → PendingCalls → List EndedCall
given_by flag p = take (given_number flag p) p.finished

-- without so many calls that have ended, the first ones
abbrev pub dispatched : ℕ → PendingCalls → PendingCalls
dispatched count p = record p { finished = drop count p.finished }

-- so many are given, and the others are left
abbrev pub counted : PendingCalls → ℕ → Given
counted p count = record { given = count; left = length p.finished - count }

-- how many it gives and leaves, or INVALID_PARAM where there is no such flag
abbrev pub given_answer : ℕ → PendingCalls → Result Given AisError
given_answer flag p = ok_or (option_map (counted p) (given_count flag p)) InvalidParam
