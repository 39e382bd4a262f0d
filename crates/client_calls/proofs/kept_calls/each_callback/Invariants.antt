use Rattle.std.proofs.Common.{◌≡◌, ◌≤◌, length, map, take, vec_capacity}
use Rattle.call_dispatch.specs.PendingCalls.{callback_of}
use Rattle.client_calls.proofs.kept_calls.each_callback.Given as goal

abbrev pub invariant-loop-call : goal.invariant-loop-call
invariant-loop-call l = record { items : l.callbacks.items ≡ map callback_of (take l.call-index l.ended); room : length l.ended ≤ vec_capacity l.callbacks }
