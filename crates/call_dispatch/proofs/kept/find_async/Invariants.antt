use Rattle.std.proofs.Common.{◌≡◌, drop}
use Rattle.call_dispatch.specs.PendingCalls.{find_async}
use Rattle.call_dispatch.proofs.kept.find_async.Given as goal

-- what is found is among those that are left
abbrev pub invariant-loop-kept : goal.invariant-loop-kept
invariant-loop-kept l = find_async l.call l.calls ≡ find_async l.call (drop l.kept-index l.calls)
