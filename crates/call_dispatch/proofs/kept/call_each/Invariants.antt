use Rattle.std.proofs.Common.{take}
use Rattle.std.specs.List.{FoldsTo}
use Rattle.call_dispatch.proofs.kept.call_each.Given as goal

-- the calls in front were told
abbrev pub invariant-loop-call : goal.invariant-loop-call
invariant-loop-call g l = FoldsTo g.C.Callbacks.called l.fn.to (take l.call-index l.calls) l.to
