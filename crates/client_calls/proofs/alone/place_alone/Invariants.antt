use Rattle.std.proofs.Common.{take}
use Rattle.client_calls.proofs.AlonePlaces.{NoneHas}
use Rattle.client_calls.proofs.alone.place_alone.Given as goal

-- none of those that were passed is of this call
abbrev pub invariant-loop-place : goal.invariant-loop-place
invariant-loop-place l = NoneHas l.call (take l.place l.list)
