use Rattle.std.proofs.Common.{◌≡◌, drop}
use Rattle.client_calls.specs.AlonePlaces.{found_alone}
use Rattle.client_calls.proofs.alone.find_alone.Given as goal

-- what is found is among those that are left
abbrev pub invariant-loop-place : goal.invariant-loop-place
invariant-loop-place l = found_alone l.call l.list ≡ found_alone l.call (drop l.place-index l.list)
