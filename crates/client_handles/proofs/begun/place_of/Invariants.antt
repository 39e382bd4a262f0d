use Rattle.std.proofs.Common.{◌≡◌, drop}
use Rattle.client_handles.specs.ClientState.{iteration_number}
use Rattle.client_handles.specs.Numbered.{numbered}
use Rattle.client_handles.proofs.begun.place_of.Given as goal

-- what is found is among those that are left
abbrev pub invariant-loop-at : goal.invariant-loop-at
invariant-loop-at l = numbered iteration_number l.number l.begun ≡ numbered iteration_number l.number (drop l.at l.begun)
