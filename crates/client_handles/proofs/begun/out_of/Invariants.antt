use Rattle.std.proofs.Common.{◌≡◌, drop}
use Rattle.client_handles.specs.ClientState.{iteration_number}
use Rattle.client_handles.specs.Numbered.{numbered}
use Rattle.client_handles.proofs.begun.out_of.Given as goal

-- what is found is among those that are left
abbrev pub invariant-loop-it : goal.invariant-loop-it
invariant-loop-it l = numbered iteration_number l.number l.begun ≡ numbered iteration_number l.number (drop l.it-index l.begun)
