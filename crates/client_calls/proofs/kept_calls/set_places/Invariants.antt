use Rattle.std.proofs.Common.{◌≡◌, drop}
use Rattle.ckpt_machine.specs.Tables.{places_set}
use Rattle.client_calls.proofs.kept_calls.set_places.Given as goal

-- what is left is set behind what was set
abbrev pub invariant-loop-call : goal.invariant-loop-call
invariant-loop-call l = places_set l.ended l.fn.client ≡ places_set (drop l.call-index l.ended) l.client
