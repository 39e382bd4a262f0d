use Rattle.std.proofs.Common.{◌≡◌}
use Rattle.std.specs.Prelude.{map}
use Rattle.client_calls.specs.Abandoning.{place_left}
use Rattle.cluster_record.proofs.EachChanged.{changed_from}
use Rattle.world_core.proofs.hands.leave_copies.Given as goal

-- the places from the index on are left to do
abbrev pub invariant-loop-place : goal.invariant-loop-place
invariant-loop-place l = changed_from (place_left l.cluster l.node) l.place-index l.places ≡ map (place_left l.cluster l.node) l.initial.places
