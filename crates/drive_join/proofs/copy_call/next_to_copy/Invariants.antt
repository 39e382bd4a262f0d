use Rattle.std.proofs.Common.{◌≡◌, drop}
use Rattle.std.specs.Prelude.{find}
use Rattle.cluster_record.specs.DueCopy.{lacks_replica}
use Rattle.drive_join.proofs.copy_call.next_to_copy.Given as goal

-- of those before the place the node lacks none
abbrev pub invariant-loop-place : goal.invariant-loop-place
invariant-loop-place l = find (lacks_replica l.node) (drop l.place l.seen.entries) ≡ find (lacks_replica l.node) l.seen.entries
