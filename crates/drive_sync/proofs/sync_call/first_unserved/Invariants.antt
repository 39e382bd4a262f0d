use Rattle.std.proofs.Common.{◌≡◌, drop}
use Rattle.cluster_record.specs.DueSync.{first_unserved}
use Rattle.drive_sync.proofs.sync_call.first_unserved.Given as goal

abbrev pub invariant-loop-r : goal.invariant-loop-r
invariant-loop-r l = first_unserved l.r (drop l.r l.complete) (drop l.r l.served) ≡ first_unserved 0 l.complete l.served
