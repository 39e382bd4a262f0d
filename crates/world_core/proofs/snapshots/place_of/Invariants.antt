use Rattle.std.proofs.Common.{◌≡◌, drop}
use Rattle.cluster_record.specs.Places.{place_from}
use Rattle.world_core.specs.Backgrounds.{background_key}
use Rattle.world_core.proofs.snapshots.place_of.Given as goal

abbrev pub invariant-loop-i : goal.invariant-loop-i
invariant-loop-i l = place_from background_key l.ckpt l.i (drop l.i l.snapshots) ≡ place_from background_key l.ckpt 0 l.snapshots
