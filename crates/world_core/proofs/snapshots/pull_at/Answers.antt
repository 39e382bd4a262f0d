use Rattle.std.proofs.Common.{◌≡◌}
use Rattle.cluster_record.proofs.Places.{changes_at}
use Rattle.world_core.specs.declared.snapshots.Background.{Background}
use Rattle.world_core.specs.Backgrounds.{background_key, filled_from}
use Rattle.world_core.proofs.SnapshotPlaces.{has_place, holds_at}
use Rattle.world_core.proofs.snapshots.pull_at.Goals as goal

pub unreachable-requires : goal.unreachable-requires
unreachable-requires c = has_place c.args.ckpt c.args.snapshots.now c.place_of.result c.place_of.ensures.place (λ (b : Background). b.snap.attributes ≡ c.args.replica.now.attributes) c.in_default.is c.requires

pub pull_into-requires : goal.pull_into-requires
pull_into-requires c = holds_at c.args.ckpt c.args.snapshots.now c.place_of.result c.place_of.ensures.place (λ (b : Background). b.snap.attributes ≡ c.args.replica.now.attributes) c.in-Some.i c.index-snapshots-i.result c.in-Some.is c.requires

pub returns-clause-new : goal.returns-clause-new
returns-clause-new c = changes_at background_key c.args.ckpt (filled_from c.args.replica.now) c.args.snapshots.now c.place_of.result c.place_of.ensures.place c.in-Some.i c.index-snapshots-i.result c.pull_into.new.background c.in-Some.is c.pull_into.ensures.new
