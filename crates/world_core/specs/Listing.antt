-- What the world lists of a checkpoint.
use Rattle.std.specs.Prelude.{ℕ, List, Option}
use Rattle.run_labels.specs.declared.shown.ShownReplica.{ShownReplica}
use Rattle.cluster_record.specs.RecordState.{entry_of}
use Rattle.world_core.specs.declared.world.World.{World}
use Rattle.ckpt_machine.specs.NodeListing.{entry_listed}

-- by the replicas that its nodes keep
abbrev pub world_listing : World → ℕ → Option (List ShownReplica)
world_listing w k = entry_listed w.nodes k w.cluster.moment (entry_of k w.cluster.entries)
