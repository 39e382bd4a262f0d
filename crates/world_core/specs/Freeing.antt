-- The world without the replicas and the background snapshots of checkpoints that are gone.
use Rattle.world_core.specs.declared.world.World.{World}
use Rattle.world_core.specs.Backgrounds.{backgrounds_left}
use Rattle.ckpt_machine.specs.Nodes.{freed}

-- only the replicas and the snapshots of checkpoints that have an entry
abbrev pub freed_world : World → World
freed_world w = record w { nodes = freed w.cluster.entries w.nodes; snapshots = backgrounds_left w.cluster.entries w.snapshots }
