-- What a node that joins makes of the world.
use Rattle.std.specs.Prelude.{ℕ, if◌then◌else◌}
use Rattle.ckpt_types.specs.declared.identities.ActorName.TheVariants.{Node}
use Rattle.cluster_record.specs.Joining.{node_joined}
use Rattle.cluster_record.specs.RecordState.{is_up}
use Rattle.world_core.specs.Shows.{next_of}
use Rattle.world_core.specs.declared.world.World.{World}

-- A NODE JOINS, of the world: the record has it up, from its next call on, and nothing else changes; so it has no replica
abbrev pub joined_world : ℕ → World → World
joined_world r w = record w { cluster = node_joined r (next_of w (Node r)) w.cluster }

-- the world behind that; where the node is up already, it is as it was
abbrev pub behind_join : ℕ → World → World
behind_join r w = if is_up r w.cluster then w else joined_world r w
