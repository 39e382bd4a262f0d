-- What a node that comes back makes of the machine.
use Rattle.std.specs.Prelude.{◌≡◌, ℕ, ◌<◌, Option, Some, None, if◌then◌else◌}
use Rattle.ckpt_types.specs.declared.identities.ActorName.TheVariants.{Node}
use Rattle.ckpt_types.specs.Limits.{nodes_max}
use Rattle.cluster_record.specs.Joining.{next_incarnation, node_joined}
use Rattle.cluster_record.specs.RecordState.{RecordState, is_up}
use Rattle.ckpt_machine.specs.Machine.{Machine}

-- a node that is up can't join; any other joins in the incarnation that follows its last one
abbrev pub join_answer : ℕ → RecordState → Option ℕ
join_answer r R = if is_up r R then None else Some (next_incarnation r R)

-- one of the nodes joins, or is up; the label says in which incarnation, or that it was up
abbrev pub MayJoin : RecordState → ℕ → Option ℕ → Type 0
MayJoin R r told = (r < nodes_max) × (told ≡ join_answer r R)

-- A NODE JOINS: it is up from then on, with no replicas, and the first call that it may begin in this life is its next one
abbrev pub joined_at : ℕ → Machine → Machine
joined_at r m = record m { cluster = node_joined r (m.next (Node r)) m.cluster }
