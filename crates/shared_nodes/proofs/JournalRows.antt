-- Worked examples of the play of a journal, by computation: a node adds a replica, and then is asked for a checkpoint that the record does not have.
use Rattle.std.proofs.Common.{[], ◌∷◌, pos, None, Some, true, refl}
use Rattle.ckpt_types.specs.declared.attributes.CreationAttributes.{CreationAttributes}
use Rattle.ckpt_types.specs.Limits.{wr_all_replicas}
use Rattle.node_msgs.specs.declared.changes.NodeChange.TheVariants as changes
use Rattle.node_msgs.specs.declared.replies.Reply.TheVariants as replies
use Rattle.node_msgs.specs.declared.requests.Request.TheVariants as requests
use Rattle.node_core.specs.Nodes.{NodeState}
use Rattle.node_core.specs.Seen.{EntrySeen}
use Rattle.replica.specs.Replicas.{opened_replica}
use Rattle.shared_nodes.specs.declared.journal.JournalEntry.{JournalEntry}
use Rattle.shared_nodes.specs.declared.journal.NodeStep.TheVariants as steps
use Rattle.shared_nodes.specs.declared.kept.Kept.TheVariants as kept
use Rattle.shared_nodes.specs.Plays.{Plays}

-- one section of at most 8 bytes is declared, and no retention
abbrev declared : CreationAttributes
declared = record { creation_flags = wr_all_replicas; checkpoint_size = 8; retention_duration = pos 0; max_sections = 1; max_section_size = 8; max_section_id_size = 8 }

-- it was made at 2, and has a retention of 7 now
abbrev as_seen : EntrySeen
as_seen = record { attributes = declared; retention = pos 7; generation = 1; made = pos 2; complete = true }

abbrev added : JournalEntry
added = record { ticket = 4; step = steps.Changed (changes.Add 1 1); seen = record { moment = pos 5; entry = Some as_seen }; kept = kept.Nothing }

abbrev asked : JournalEntry
asked = record { ticket = 6; step = steps.Served (requests.Status 2) replies.NoReplica; seen = record { moment = pos 5; entry = None }; kept = kept.Nothing }

abbrev without_replicas : NodeState
without_replicas = record { number = 0; replicas = [] }

abbrev with_one : NodeState
with_one = record { number = 0; replicas = opened_replica 1 declared (pos 2) ∷ [] }

pub both_are_played : Plays without_replicas (added ∷ asked ∷ []) with_one
both_are_played = (tt, (([], refl), refl))

-- a journal without the first is of another node
pub without_the_first : Plays without_replicas (asked ∷ []) without_replicas
without_the_first = (([], refl), refl)
