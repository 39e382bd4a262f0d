-- The play of a journal.
use Rattle.std.specs.Prelude.{◌≡◌, ℕ, List, [], ◌∷◌}
use Rattle.node_core.specs.Changing.{changed_node}
use Rattle.node_core.specs.Nodes.{NodeState, MayReply, node_after}
use Rattle.node_core.specs.Payloads.{Payload}
use Rattle.node_core.specs.Seen.{RecordSeen}
use Rattle.shared_nodes.specs.declared.journal.JournalEntry.{JournalEntry}
use Rattle.shared_nodes.specs.declared.journal.NodeStep.{NodeStep}
use Rattle.shared_nodes.specs.declared.journal.NodeStep.TheVariants as steps
use Rattle.shared_nodes.specs.Travelling.{payload_kept}

-- a node after a step, by what was seen and what travelled beside it
abbrev pub stepped : NodeStep → RecordSeen → Payload → NodeState → NodeState
stepped (steps.Served request reply) seen p n = node_after seen n request p reply
stepped (steps.Changed change) seen p n = changed_node seen change p n

-- the reply of a request is the node's there, for some iteration, which is not kept; a change has none
abbrev pub IsReplied : NodeStep → RecordSeen → Payload → NodeState → Type 0
IsReplied (steps.Served request reply) seen p n = (ids : List (List ℕ)) × MayReply seen n request (record p { ids = ids }) reply
IsReplied (steps.Changed change) seen p n = Unit {0}

-- the node after an entry
abbrev pub node_behind : JournalEntry → NodeState → NodeState
node_behind e n = stepped e.step e.seen (payload_kept e.kept) n

-- the reply of an entry is the node's there
abbrev pub IsAnswered : JournalEntry → NodeState → Type 0
IsAnswered e n = IsReplied e.step e.seen (payload_kept e.kept) n

-- the journal, played from a node entry by entry, ends with another node, and each reply is that of the node at its place
abbrev pub Plays : NodeState → List JournalEntry → NodeState → Type 0
Plays opening [] node = node ≡ opening
Plays opening (e ∷ journal) node = IsAnswered e opening × Plays (node_behind e opening) journal node
