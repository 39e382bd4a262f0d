-- What the failure of a node makes of the replicas of each node, by the record behind it.
use Rattle.std.specs.Prelude.{ℕ, ◌≤◌, List, [], ◌∷◌, map, filter, count_by, Option, Some, None, Bool, false, not, ◌==◌, ◌&&◌, if◌then◌else◌}
use Rattle.cluster_record.specs.declared.entries.Entry.{Entry}
use Rattle.cluster_record.specs.RecordState.{RecordState, entry_of, is_active, is_live}
use Rattle.node_msgs.specs.declared.changes.NodeChange.{NodeChange}
use Rattle.node_msgs.specs.declared.changes.NodeChange.TheVariants as changes
use Rattle.replica.specs.Replicas.{Replica, abandoned}
use Rattle.weak_marks.specs.Marks.{Marked}
use Rattle.node_core.specs.Nodes.{NodeState, is_there}

-- ---- which change is due

-- marks stand of a weak write whose call is not live
abbrev pub is_cut_short : RecordState → Option Marked → Bool
is_cut_short R None = false
is_cut_short R (Some marked) = not (is_live R marked.call)

-- the node is the active, and its replica is of another generation than the checkpoint
abbrev pub is_to_lead : ℕ → Entry → Replica → Bool
is_to_lead r e x = is_active e.active r && not (x.generation == e.generation)

-- of a replica on a node, by what the record has of its checkpoint: it goes with its checkpoint, a weak write that was cut short ends, and a new active
-- gets the generation
abbrev pub change_due : RecordState → ℕ → Option Entry → Replica → Option NodeChange
change_due R r None x = Some (changes.Drop x.ckpt)
change_due R r (Some e) x =
    if is_cut_short R x.marks then Some (changes.Break x.ckpt)
    else if is_to_lead r e x then Some (changes.Lead x.ckpt e.generation)
    else None

-- a change, or where none is due this one
abbrev pub or_later : Option NodeChange → Option NodeChange → Option NodeChange
or_later None later = later
or_later (Some change) later = Some change

-- the first change that is due at one of these replicas
abbrev pub first_due : RecordState → ℕ → List Replica → Option NodeChange
first_due R r [] = None
first_due R r (x ∷ xs) = or_later (change_due R r (entry_of x.ckpt R.entries) x) (first_due R r xs)

-- all replicas go, where there are any
abbrev pub clear_due : List Replica → Option NodeChange
clear_due [] = None
clear_due (x ∷ xs) = Some changes.Clear

-- behind the failure of a node, the change that is due next at this one: on that node all replicas go
abbrev pub next_change : RecordState → ℕ → NodeState → Option NodeChange
next_change R failed n = if n.number == failed then clear_due n.replicas else first_due R n.number n.replicas

-- a change that wants neither memory nor anything that is lent
abbrev pub WantsNothing : NodeChange → Type 0
WantsNothing (changes.Lead k generation) = Unit {0}
WantsNothing (changes.Break k) = Unit {0}
WantsNothing (changes.Drop k) = Unit {0}
WantsNothing changes.Clear = Unit {0}
WantsNothing change = ⊥

-- no two of these replicas are of one checkpoint
abbrev pub HoldsEachOnce : List Replica → Type 0
HoldsEachOnce xs = (k : ℕ) → count_by (λ (x : Replica). x.ckpt == k) xs ≤ 1

-- ---- what they leave

-- a replica with its weak write ended, where that was cut short
abbrev pub unless_cut_short : RecordState → Replica → Replica
unless_cut_short R x = if is_cut_short R x.marks then abandoned x x.marks else x

-- of the generation of its checkpoint, where the node is the active
abbrev pub of_present : ℕ → Option Entry → Replica → Replica
of_present r None x = x
of_present r (Some e) x = if is_active e.active r then record x { generation = e.generation } else x

-- what the failure leaves of a replica on a node, where its checkpoint stands
abbrev pub replica_left : RecordState → ℕ → Replica → Replica
replica_left R r x = of_present r (entry_of x.ckpt R.entries) (unless_cut_short R x)

-- of the replicas on a node, those whose checkpoint stands, each as the failure leaves it
abbrev pub replicas_left : RecordState → ℕ → List Replica → List Replica
replicas_left R r xs = map (replica_left R r) (filter (is_there R.entries) xs)

-- WHAT THE FAILURE OF A NODE LEAVES OF THIS ONE, by the record behind it: of the one that failed, nothing; of another, the replicas whose checkpoint stands
abbrev pub node_left : RecordState → ℕ → NodeState → NodeState
node_left R failed n = record n { replicas = if n.number == failed then [] else replicas_left R n.number n.replicas }
