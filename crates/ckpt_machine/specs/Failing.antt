-- What the failure of a node makes of the machine.
use Rattle.std.specs.Option.{option_map}
use Rattle.std.specs.Prelude.{ℕ, [], ◌∷◌, ◌++◌, Option, Some, None, Bool, false, ◌==◌, ◌||◌, if◌then◌else◌}
use Rattle.ckpt_types.specs.declared.identities.ActorName.{ActorName}
use Rattle.ckpt_types.specs.declared.identities.CallId.{CallId}
use Rattle.ckpt_types.specs.declared.operation.Op.{Op}
use Rattle.ckpt_types.specs.declared.identities.ActorName.TheVariants.{Client, Node}
use Rattle.ckpt_types.specs.Asks.{Ask, asked}
use Rattle.ckpt_types.specs.Asks as asks
use Rattle.weak_marks.specs.Marks.{Marked, elements_in}
use Rattle.replica.specs.Replicas.{all_corrupted}
use Rattle.call_dispatch.specs.PendingCalls.{no_pending}
use Rattle.client_handles.specs.ClientState.{emptied}
use Rattle.cluster_record.specs.declared.entries.Entry.{Entry}
use Rattle.cluster_record.specs.Failing.{failed, goes_with_node}
use Rattle.cluster_record.specs.RecordState.{RecordState, entry_of, is_active, is_live, swept}
use Rattle.ckpt_machine.specs.Machine.{Machine, Broken, ReplicaState, CallState}
use Rattle.ckpt_machine.specs.Due.{count_in}
use Rattle.ckpt_machine.specs.Under.{replicas_under, reservation_under, with_record}

-- ---- its calls

-- it is a client on this node, or the node itself
abbrev pub is_of_node : RecordState → ℕ → ActorName → Bool
is_of_node R r (Client c) = goes_with_node R r c
is_of_node R r (Node q) = q == r

-- it asks to become live on this node
abbrev pub enters_on : ℕ → Ask → Bool
enters_on r (asks.Enter q version callbacks) = q == r
enters_on r ask = false

-- a call is abandoned by the failure of this node: it is of a client on it, or of the node itself, or an Initialize that names it
abbrev pub is_abandoned : RecordState → ℕ → CallId → Op → Bool
is_abandoned R r call op = is_of_node R r call.actor || enters_on r (asked op)

-- what is in hand behind the failure
abbrev pub unless_abandoned : RecordState → ℕ → Option CallState → Option CallState
unless_abandoned R r None = None
unless_abandoned R r (Some s) = if is_abandoned R r s.call s.op then None else Some s

-- ---- the replicas on other nodes

-- a weak write is cut short: the sections that it writes are corrupted, and it counts so
abbrev pub broken : Marked → ReplicaState → ReplicaState
broken marked x = record x {
  sections = all_corrupted (elements_in marked.update) x.sections;
  effects = x.effects ++ Broken marked.call marked.update marked.moment marked.done ∷ [];
  marks = None;
}

-- where its call is not live
abbrev pub broken_unless : RecordState → Option Marked → ReplicaState → ReplicaState
broken_unless R None x = x
broken_unless R (Some marked) x = if is_live R marked.call then x else broken marked x

-- the active's replica has the present generation of its checkpoint
abbrev pub made_present : Option Entry → ℕ → ReplicaState → ReplicaState
made_present None r x = x
made_present (Some e) r x = if is_active e.active r then record x { generation = e.generation } else x

-- what a failure that leaves this record makes of the replica of a checkpoint on a node, where it stays
abbrev pub replica_left : RecordState → ℕ → ℕ → ReplicaState → ReplicaState
replica_left R k r x = made_present (entry_of k R.entries) r (broken_unless R x.marks x)

-- ---- the whole

-- the record behind the failure of a node, swept
abbrev pub record_failed : Machine → ℕ → RecordState
record_failed m r = swept (failed (λ k q. count_in (m.replicas k q)) r m.cluster)

-- THE FAILURE OF A NODE: it is not up, and its clients are not live; their calls, the Initializes that name it, and its own copying are abandoned,
-- with what they were making and held; its replicas and what it has reserved go, and so does each checkpoint that is complete nowhere else;
-- weak writes of calls that are gone are cut short; slots stay; another active is chosen where it had the active; and what is over then is swept away
abbrev pub failed_at : ℕ → Machine → Machine
failed_at r m = let R = record_failed m r in record (with_record m R) {
  replicas = λ k q. option_map (replica_left R k q) (replicas_under m.cluster R m.replicas k q);
  reserved = λ k q. if q == r then None else reservation_under (entry_of k R.entries) q (m.reserved k q);
  tables = λ a. if is_of_node m.cluster r a then emptied (m.tables a) else m.tables a;
  pending = λ a. if is_of_node m.cluster r a then no_pending else m.pending a;
  in_hand = λ w. unless_abandoned m.cluster r (m.in_hand w);
}
