-- When a request may come to a node.
use Rattle.std.specs.Prelude.{◌≡◌, ◌-◌, ◌^◌, ◌<◌, Option, None, IsSomeAnd, Bool, true, false}
use Rattle.ckpt_types.specs.Attributes.{is_malformed}
use Rattle.ckpt_types.specs.Sections.{Fits}
use Rattle.node_msgs.specs.declared.requests.Request.{Request}
use Rattle.node_msgs.specs.declared.requests.Request.TheVariants as requests
use Rattle.node_msgs.specs.Requests.{ckpt_of}
use Rattle.stage_slot.specs.Slots.{IsOwnedBy}
use Rattle.weak_marks.specs.Marks.{IsMarkedBy, is_left_of}
use Rattle.cluster_record.specs.Places.{find_key}
use Rattle.replica.specs.Replicas.{Replica}
use Rattle.snap_copy.specs.Snapshots.{Snapshot}
use Rattle.node_core.specs.declared.lent.Lent.{Lent}
use Rattle.node_core.specs.Lending.{HasLent}
use Rattle.node_core.specs.Nodes.{NodeState, replica_key}
use Rattle.node_core.specs.Seen.{EntrySeen, RecordSeen, is_complete}

-- what a request asks of a replica: a stage meets no marks, an update in one step or a weak write no slot, and an installation neither; a commit and a
-- withdrawal are of what the call has staged, and an element and the end of a weak write of what it has marked; a reservation asks no replica
abbrev pub IsReadyFor : Request → Replica → Type 0
IsReadyFor (requests.Stage call k t) x = x.marks ≡ None
IsReadyFor (requests.Claim call k owner) x = Unit {0}
IsReadyFor (requests.Commit call k) x = IsOwnedBy call x.slot
IsReadyFor (requests.Withdraw call k) x = IsOwnedBy call x.slot
IsReadyFor (requests.Apply call k) x = x.slot ≡ None
IsReadyFor (requests.Mark call k) x = x.slot ≡ None
IsReadyFor (requests.Element call k) x = IsMarkedBy call x.marks × (is_left_of x.marks ≡ true)
IsReadyFor (requests.Unmark call k) x = IsMarkedBy call x.marks × (is_left_of x.marks ≡ false)
IsReadyFor (requests.Read k) x = Unit {0}
IsReadyFor (requests.Status k) x = Unit {0}
IsReadyFor (requests.Iterate call k choice) x = Unit {0}
IsReadyFor (requests.Next call k) x = Unit {0}
IsReadyFor (requests.Pull call k) x = Unit {0}
IsReadyFor (requests.Install call k) x = (x.slot ≡ None) × (x.marks ≡ None)
IsReadyFor request x = ⊥

-- an update can be counted where it is staged, applied or begun
abbrev pub HasCountLeft : Request → Replica → Type 0
HasCountLeft (requests.Stage call k t) x = x.count < 2 ^ 64 - 1
HasCountLeft (requests.Apply call k) x = x.count < 2 ^ 64 - 1
HasCountLeft (requests.Mark call k) x = x.count < 2 ^ 64 - 1
HasCountLeft request x = Unit {0}

-- an update can be staged on a replica: no marks stand, and it can be counted
pub record TakesUpdate (x : Replica) : Type 0 where
  pub unmarked : x.marks ≡ None
  pub room : x.count < 2 ^ 64 - 1

-- a replica can take over a snapshot: nothing is staged on it, no marks stand, and the sections keep to what it declares
pub record TakesSnapshot (s : Snapshot) (x : Replica) : Type 0 where
  pub free : x.slot ≡ None
  pub unmarked : x.marks ≡ None
  pub fits : Fits x.attributes s.sections

-- a replica can serve a request, with what is lent
pub record CanServe (request : Request) (lent : Lent) (x : Replica) : Type 0 where
  pub ready : IsReadyFor request x
  pub room : HasCountLeft request x
  pub beside : HasLent request lent x

-- where the node is complete it has the replica, which can serve; where it is not, nothing is asked
abbrev pub ReplicaFits : Bool → Request → Lent → Option Replica → Type 0
ReplicaFits true request lent x = IsSomeAnd x (CanServe request lent)
ReplicaFits false request lent x = Unit {0}

-- a replica may be made of a checkpoint: it has an entry, whose attributes passed their check
abbrev pub MayBeMade : Option EntrySeen → Type 0
MayBeMade e = IsSomeAnd e (λ e. is_malformed e.attributes ≡ false)

-- a reservation is of a checkpoint of which a replica may be made; all else goes to the replica
abbrev pub RequestFits : RecordSeen → NodeState → Request → Lent → Type 0
RequestFits seen n (requests.Reserve k) lent = MayBeMade seen.entry
RequestFits seen n request lent = ReplicaFits (is_complete seen) request lent (find_key replica_key (ckpt_of request) n.replicas)
