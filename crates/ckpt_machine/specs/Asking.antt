-- What a request asks of a node, as far as the world's own definitions tell: what a type keeps to, its contracts add.
use Rattle.std.specs.Prelude.{◌≡◌, Option, IsSomeAnd, IfSome, Bool, true, false}
use Rattle.ckpt_types.specs.Sections.{Fits}
use Rattle.node_msgs.specs.declared.requests.Request.{Request}
use Rattle.node_msgs.specs.declared.requests.Request.TheVariants as requests
use Rattle.node_msgs.specs.Requests.{ckpt_of}
use Rattle.cluster_record.specs.Places.{find_key}
use Rattle.cluster_record.specs.RecordState.{RecordState}
use Rattle.replica.specs.Replicas.{Replica}
use Rattle.node_core.specs.declared.lent.Lent.{Lent}
use Rattle.node_core.specs.Fitting.{IsReadyFor, HasCountLeft, RequestFits}
use Rattle.node_core.specs.Lending.{HasLent}
use Rattle.node_core.specs.Nodes.{NodeState, replica_key, seen_from, seen_for}
use Rattle.node_core.specs.Seen.{is_complete}

-- what a request uses is lent; a snapshot was reserved for what the replica declares
abbrev pub IsLentFor : Request → Lent → Replica → Type 0
IsLentFor (requests.Pull call k) lent x = IsSomeAnd lent.snap (λ s. s.attributes ≡ x.attributes)
IsLentFor (requests.Install call k) lent x = IsSomeAnd lent.snap (λ s. s.attributes ≡ x.attributes)
IsLentFor request lent x = HasLent request lent x

-- a replica can be asked a request, with what is lent
pub record CanBeAsked (request : Request) (lent : Lent) (x : Replica) : Type 0 where
  pub ready : IsReadyFor request x
  pub room : HasCountLeft request x
  pub beside : IsLentFor request lent x

-- where the node is complete it has the replica, which can be asked; where it is not, nothing is asked
abbrev pub ReplicaMayBeAsked : Bool → Request → Lent → Option Replica → Type 0
ReplicaMayBeAsked true request lent x = IsSomeAnd x (CanBeAsked request lent)
ReplicaMayBeAsked false request lent x = Unit {0}

-- the request may come to the node
abbrev pub MayCome : RecordState → NodeState → Request → Lent → Type 0
MayCome R n (requests.Reserve k) lent = RequestFits (seen_from R n k) n (requests.Reserve k) lent
MayCome R n request lent = ReplicaMayBeAsked (is_complete (seen_for R n request)) request lent (find_key replica_key (ckpt_of request) n.replicas)

-- the sections that a pull and an installation copy keep to what is declared for them
abbrev pub KeepsToDeclared : Request → NodeState → Lent → Type 0
KeepsToDeclared (requests.Pull call k) n lent = IfSome (find_key replica_key k n.replicas) (λ x. Fits x.attributes x.sections)
KeepsToDeclared (requests.Install call k) n lent = IfSome lent.snap (λ s. Fits s.attributes s.sections)
KeepsToDeclared request n lent = Unit {0}
