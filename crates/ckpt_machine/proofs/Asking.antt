-- A request that may come fits the node, since sections keep to what is declared for them.
use Rattle.std.proofs.Common.{◌≡◌, sym, subst, true, false}
use Rattle.std.specs.Prelude.{Option, Some, None, IsSomeAnd, IfSome, Bool}
use Rattle.ckpt_types.specs.Sections.{Fits}
use Rattle.node_msgs.specs.declared.requests.Request.{Request}
use Rattle.node_msgs.specs.declared.requests.Request.TheVariants as requests
use Rattle.node_msgs.specs.Requests.{ckpt_of}
use Rattle.snap_copy.specs.Snapshots.{Snapshot}
use Rattle.cluster_record.specs.Places.{find_key}
use Rattle.cluster_record.specs.RecordState.{RecordState}
use Rattle.replica.specs.Replicas.{Replica}
use Rattle.node_core.specs.declared.lent.Lent.{Lent}
use Rattle.node_core.specs.Fitting.{ReplicaFits, RequestFits}
use Rattle.node_core.specs.Lending.{HasLent}
use Rattle.node_core.specs.Nodes.{NodeState, replica_key, seen_from, seen_for}
use Rattle.node_core.specs.Seen.{is_complete}
use Rattle.ckpt_machine.specs.Asking.{IsLentFor, ReplicaMayBeAsked, MayCome, KeepsToDeclared}

-- what is pulled keeps to what the snapshot was reserved for
fits_pulled : (s : Option Snapshot) (x : Replica) → IsSomeAnd s (λ s. s.attributes ≡ x.attributes) → Fits x.attributes x.sections → IsSomeAnd s (λ s. Fits s.attributes x.sections)
fits_pulled None x same keeps = absurd same
fits_pulled (Some s) x same keeps = subst (λ a. Fits a x.sections) (sym same) keeps

-- and what is installed to what the replica declares
fits_installed : (s : Option Snapshot) (x : Replica) → IsSomeAnd s (λ s. s.attributes ≡ x.attributes) → IfSome s (λ s. Fits s.attributes s.sections) → IsSomeAnd s (λ s. Fits x.attributes s.sections)
fits_installed None x same keeps = absurd same
fits_installed (Some s) x same keeps = subst (λ a. Fits a s.sections) same keeps

of_pull : (b : Bool) (call : _) (k : _) (lent : Lent) (y : Option Replica) → ReplicaMayBeAsked b (requests.Pull call k) lent y → IfSome y (λ x. Fits x.attributes x.sections) → ReplicaFits b (requests.Pull call k) lent y
of_pull false call k lent y may keeps = tt
of_pull true call k lent None may keeps = absurd may
of_pull true call k lent (Some x) may keeps = record { ready = may.ready; room = may.room; beside = fits_pulled lent.snap x may.beside keeps }

of_install : (b : Bool) (call : _) (k : _) (lent : Lent) (y : Option Replica) → ReplicaMayBeAsked b (requests.Install call k) lent y → IfSome lent.snap (λ s. Fits s.attributes s.sections) → ReplicaFits b (requests.Install call k) lent y
of_install false call k lent y may keeps = tt
of_install true call k lent None may keeps = absurd may
of_install true call k lent (Some x) may keeps = record { ready = may.ready; room = may.room; beside = fits_installed lent.snap x may.beside keeps }

of_other : (b : Bool) (request : Request) (lent : Lent) (y : Option Replica) → ((x : Replica) → IsLentFor request lent x → HasLent request lent x) → ReplicaMayBeAsked b request lent y → ReplicaFits b request lent y
of_other false request lent y same may = tt
of_other true request lent None same may = absurd may
of_other true request lent (Some x) same may = record { ready = may.ready; room = may.room; beside = same x may.beside }

-- so it is of any request
pub fits_that_comes : (R : RecordState) (n : NodeState) (request : Request) (lent : Lent) → MayCome R n request lent → KeepsToDeclared request n lent → RequestFits (seen_for R n request) n request lent
fits_that_comes R n (requests.Reserve k) lent may keeps = may
fits_that_comes R n (requests.Pull call k) lent may keeps = of_pull (is_complete (seen_from R n k)) call k lent (find_key replica_key k n.replicas) may keeps
fits_that_comes R n (requests.Install call k) lent may keeps = of_install (is_complete (seen_from R n k)) call k lent (find_key replica_key k n.replicas) may keeps
fits_that_comes R n request lent may keeps = of_other (is_complete (seen_for R n request)) request lent (find_key replica_key (ckpt_of request) n.replicas) (λ x is. is) may
