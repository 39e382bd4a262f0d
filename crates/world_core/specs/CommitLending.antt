-- What is lent to a commit.
use Rattle.std.specs.Prelude.{ℕ, List, IfSome}
use Rattle.node_msgs.specs.declared.requests.Request.{Request}
use Rattle.node_msgs.specs.declared.requests.Request.TheVariants as requests
use Rattle.replica.specs.Replicas.{Replica}
use Rattle.node_core.specs.declared.lent.Lent.{Lent}
use Rattle.node_core.specs.Lending.{HasRoomToCommit}
use Rattle.ckpt_machine.specs.Nodes.{replica_in}

-- to a commit there is lent room for the identifier that it tells of what is staged on the replica of its node, if that has one
abbrev pub IsLentAt : List (List Replica) → ℕ → Request → Lent → Type 0
IsLentAt nodes r (requests.Commit call k) lent = IfSome (replica_in nodes k r) (λ x. HasRoomToCommit x.slot lent.read)
IsLentAt nodes r request lent = Unit {0}
