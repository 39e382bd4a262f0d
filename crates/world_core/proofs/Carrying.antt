-- What a call lends to a request carries what the request uses, as the machine's call does.
use Rattle.std.proofs.Common.{◌≡◌, ℕ, List, refl, sym, ap, subst}
use Rattle.std.specs.Prelude.{Option, Some, None, IfSome, IsSome, IsSomeAnd}
use Rattle.ckpt_types.specs.Asks.{asked, update_of, elements_of}
use Rattle.client_handles.specs.ClientState.{ClientState}
use Rattle.section_iter.specs.KeptIds.{KeptIds}
use Rattle.section_iter.specs.Room.{IsRoomFor}
use Rattle.node_msgs.specs.declared.requests.Request.{Request}
use Rattle.node_msgs.specs.declared.requests.Request.TheVariants as requests
use Rattle.node_msgs.specs.Requests.{ckpt_of}
use Rattle.replica.specs.Replicas.{Replica, IsWrite}
use Rattle.node_core.specs.declared.lent.Lent.{Lent}
use Rattle.node_core.specs.Lending.{HasRoomToRead, HasRoomToTell, HasRoomToCommit}
use Rattle.node_core.specs.Payloads.{Payload, payload_of, update_or, elements_or, ids_or}
use Rattle.ckpt_machine.specs.Tables.{ids_of, kept_asked}
use Rattle.client_calls.specs.declared.in_hand.InHand.{InHand}
use Rattle.ckpt_machine.specs.Asking.{IsLentFor}
use Rattle.ckpt_machine.specs.Nodes.{replica_in}
use Rattle.world_core.specs.CommitLending.{IsLentAt}
use Rattle.client_calls.specs.Lending.{IsLentBy, iteration_lent}
use Rattle.ckpt_machine.proofs.Carried.{Carries, GoesToReplica}

-- ---- what is lent

-- what travels beside a request of the call in hand
abbrev pub payload_with : InHand → ClientState → Payload
payload_with hand t = record { update = update_of hand.op; elements = elements_of hand.op; ids = ids_of (kept_asked (asked hand.op) t); snapshot = hand.snapshot }

ids_same : (kept : Option KeptIds) → ids_or kept ≡ ids_of kept
ids_same None = refl
ids_same (Some kept) = refl

-- what is lent, with the iteration that goes with the request, and the room for a snapshot
abbrev pub lent_with : Request → InHand → ClientState → Lent → Lent
lent_with request hand t lent = record lent { iteration = iteration_lent request hand t; snap = hand.snapshot }

-- it is carried by what is lent
pub lent_carries : (request : Request) (hand : InHand) (t : ClientState) (lent : Lent) → IsLentBy hand.op request lent → Carries request (payload_of (lent_with request hand t lent)) (payload_with hand t)
lent_carries (requests.Stage call k time) hand t lent is = ap update_or is
lent_carries (requests.Apply call k) hand t lent is = ap update_or is.update
lent_carries (requests.Mark call k) hand t lent is = ap update_or is
lent_carries (requests.Read k) hand t lent is = ap elements_or is.vector
lent_carries (requests.Next call k) hand t lent is = ids_same (kept_asked (asked hand.op) t)
lent_carries (requests.Install call k) hand t lent is = refl
lent_carries request hand t lent is = tt

-- what a request uses of the call's own: marks are of a write, an iteration has room for all identifiers or is there, and a snapshot was reserved for what is declared
abbrev pub IsOfCall : Request → InHand → ClientState → Replica → Type 0
IsOfCall (requests.Mark call k) hand t x = IsWrite (update_of hand.op)
IsOfCall (requests.Iterate call k choice) hand t x = IsSomeAnd hand.iteration (λ kept. IsRoomFor x.attributes kept.room)
IsOfCall (requests.Next call k) hand t x = IsSome (kept_asked (asked hand.op) t)
IsOfCall (requests.Pull call k) hand t x = IsSomeAnd hand.snapshot (λ s. s.attributes ≡ x.attributes)
IsOfCall (requests.Install call k) hand t x = IsSomeAnd hand.snapshot (λ s. s.attributes ≡ x.attributes)
IsOfCall request hand t x = Unit {0}

-- and to a commit room for the identifier that it tells of what is staged on the replica
abbrev pub IsLentOn : Request → Lent → Replica → Type 0
IsLentOn (requests.Commit call k) lent x = HasRoomToCommit x.slot lent.read
IsLentOn request lent x = Unit {0}

-- the replica is the one that its node has
pub lent_on : (nodes : List (List Replica)) (r : ℕ) (request : Request) (lent : Lent) (x : Replica) → replica_in nodes (ckpt_of request) r ≡ Some x → IsLentAt nodes r request lent → IsLentOn request lent x
lent_on nodes r (requests.Commit call k) lent x there is = subst (λ (o : Option Replica). IfSome o (λ x. HasRoomToCommit x.slot lent.read)) there is
lent_on nodes r request lent x there is = tt

-- then all that the request uses is lent
pub has_lent : (request : Request) (hand : InHand) (t : ClientState) (lent : Lent) (x : Replica) → GoesToReplica request → IsLentBy hand.op request lent → IsLentOn request lent x → IsOfCall request hand t x → IsLentFor request (lent_with request hand t lent) x
has_lent (requests.Stage call k time) hand t lent x goes is on own = subst (λ o. IsSome o) (sym is) refl
has_lent (requests.Commit call k) hand t lent x goes is on own = on
has_lent (requests.Apply call k) hand t lent x goes is on own = subst (λ o. IsSomeAnd o (λ update. HasRoomToTell update lent.read)) (sym is.update) is.room
has_lent (requests.Mark call k) hand t lent x goes is on own = subst (λ o. IsSomeAnd o IsWrite) (sym is) own
has_lent (requests.Read k) hand t lent x goes is on own = subst (λ o. IsSomeAnd o (λ elements. IsSomeAnd lent.read (HasRoomToRead elements))) (sym is.vector) is.room
has_lent (requests.Status k) hand t lent x goes is on own = is
has_lent (requests.Iterate call k choice) hand t lent x goes is on own = own
has_lent (requests.Next call k) hand t lent x goes is on own = (own, is)
has_lent (requests.Pull call k) hand t lent x goes is on own = own
has_lent (requests.Install call k) hand t lent x goes is on own = own
has_lent request hand t lent x goes is on own = tt
