-- What a call lends to a request, and what becomes of the iteration that travels beside it.
use Rattle.std.specs.Prelude.{◌≡◌, ◌-◌, ◌^◌, ◌<◌, Option, Some, None, IsSome, IsSomeAnd, true}
use Rattle.ckpt_types.specs.Limits.{places_max}
use Rattle.ckpt_types.specs.declared.operation.Op.{Op}
use Rattle.ckpt_types.specs.Asks.{Ask, asked, update_of, elements_of, IsBuilt}
use Rattle.ckpt_types.specs.Asks as asks
use Rattle.section_iter.specs.KeptIds.{KeptIds}
use Rattle.client_handles.specs.ClientState.{ClientState, iteration_at, has_iteration_room, lent, returned, IsLent, IsNotLent, IsValid}
use Rattle.node_msgs.specs.declared.requests.Request.{Request}
use Rattle.node_msgs.specs.declared.requests.Request.TheVariants as requests
use Rattle.node_msgs.specs.declared.replies.Reply.{Reply}
use Rattle.node_msgs.specs.declared.replies.Reply.TheVariants as replies
use Rattle.node_core.specs.declared.lent.Lent.{Lent}
use Rattle.node_core.specs.Lending.{HasRoomToRead, HasRoomToTell}
use Rattle.ckpt_machine.specs.Tables.{kept_asked, started}
use Rattle.client_calls.specs.declared.in_hand.InHand.{InHand}
use Rattle.client_calls.specs.TableState.{TableState, with_client}

-- ---- what is made before the step

-- a share of the call's update, with room for the identifier that it tells where it is made at once
pub record IsLentUpdate (op : Op) (lent : Lent) : Type 0 where
  pub update : lent.update ≡ Some (update_of op)
  pub room : HasRoomToTell (update_of op) lent.read

-- the elements of a read, with an empty buffer that has room for what they may give
pub record IsLentRead (op : Op) (lent : Lent) : Type 0 where
  pub vector : lent.vector ≡ Some (elements_of op)
  pub room : IsSomeAnd lent.read (HasRoomToRead (elements_of op))

-- a share of the call's update, that with room for the identifier that it tells where it is made at once, what a read wants, a place for a status, or one
-- for a section
abbrev pub IsLentBy : Op → Request → Lent → Type 0
IsLentBy op (requests.Stage call k t) lent = lent.update ≡ Some (update_of op)
IsLentBy op (requests.Apply call k) lent = IsLentUpdate op lent
IsLentBy op (requests.Mark call k) lent = lent.update ≡ Some (update_of op)
IsLentBy op (requests.Read k) lent = IsLentRead op lent
IsLentBy op (requests.Status k) lent = IsSome lent.status
IsLentBy op (requests.Next call k) lent = IsSome lent.section
IsLentBy op request lent = Unit {0}

-- ---- an iteration

-- the iteration of a place is there, and not lent
abbrev pub IsGoingOnWith : Ask → ClientState → Type 0
IsGoingOnWith (asks.Next iteration) t = (iteration < places_max) × IsSome (iteration_at iteration t) × IsNotLent iteration t
IsGoingOnWith ask t = ⊥

-- the iteration of a place is out
abbrev pub IsOutOf : Ask → ClientState → Type 0
IsOutOf (asks.Next iteration) t = (iteration < places_max) × IsLent iteration t
IsOutOf ask t = ⊥

-- the one that goes with a request: the room that the call has in hand for one that starts, or the one with which it goes on
abbrev pub iteration_lent : Request → InHand → ClientState → Option KeptIds
iteration_lent (requests.Iterate call k choice) h t = h.iteration
iteration_lent (requests.Next call k) h t = kept_asked (asked h.op) t
iteration_lent request h t = None

-- the call in hand without the iteration that goes with a request: it has no room of its own any more where one starts
abbrev pub hand_lending : Request → InHand → InHand
hand_lending (requests.Iterate call k choice) h = record h { iteration = None }
hand_lending request h = h

-- the iteration with which a call goes on is out
abbrev pub lending : Ask → ClientState → ClientState
lending (asks.Next iteration) t = lent iteration t
lending ask t = t

-- the client's table without the iteration that goes with a request
abbrev pub table_lending : Request → Op → TableState → TableState
table_lending (requests.Next call k) op t = with_client (lending (asked op)) t
table_lending request op t = t

-- an iteration that was started is the client's from then on
abbrev pub table_started : Op → Reply → KeptIds → TableState → TableState
table_started op (replies.Done answer) kept t = with_client (started (asked op) kept.room (λ choice. kept.ids)) t
table_started op reply kept t = t

-- one that went on comes back to its place
abbrev pub come_back : Ask → KeptIds → ClientState → ClientState
come_back (asks.Next iteration) kept t = returned iteration kept t
come_back ask kept t = t

-- the client's table behind the reply to a request, with the iteration that came back with it
abbrev pub table_keeping : Request → Op → Reply → Option KeptIds → TableState → TableState
table_keeping request op reply None t = t
table_keeping (requests.Iterate call k choice) op reply (Some kept) t = table_started op reply kept t
table_keeping (requests.Next call k) op reply (Some kept) t = with_client (come_back (asked op) kept) t
table_keeping request op reply (Some kept) t = t

-- what a client keeps is valid, where an iteration of it goes out
abbrev pub IsValidFor : Request → ClientState → Type 0
IsValidFor (requests.Next call k) t = IsValid t
IsValidFor request t = Unit {0}

-- an iteration that goes out is in its place
abbrev pub CanLend : Request → Op → ClientState → Type 0
CanLend (requests.Next call k) op t = IsGoingOnWith (asked op) t
CanLend request op t = Unit {0}

-- an iteration that comes back is out, and one that starts has a free place
abbrev pub CanKeep : Request → Op → ClientState → Type 0
CanKeep (requests.Iterate call k choice) op t = IsBuilt op × (has_iteration_room t ≡ true) × (t.last_iteration < 2 ^ 32 - 1)
CanKeep (requests.Next call k) op t = IsOutOf (asked op) t
CanKeep request op t = Unit {0}
