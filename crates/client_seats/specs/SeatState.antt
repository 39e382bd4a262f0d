-- A seat as its callers see it.
use Rattle.std.specs.Prelude.{ℕ, List, Option}
use Rattle.client_calls.specs.TableState.{TableState}
use Rattle.client_calls.specs.declared.in_hand.InHand.{InHand}
use Rattle.shared_nodes.specs.Trails.{KeptTrail}
use Rattle.shared_nodes.specs.Works.{KeptWork}
use Rattle.snap_copy.specs.Snapshots.{Snapshot}
use Rattle.ticket_word.specs.Seats.{SeatState}

-- a call in hand: the node of its client, how many steps it has made, what its steps lend, and room for snapshots that journals keep
pub record KeptCall : Type 0 where
  pub hand : InHand
  pub home : ℕ
  pub steps : ℕ
  pub work : KeptWork
  pub copies : List Snapshot

-- the seat of a client: what is kept of the client, the node of the call that it had in hand before, if it had one, for how many calls the seat was made,
-- and how many of them are left, its call in hand, its labels with their tickets, and its right to draw more
pub record KeptSeat : Type 0 where
  pub client : ℕ
  pub table : TableState
  pub busy : Option ℕ
  pub made : ℕ
  pub calls : ℕ
  pub call : Option KeptCall
  pub trail : KeptTrail
  pub tickets : SeatState
