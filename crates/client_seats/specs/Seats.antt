-- A client's seat: what its type keeps, and when it may go on.
use Rattle.std.specs.Prelude.{◌≡◌, ℕ, ◌+◌, ◌-◌, ◌*◌, ◌^◌, ◌<◌, ◌≤◌, List, [], ◌∷◌, ◌++◌, length, All, Option, Some, None, IfSome, IsSome, true}
use Rattle.ckpt_types.specs.Asks.{Ask, asked, IsBuilt}
use Rattle.ckpt_types.specs.Asks as asks
use Rattle.ckpt_types.specs.Limits.{client_numbers}
use Rattle.ckpt_types.specs.declared.identities.ActorName.TheVariants.{Client}
use Rattle.ckpt_machine.specs.Drivers.{Driver}
use Rattle.ckpt_machine.specs.Drivers as drivers
use Rattle.ckpt_machine.specs.Driving.{making_in}
use Rattle.client_calls.specs.TableState.{TableState}
use Rattle.client_calls.specs.declared.in_hand.InHand.{InHand}
use Rattle.client_handles.specs.ClientState.{has_handle_room}
use Rattle.run_labels.specs.declared.labels.Label.{Label}
use Rattle.shared_nodes.specs.Trails.{KeptTrail, tickets_of}
use Rattle.shared_nodes.specs.declared.trail.Noted.{Noted}
use Rattle.snap_copy.specs.Snapshots.{Snapshot}
use Rattle.client_seats.specs.Racing.{MayRace}
use Rattle.client_seats.specs.SeatState.{KeptCall, KeptSeat}

-- ---- what its type keeps

-- a call has at most so many steps
abbrev pub steps_max : ℕ
steps_max = 512

-- and so many labels, that of its beginning among them
abbrev pub labels_max : ℕ
labels_max = 513

-- room for snapshots is that for the one that the call has in hand
abbrev pub AreAlike : Option Snapshot → List Snapshot → Type 0
AreAlike None copies = Unit {0}
AreAlike (Some s) copies = All (λ (room : Snapshot). room.attributes ≡ s.attributes) copies

-- an open drives a call that opens
abbrev pub OpensBy : Ask → Driver → Type 0
OpensBy (asks.Open place name flags timeout a) (drivers.Open o) = Unit {0}
OpensBy (asks.Open place name flags timeout a) x = ⊥
OpensBy ask x = Unit {0}

-- a call in hand is its client's, its operation may stand there and is the one for which its work was taken, a step is left to it, and its client can take
-- one handle and one iteration more beside those of the calls to come
pub record IsUnderWay (client calls : ℕ) (table : TableState) (c : KeptCall) : Type 0 where
  pub named : client < client_numbers
  pub actor : c.hand.call.actor ≡ Client client
  pub built : IsBuilt c.hand.op
  pub may : MayRace (asked c.hand.op)
  pub work : c.work.op ≡ c.hand.op
  pub steps : c.steps < steps_max
  pub alike : AreAlike c.hand.snapshot c.copies
  pub handles : table.client.last_number + calls < 2 ^ 32 - 1
  pub iterations : table.client.last_iteration + calls < 2 ^ 32 - 1
  pub opens : OpensBy (asked c.hand.op) c.hand.driver
  pub room : IsSome (making_in c.hand.driver) → has_handle_room table.client ≡ true

-- the room for the client's handles was taken, its numbers last for all the calls that are left, and its call in hand is under way
pub record IsSeatOf (s : KeptSeat) : Type 0 where
  pub roomy : s.table.roomy ≡ true
  pub numbers : s.table.next + s.calls ≤ 2 ^ 32 - 1
  pub handles : s.table.client.last_number + s.calls ≤ 2 ^ 32 - 1
  pub iterations : s.table.client.last_iteration + s.calls ≤ 2 ^ 32 - 1
  pub call : IfSome s.call (IsUnderWay s.client s.calls s.table)

-- ---- its labels

-- a label with its ticket
abbrev pub noted : ℕ → Label → Noted
noted ticket label = record { ticket = ticket; label = label }

-- a trail with one label more
abbrev pub with_label : ℕ → Label → KeptTrail → KeptTrail
with_label ticket label trail = record { notes = trail.notes ++ noted ticket label ∷ []; spare = trail.spare - 1 }

-- how many labels a call in hand may still add
abbrev pub labels_of : Option KeptCall → ℕ
labels_of None = 0
labels_of (Some c) = steps_max - c.steps

-- how many labels the seat may still add
abbrev pub labels_left : KeptSeat → ℕ
labels_left s = labels_max * s.calls + labels_of s.call

-- the seat's tickets are those of its labels, and it has room, and the right to draw, for all the labels that it may still add; it draws no more than it was
-- made for
pub record IsReady (s : KeptSeat) : Type 0 where
  pub tied : s.tickets.tickets ≡ tickets_of s.trail.notes
  pub room : labels_left s ≤ s.trail.spare
  pub may : labels_left s ≤ s.tickets.allowance
  pub sum : length s.tickets.tickets + s.tickets.allowance ≡ labels_max * s.made

-- the same, with a ticket drawn whose label is not there yet
pub record HasDrawn (s : KeptSeat) (ticket : ℕ) : Type 0 where
  pub drawn : s.tickets.tickets ≡ tickets_of s.trail.notes ++ ticket ∷ []
  pub above : All (λ other. other < ticket) (tickets_of s.trail.notes)
  pub left : 0 < labels_left s
  pub room : labels_left s ≤ s.trail.spare
  pub may : labels_left s ≤ s.tickets.allowance + 1
  pub sum : length s.tickets.tickets + s.tickets.allowance ≡ labels_max * s.made
