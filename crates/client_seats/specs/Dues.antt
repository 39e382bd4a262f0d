-- What the call of a seat does next.
use Rattle.std.specs.Prelude.{◌≡◌, ℕ, Option, Some, None, if◌then◌else◌}
use Rattle.cluster_record.specs.Makings.{makings_of}
use Rattle.cluster_record.specs.RecordState.{RecordState, is_up}
use Rattle.ckpt_machine.specs.Driving.{driver_next}
use Rattle.ckpt_machine.specs.Tables.{rooms_in}
use Rattle.node_msgs.specs.declared.next.Next.{Next}
use Rattle.node_msgs.specs.declared.next.Next.TheVariants.{Serve, Event, End}
use Rattle.client_seats.specs.SeatState.{KeptCall, KeptSeat}
use Rattle.client_seats.specs.declared.due.Due.{Due}
use Rattle.client_seats.specs.declared.due.Due.TheVariants as dues

-- what a call does next, by the record and by what its client's tables have a free place for
abbrev pub next_of : RecordState → KeptSeat → KeptCall → Next
next_of R s c = driver_next R (rooms_in (makings_of s.client R.entries) s.table.client) c.hand.driver

-- whose part that is: a node's, the record's, or that of the one who looks at the record
abbrev pub due_by : Next → Due
due_by (Serve r request) = dues.Serve r
due_by (Event step) = dues.Event step
due_by (End outcome) = dues.Look

-- nothing more, where the node of its client is not up
abbrev pub due_of : RecordState → KeptSeat → Option KeptCall → Due
due_of R s None = dues.Gone
due_of R s (Some c) = if is_up c.home R then due_by (next_of R s c) else dues.Gone

-- WHAT IS DUE at a seat
abbrev pub due_in : RecordState → KeptSeat → Due
due_in R s = due_of R s s.call
