-- What the code relies on of what is due of a call.
use Rattle.std.proofs.Common.{◌<◌}
use Rattle.std.specs.Prelude.{IsSome}
use Rattle.node_msgs.specs.declared.requests.Request.{Request}
use Rattle.node_msgs.specs.declared.requests.Request.TheVariants as requests
use Rattle.node_msgs.specs.declared.next.Next.{Next}
use Rattle.node_msgs.specs.declared.next.Next.TheVariants.{Serve, Event, End}
use Rattle.ckpt_types.specs.Asks.{update_of}
use Rattle.ckpt_machine.specs.Drivers.{Driver}
use Rattle.ckpt_machine.specs.Machine.{Machine, CallState}
use Rattle.ckpt_machine.specs.Facts.{IsServable, IsEventReady, IsStarting, IsGoingOn, HasCopyRoom}
use Rattle.replica.specs.Replicas.{IsWrite}
use Rattle.ckpt_machine.proofs.UpdateReady.{HasMoment, HasStaged}

-- what it relies on of a weak write that begins, of an iteration that is started, and of one that goes on; and of a pull and an installation
abbrev pub IsFor : Machine → CallState → Request → Type 0
IsFor m s (requests.Mark call k) = IsWrite (update_of s.op)
IsFor m s (requests.Iterate call k choice) = IsStarting m s k choice
IsFor m s (requests.Next call k) = IsGoingOn m s
IsFor m s (requests.Pull call k) = HasCopyRoom m s k
IsFor m s (requests.Install call k) = HasCopyRoom m s k × IsSome s.snapshot
IsFor m s request = Unit {0}

-- what the code relies on of what is due
abbrev pub IsDueReady : Machine → CallState → Driver → Next → Type 0
IsDueReady m s d (Serve r request) = (r < 8) × IsServable m r request × HasMoment m r request × HasStaged m s r request × IsFor m s request
IsDueReady m s d (Event step) = IsEventReady m s d step
IsDueReady m s d (End o) = Unit {0}
