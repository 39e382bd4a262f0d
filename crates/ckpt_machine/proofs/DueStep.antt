-- What is to be shown of a due step.
use Rattle.std.proofs.Common.{◌≡◌, ◌<◌, None}
use Rattle.ckpt_machine.specs.Drivers.{Driver}
use Rattle.cluster_record.specs.StepDone.{done_of, counting}
use Rattle.ckpt_machine.specs.Driving.{driver_taken}
use Rattle.ckpt_machine.specs.Machine.{Machine, CallState}
use Rattle.ckpt_machine.specs.After.{changed, kept_behind, left_in_hand}
use Rattle.ckpt_machine.specs.Due.{Told, counted_at}
use Rattle.ckpt_machine.specs.Guards.{Row}
use Rattle.ckpt_machine.specs.Left.{steps_left}
use Rattle.ckpt_machine.specs.Invariant.{Invariant}

-- the state after a step of a call, before its client is told of the end of an asynchronous one
abbrev pub after_step : Machine → CallState → Told → Machine
after_step m s t = let behind = changed m s t.verb t.ckpt t.node t.reply in left_in_hand behind (kept_behind m s behind.cluster t.verb t.ckpt t.node t.reply) t.end

-- a due step of the call is allowed, and the invariant holds after it
pub record Moves (m : Machine) (s : CallState) (t : Told) : Type 0 where
  pub row : Row m s t.verb t
  pub holds : Invariant (after_step m s t)

-- and where it goes on, it brings the call nearer to its end
pub record Goes (m : Machine) (s : CallState) (d : Driver) (t : Told) : Type 0 where
  pub row : Row m s t.verb t
  pub holds : Invariant (after_step m s t)
  pub nearer : t.end ≡ None → let n = after_step m s t in steps_left n.cluster n.replicas (driver_taken (counting (counted_at m t.verb t.ckpt t.node t.reply) (done_of n.cluster t.verb t.ckpt t.node t.reply)) d) < steps_left m.cluster m.replicas d
