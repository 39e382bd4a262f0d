-- Calls that are gone: their clients are, and what they have staged stays.
use Rattle.std.specs.Prelude.{◌≡◌, ◌<◌, Some, Bool, true, false}
use Rattle.ckpt_types.specs.declared.identities.CallId.{CallId}
use Rattle.ckpt_types.specs.declared.identities.Who.{Who}
use Rattle.cluster_record.specs.DueOnce.{OneStep}
use Rattle.cluster_record.specs.DueOnce as once
use Rattle.cluster_record.specs.RecordState.{is_live}
use Rattle.ckpt_machine.specs.Drivers.{Driver}
use Rattle.ckpt_machine.specs.Drivers as drivers
use Rattle.ckpt_machine.specs.Machine.{Machine, CallState}
use Rattle.ckpt_machine.specs.Due.{driver_of}

-- an Initialize becomes live, and all other calls of one step are of a client that is
abbrev pub enters : OneStep → Bool
enters (once.Enter r) = true
enters once.Leave = false
enters (once.Close k) = false
enters (once.Unlink name) = false
enters (once.Retain k duration) = false

-- an Initialize
abbrev pub is_enter : Driver → Bool
is_enter (drivers.Once x) = enters x
is_enter (drivers.Open o) = false
is_enter (drivers.Update u) = false
is_enter (drivers.Active a) = false
is_enter (drivers.Sync u) = false
is_enter (drivers.Copy c) = false

-- the call was begun and is not live, nor will it be when its client becomes live by a call that is in hand, or by a later one
pub record IsDead (m : Machine) (call : CallId) : Type 0 where
  pub begun : call.number < m.next call.actor
  pub gone : is_live m.cluster call ≡ false
  pub before : (w : Who) (s : CallState) → m.in_hand w ≡ Some s → s.call.actor ≡ call.actor → is_enter (driver_of s) ≡ true → call.number < s.call.number
