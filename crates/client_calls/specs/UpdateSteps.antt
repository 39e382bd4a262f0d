-- The steps of an update, one by one.
use Rattle.std.specs.Prelude.{Bool, true, false}
use Rattle.ckpt_types.specs.declared.update.Update.{Update}
use Rattle.ckpt_types.specs.declared.update.Update.TheVariants as updates
use Rattle.ckpt_machine.specs.Drivers.{Driver}
use Rattle.ckpt_machine.specs.Drivers as drivers

-- the driver is that of an update
abbrev pub IsUpdate : Driver → Type 0
IsUpdate (drivers.Update u) = Unit {0}
IsUpdate driver = ⊥

-- an update that makes a section
abbrev pub is_creation : Update → Bool
is_creation (updates.Create new expiration bytes) = true
is_creation update = false
