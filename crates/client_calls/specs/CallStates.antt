-- What drives each kind of call, as contracts see it.
use Rattle.cluster_record.specs.DueOnce as once
use Rattle.ckpt_machine.specs.Drivers.{Driver}
use Rattle.ckpt_machine.specs.Drivers as drivers
use Rattle.client_calls.specs.declared.drivers.DriverKind.{DriverKind}
use Rattle.client_calls.specs.declared.drivers.DriverKind.TheVariants as kinds
use Rattle.client_calls.specs.declared.one_step.OneStep.{OneStep}
use Rattle.client_calls.specs.declared.one_step.OneStep.TheVariants as steps
use Rattle.std.specs.Prelude.{ℕ, Option, Some, None}
use Rattle.ckpt_machine.specs.Drivers as drivers

-- what a call of one step does
abbrev pub step_in : OneStep → once.OneStep
step_in (steps.Enter r) = once.Enter r
step_in steps.Leave = once.Leave
step_in (steps.Close k) = once.Close k
step_in (steps.Unlink name) = once.Unlink name
step_in (steps.Retain k duration) = once.Retain k duration

-- what drives a call, by its kind
abbrev pub driver_in : DriverKind → Driver
driver_in (kinds.Once step) = drivers.Once (step_in step)
driver_in (kinds.Open o) = drivers.Open o
driver_in (kinds.Update u) = drivers.Update u
driver_in (kinds.Active a) = drivers.Active a
driver_in (kinds.Sync s) = drivers.Sync s

-- the checkpoint of a call that synchronizes it, or sets its active
abbrev pub synchronized_by : Driver → Option ℕ
synchronized_by (drivers.Sync u) = Some u.ckpt
synchronized_by driver = None
