-- More than 736 steps are left of no call.
use Rattle.std.proofs.Common.{◌≤◌, arith}
use Rattle.ckpt_machine.specs.Drivers.{Driver}
use Rattle.ckpt_machine.specs.Drivers as drivers
use Rattle.ckpt_machine.specs.Left.{most_steps}

-- whatever drives it
pub most_steps-few : (d : Driver) → most_steps d ≤ 736
most_steps-few (drivers.Update u) = omega arith
most_steps-few (drivers.Once x) = omega arith
most_steps-few (drivers.Open o) = omega arith
most_steps-few (drivers.Active a) = omega arith
most_steps-few (drivers.Sync s) = omega arith
most_steps-few (drivers.Copy c) = omega arith
