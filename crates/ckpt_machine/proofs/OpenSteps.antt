-- The next step of an open, by what it is making.
use Rattle.std.proofs.Common.{◌≡◌, ℕ, Option, Some, None, refl, sym, subst}
use Rattle.cluster_record.specs.declared.calls.Making.{Making}
use Rattle.cluster_record.specs.DueOpen.{OpenState, by_making}
use Rattle.ckpt_machine.specs.Drivers as drivers
use Rattle.ckpt_machine.specs.Machine.{Machine, CallState, who}
use Rattle.ckpt_machine.specs.Due.{Told, IsDone, due, driver_of, rooms_of}
use Rattle.ckpt_machine.specs.Driving.{driver_next}
use Rattle.ckpt_machine.specs.Shape.{Shape}
use Rattle.ckpt_machine.specs.Invariant.{InvariantIn}
use Rattle.ckpt_machine.proofs.OpenAsking.{asking_goes}
use Rattle.ckpt_machine.proofs.OpenMaking.{making_goes}
use Rattle.ckpt_machine.proofs.DueStep.{Goes}

-- the next step of an open
pub open_goes : (m : Machine) (shapes : ℕ → Shape) (inv : InvariantIn shapes m) (s : CallState) (o : OpenState) → m.in_hand (who s) ≡ Some s → driver_of s ≡ drivers.Open o → (t : Told) → IsDone m s (due m s) t → Goes m s (driver_of s) t
open_goes m shapes inv s o held is t done = by_making_of o.making is (subst (λ d. IsDone m s (driver_next m.cluster (rooms_of m s) d) t) is done)
  where
    by_making_of : (w : Option Making) → driver_of s ≡ drivers.Open (record { call = o.call; ask = o.ask; deadline = o.deadline; making = w }) → IsDone m s (by_making m.cluster (rooms_of m s).handles (record { call = o.call; ask = o.ask; deadline = o.deadline; making = w }) w) t → Goes m s (driver_of s) t
    by_making_of None at done = subst (λ d. Goes m s d t) (sym at) (asking_goes m shapes inv s held o.call o.ask o.deadline at (rooms_of m s).handles t refl done)
    by_making_of (Some w) at done = subst (λ d. Goes m s d t) (sym at) (making_goes m shapes inv s held o.call o.ask o.deadline w at t done)
