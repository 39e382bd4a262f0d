-- The law: what is due is allowed, and leaves the invariant; of several nodes, and any number of calls in hand.
use Rattle.std.proofs.Common.{◌≡◌, Some, None, true, false, refl, sym, subst}
use Rattle.run_labels.specs.declared.labels.Label.TheVariants as labels
use Rattle.ckpt_machine.specs.Drivers.{Driver}
use Rattle.ckpt_machine.specs.Drivers as drivers
use Rattle.ckpt_machine.specs.Driving.{driver_next}
use Rattle.ckpt_machine.specs.Machine.{Machine, CallState, who}
use Rattle.ckpt_machine.specs.Propagation.{source_at, target_at}
use Rattle.ckpt_machine.specs.After.{step_of}
use Rattle.ckpt_machine.specs.Due.{Told, IsDone, driver_of, rooms_of}
use Rattle.ckpt_machine.specs.Invariant.{Invariant}
use Rattle.ckpt_machine.specs.Laws.{IsLawful}
use Rattle.ckpt_machine.proofs.Active.{active_goes}
use Rattle.ckpt_machine.proofs.Beginnings.{begin_keeps}
use Rattle.ckpt_machine.proofs.BeginRows.{begin_row, word_row}
use Rattle.ckpt_machine.proofs.CopyMoves.{copy_goes}
use Rattle.ckpt_machine.proofs.BroughtUp.{nodes_keep}
use Rattle.ckpt_machine.proofs.SettingActive.{sync_goes}
use Rattle.ckpt_machine.proofs.JoinedNodes.{joins_keep}
use Rattle.ckpt_machine.proofs.Moment.{moved_keeps}
use Rattle.ckpt_machine.proofs.OneStepCalls.{once_goes}
use Rattle.ckpt_machine.proofs.Propagated.{pull_keeps, put_keeps}
use Rattle.ckpt_machine.proofs.Update.{update_goes}
use Rattle.ckpt_machine.proofs.DueStep.{Goes}
use Rattle.ckpt_machine.proofs.FailureLaw.{failures_keep}
use Rattle.ckpt_machine.proofs.Dropped.{held_as}
use Rattle.ckpt_machine.proofs.EndedAsync.{told_keeps}
use Rattle.ckpt_machine.proofs.OwnCheckpoint.{own_step}
use Rattle.ckpt_machine.proofs.OpenSteps.{open_goes}

-- ---- a due step of a call in hand

module _ (m : Machine) (inv : Invariant m) (s : CallState) (held : m.in_hand (who s) ≡ Some s) (t : Told) where
  -- it is allowed, with the invariant after it, and its call comes nearer to its end
  pub driver_goes : (d : Driver) → driver_of s ≡ d → IsDone m s (driver_next m.cluster (rooms_of m s) d) t → Goes m s (driver_of s) t
  driver_goes (drivers.Once x) is done = once_goes m inv.shapes inv.holds s x held is t done
  driver_goes (drivers.Open o) is done = open_goes m inv.shapes inv.holds s o held is t (subst (λ d. IsDone m s (driver_next m.cluster (rooms_of m s) d) t) (sym is) done)
  driver_goes (drivers.Update u) is done = subst (λ d. Goes m s d t) (sym is) (update_goes m inv.shapes inv.holds s u held is t done)
  driver_goes (drivers.Active a) is done = active_goes m inv.shapes inv.holds s a.call a.ckpt held a.kind a.marks is (rooms_of m s) t refl done
  driver_goes (drivers.Sync u) is done = sync_goes m inv.shapes inv.holds s u held is t done
  driver_goes (drivers.Copy c) is done = subst (λ d. Goes m s d t) (sym is) (copy_goes m inv.shapes inv.holds s c held is t done)

-- ---- the law

-- what is due is allowed, and leaves the invariant
pub lawful : IsLawful
lawful m (labels.Began call op end details) inv is = (begin_row m call op end details is, begin_keeps m inv.shapes inv.holds call is.number op end details is)
lawful m (labels.Stepped call op verb k r reply end details) inv step =
    let told : Told = record { verb = verb; ckpt = k; node = r; reply = reply; end = end; details = details } in
    let held : m.in_hand (who step.state) ≡ Some step.state = held_as m call op step.state step.in_hand step.call_is step.word in
    let goes = driver_goes m inv step.state held told (driver_of step.state) refl step.done in
    let own = own_step m inv.shapes step.state (rooms_of m step.state) told (inv.holds.hands (who step.state) step.state held).here step.done in (
      record { state = step.state; in_hand = step.in_hand; call_is = step.call_is; word = step.word; own = own; row = goes.row },
      subst (λ o. Invariant (step_of m o verb k r reply end)) (sym step.in_hand) (told_keeps m inv step.state held told goes.holds),
    )
lawful m (labels.Word who word said) inv is = (word_row m who word said is, inv)
lawful m (labels.Nodes n) inv is = (is, record { shapes = inv.shapes; holds = nodes_keep m inv.shapes inv.holds n is.2 (inv.holds.first_up is.2) })
lawful m (labels.Moved t) inv is = (is, moved_keeps m t inv)
lawful m (labels.Failed r true) inv is = (is, failures_keep m r inv is.1)
lawful m (labels.Failed r false) inv is = (is, inv)
lawful m (labels.Joined r (Some incarnation)) inv is = (is, joins_keep m r incarnation inv is)
lawful m (labels.Joined r None) inv is = (is, inv)
lawful m (labels.Shown k replicas) inv is = (is, inv)
lawful m (labels.Pulled k reply) inv is = (is, record { shapes = inv.shapes; holds = pull_keeps m inv.shapes inv.holds k reply (source_at m k) })
lawful m (labels.Put k r reply) inv is = (is, record { shapes = inv.shapes; holds = put_keeps m inv.shapes inv.holds k r reply (m.snapshots k) (target_at m k r) refl is })
