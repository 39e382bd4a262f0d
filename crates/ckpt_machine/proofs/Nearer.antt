-- A due step that does not end its call brings it nearer to its end.
use Rattle.std.proofs.Common.{◌≡◌, ◌<◌, Option, Some, None, refl, sym, subst, ◌∙◌}
use Rattle.std.proofs.lemmas.Option.{same_Some}
use Rattle.cluster_record.specs.StepDone.{done_of, counting}
use Rattle.ckpt_machine.specs.Driving.{driver_taken}
use Rattle.ckpt_machine.specs.Left.{steps_left}
use Rattle.ckpt_machine.specs.Machine.{CallState, who}
use Rattle.ckpt_machine.specs.Laws.{BringsNearer}
use Rattle.ckpt_machine.specs.After.{step_of}
use Rattle.ckpt_machine.specs.Due.{counted_at, driver_of}
use Rattle.ckpt_machine.proofs.Lawful.{driver_goes}
use Rattle.ckpt_machine.proofs.Dropped.{held_as}

-- the next step of any call
pub step_nearer : BringsNearer
step_nearer m call op verb k r reply details s inv step here =
    let same : step.state ≡ s = same_Some step.state s (sym step.in_hand ∙ here) in
    let held : m.in_hand (who step.state) ≡ Some step.state = held_as m call op step.state step.in_hand step.call_is step.word in
    let Falls : CallState → Type 0 = λ z. let n = step_of m (Some z) verb k r reply None in steps_left n.cluster n.replicas (driver_taken (counting (counted_at m verb k r reply) (done_of n.cluster verb k r reply)) (driver_of z)) < steps_left m.cluster m.replicas (driver_of z) in
    let falls : Falls step.state = (driver_goes m inv step.state held (record { verb = verb; ckpt = k; node = r; reply = reply; end = None; details = details }) (driver_of step.state) refl step.done).nearer refl in
    subst (λ (o : Option CallState). let n = step_of m o verb k r reply None in steps_left n.cluster n.replicas (driver_taken (counting (counted_at m verb k r reply) (done_of n.cluster verb k r reply)) (driver_of s)) < steps_left m.cluster m.replicas (driver_of s)) (sym here) (subst Falls same falls)
