use Rattle.std.proofs.Common.{◌≡◌, ℕ, suc, ◌+◌, ◌-◌, ◌<◌, [], ◌∷◌, length, sym, ap, subst, ◌∙◌, arith, length-append}
use Rattle.world_core.specs.HandsState.{hand_at}
use Rattle.world_core.specs.StepsLeft.{left_of}
use Rattle.session_run.specs.Growing.{IsStepping}
use Rattle.session_run.proofs.Following.{IfSome-held, stepping_grows, stepping_of_none, stepping_zero, GrowsBy-label, GrowsBy-end, none_if_not}
use Rattle.session_run.proofs.Fronts.{towards_end, towards_stepping}
use Rattle.session_run.proofs.calls.steps.Goals as goal

pub step-requires-clause-room : goal.step-requires-clause-room
step-requires-clause-room g c = omega (arith, c.loop-done.invariant.few, c.requires.room)

-- one of the steps that are left
one_less : (n i : ℕ) → i < n → suc (n - (i + 1)) ≡ n - i
one_less n i more = omega (arith, more)

pub loop-done-preserved : goal.loop-done-preserved
loop-done-preserved g c =
    let h = c.in_ok-step.ensures.happens in
    let w = (g.W.Cluster.shown c.loop-done.world) in
    let who = c.args.who in
    let held = sym c.in_hand.ensures ∙ c.if-not-in_hand.false in
    let nearer : left_of (g.W.Cluster.shown c.step.new.world) who < left_of w who = IfSome-held (hand_at w.hands who) held c.in_ok-step.ensures.nearer in
    let longer : length c.step.new.log.labels ≡ length c.loop-done.log.labels + 1 = ap length h.grows ∙ length-append c.loop-done.log.labels (h.label ∷ []) in
    let left = one_less c.args.most c.loop-done._done c.loop-done-test.true in
    record {
      run = c.step.ensures.run;
      few = omega (arith, c.loop-done.invariant.few, nearer, longer);
      moment = h.moment ∙ c.loop-done.invariant.moment;
      steps = λ more f. GrowsBy-label c.args.log.now.labels c.loop-done.log.labels c.step.new.log.labels h.label more h.grows
          (c.loop-done.invariant.steps (h.label ∷ more)
          (subst (λ n. IsStepping n (hand_at w.hands who) (h.label ∷ more)) left
          (stepping_grows who (c.args.most - (c.loop-done._done + 1)) (hand_at w.hands who) w (g.W.Cluster.shown c.step.new.world) h.label h.answers held more f)));
    }

pub returns-then-not-in_hand-clause-steps : goal.returns-then-not-in_hand-clause-steps
returns-then-not-in_hand-clause-steps g c =
    let none = none_if_not (hand_at (g.W.Cluster.shown c.loop-done.world).hands c.args.who) (sym c.in_hand.ensures ∙ c.if-not-in_hand.true) in
    GrowsBy-end c.args.log.now.labels c.loop-done.log.labels (c.loop-done.invariant.steps [] (stepping_of_none (c.args.most - c.loop-done._done) (hand_at (g.W.Cluster.shown c.loop-done.world).hands c.args.who) none))

pub returns-then-not-in_hand-clause-front : goal.returns-then-not-in_hand-clause-front
returns-then-not-in_hand-clause-front g c = towards_end c.args.log.now.labels c.loop-done.log.labels (returns-then-not-in_hand-clause-steps g c)

pub returns-in_err-step-clause-front : goal.returns-in_err-step-clause-front
returns-in_err-step-clause-front g c =
    let left : 0 < c.args.most - c.loop-done._done = omega (arith, c.loop-done-test.true) in
    towards_stepping c.args.log.now.labels c.loop-done.log.labels c.step.new.log.labels (c.args.most - c.loop-done._done) (hand_at (g.W.Cluster.shown c.loop-done.world).hands c.args.who) left c.in_err-step.ensures.err c.loop-done.invariant.steps

pub returns-clause-steps : goal.returns-clause-steps
returns-clause-steps g c =
    let none : 0 ≡ c.args.most - c.loop-done._done = omega (arith, c.loop-done-test.false) in
    GrowsBy-end c.args.log.now.labels c.loop-done.log.labels
    (c.loop-done.invariant.steps [] (subst (λ n. IsStepping n (hand_at (g.W.Cluster.shown c.loop-done.world).hands c.args.who) []) none (stepping_zero (hand_at (g.W.Cluster.shown c.loop-done.world).hands c.args.who))))

pub returns-clause-front : goal.returns-clause-front
returns-clause-front g c = towards_end c.args.log.now.labels c.loop-done.log.labels (returns-clause-steps g c)
