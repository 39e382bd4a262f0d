use Rattle.std.proofs.Common.{◌≡◌, ◌+◌, ◌<◌, [], ◌∷◌, length, sym, ap, ◌∙◌, arith, length-append}
use Rattle.world_core.specs.HandsState.{hand_at}
use Rattle.world_core.specs.StepsLeft.{left_of}
use Rattle.session_run.proofs.Following.{IfSome-held, step_grows, GrowsBy-label, GrowsBy-end, none_if_not, finish_of_none}
use Rattle.session_run.proofs.Fronts.{towards_end, towards_finish}
use Rattle.session_run.proofs.calls.finish.Goals as goal

pub step-requires-clause-room : goal.step-requires-clause-room
step-requires-clause-room g c = omega (arith, c.stepping.invariant.few, c.requires.room)

pub stepping-smaller : goal.stepping-smaller
stepping-smaller g c = IfSome-held (hand_at (g.W.Cluster.shown c.stepping.world).hands c.args.who) (sym c.in_hand.ensures ∙ c.stepping-test.true) c.in_ok-step.ensures.nearer

pub stepping-preserved : goal.stepping-preserved
stepping-preserved g c =
    let h = c.in_ok-step.ensures.happens in
    let held = sym c.in_hand.ensures ∙ c.stepping-test.true in
    let grows = step_grows c.args.who (hand_at (g.W.Cluster.shown c.stepping.world).hands c.args.who) (g.W.Cluster.shown c.stepping.world) (g.W.Cluster.shown c.step.new.world) h.label h.answers held in
    let nearer : left_of (g.W.Cluster.shown c.step.new.world) c.args.who < left_of (g.W.Cluster.shown c.stepping.world) c.args.who = IfSome-held (hand_at (g.W.Cluster.shown c.stepping.world).hands c.args.who) held c.in_ok-step.ensures.nearer in
    let longer : length c.step.new.log.labels ≡ length c.stepping.log.labels + 1 = ap length h.grows ∙ length-append c.stepping.log.labels (h.label ∷ []) in
    record {
      run = c.step.ensures.run;
      few = omega (arith, c.stepping.invariant.few, nearer);
      moment = h.moment ∙ c.stepping.invariant.moment;
      steps = λ more f. GrowsBy-label c.args.log.now.labels c.stepping.log.labels c.step.new.log.labels h.label more h.grows (c.stepping.invariant.steps (h.label ∷ more) (grows more f));
    }

pub returns-clause-steps : goal.returns-clause-steps
returns-clause-steps g c =
    GrowsBy-end c.args.log.now.labels c.stepping.log.labels (c.stepping.invariant.steps [] (finish_of_none (hand_at (g.W.Cluster.shown c.stepping.world).hands c.args.who) (none_if_not (hand_at (g.W.Cluster.shown c.stepping.world).hands c.args.who) (sym c.in_hand.ensures ∙ c.stepping-test.false))))

pub returns-clause-front : goal.returns-clause-front
returns-clause-front g c =
    towards_end c.args.log.now.labels c.stepping.log.labels
    (GrowsBy-end c.args.log.now.labels c.stepping.log.labels (c.stepping.invariant.steps [] (finish_of_none (hand_at (g.W.Cluster.shown c.stepping.world).hands c.args.who) (none_if_not (hand_at (g.W.Cluster.shown c.stepping.world).hands c.args.who) (sym c.in_hand.ensures ∙ c.stepping-test.false)))))

pub returns-in_err-step-clause-front : goal.returns-in_err-step-clause-front
returns-in_err-step-clause-front g c =
    towards_finish c.args.log.now.labels c.stepping.log.labels c.step.new.log.labels (hand_at (g.W.Cluster.shown c.stepping.world).hands c.args.who) c.in_err-step.ensures.err c.stepping.invariant.steps
