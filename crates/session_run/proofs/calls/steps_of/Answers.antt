use Rattle.std.proofs.Common.{◌≤◌, false, sym, ◌∙◌, arith}
use Rattle.world_core.specs.HandsState.{hand_at}
use Rattle.world_core.specs.StepsLeft.{left_of}
use Rattle.world_core.proofs.MostLeft.{few_of_any}
use Rattle.session_run.proofs.Following.{are_stepping, idle_alone, none_if_not, OnOk-map, GrowsBy-map}
use Rattle.session_run.proofs.Fronts.{towards_idle, towards_map, fault_leaves}
use Rattle.session_run.proofs.calls.steps_of.Goals as goal

-- ---- nothing is in hand under the name

pub returns-then-not-in_hand-clause-answers : goal.returns-then-not-in_hand-clause-answers
returns-then-not-in_hand-clause-answers g c =
    let none = none_if_not (hand_at (g.W.Cluster.shown c.args.world.now).hands c.args.who) (sym c.in_hand.ensures ∙ c.if-not-in_hand.true) in
    OnOk-map c.event.result c.event.ensures.happens (λ h. idle_alone c.args.who false _ (g.W.Cluster.shown c.args.world.now) (g.W.Cluster.shown c.event.new.self) c.args.log.now.labels c.event.new.log.labels c.requires.run none h)

pub returns-then-not-in_hand-clause-front : goal.returns-then-not-in_hand-clause-front
returns-then-not-in_hand-clause-front g c =
    let none = none_if_not (hand_at (g.W.Cluster.shown c.args.world.now).hands c.args.who) (sym c.in_hand.ensures ∙ c.if-not-in_hand.true) in
    towards_idle c.event.result c.args.who false _ (g.W.Cluster.shown c.args.world.now) (g.W.Cluster.shown c.event.new.self) c.args.log.now.labels c.event.new.log.labels c.requires.run none c.event.ensures.happens (fault_leaves _ _ c.event.result c.event.ensures.err)

-- ---- a call is

pub steps-requires-clause-room : goal.steps-requires-clause-room
steps-requires-clause-room g c =
    let few : left_of (g.W.Cluster.shown c.args.world.now) c.args.who ≤ 736 = few_of_any c.world_law.ensures.few (g.W.Cluster.shown c.args.world.now) c.args.log.now.labels c.args.who c.requires.run in
    omega (arith, few, c.requires.room)

pub returns-clause-few : goal.returns-clause-few
returns-clause-few g c =
    let few : left_of (g.W.Cluster.shown c.args.world.now) c.args.who ≤ 736 = few_of_any c.world_law.ensures.few (g.W.Cluster.shown c.args.world.now) c.args.log.now.labels c.args.who c.requires.run in
    omega (arith, few, c.steps.ensures.few)

pub returns-clause-answers : goal.returns-clause-answers
returns-clause-answers g c =
    let held = sym c.in_hand.ensures ∙ c.if-not-in_hand.false in
    OnOk-map c.steps.result c.steps.ensures.steps (λ f. GrowsBy-map c.args.log.now.labels c.steps.new.log.labels f (are_stepping (g.W.Cluster.shown c.args.world.now) c.args.log.now.labels c.args.who c.args.most c.requires.run held))

pub returns-clause-front : goal.returns-clause-front
returns-clause-front g c =
    let held = sym c.in_hand.ensures ∙ c.if-not-in_hand.false in
    towards_map c.args.log.now.labels c.steps.new.log.labels c.steps.ensures.front (are_stepping (g.W.Cluster.shown c.args.world.now) c.args.log.now.labels c.args.who c.args.most c.requires.run held)
