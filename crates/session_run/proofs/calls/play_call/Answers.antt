use Rattle.std.proofs.Common.{◌≡◌, ◌+◌, [], ◌∷◌, length, sym, ap, ◌∙◌, arith, length-append}
use Rattle.ckpt_types.specs.declared.identities.ActorName.TheVariants.{Client}
use Rattle.ckpt_types.specs.declared.identities.Who.TheVariants.{Actor}
use Rattle.ckpt_machine.specs.Runs.{last}
use Rattle.world_core.specs.HandsState.{hand_at}
use Rattle.world_core.proofs.MostLeft.{few_of_any}
use Rattle.session_run.proofs.Following.{begin_grows, busy_alone, GrowsBy-begin, OnOk-map, none_if_not}
use Rattle.session_run.proofs.Fronts.{towards_begin, towards_begun, towards_one, could_begin, could_begin-whole}
use Rattle.session_run.proofs.calls.play_call.Goals as goal

-- ---- a call is in hand

pub returns-then-in_hand-clause-answers : goal.returns-then-in_hand-clause-answers
returns-then-in_hand-clause-answers g c =
    let held = sym c.in_hand.ensures ∙ c.if-in_hand.true in
    OnOk-map c.begin.result c.begin.ensures.happens (λ h.
    (h.label ∷ [], h.grows, busy_alone (Client c.args.client) c.args.op.now (g.W.Cluster.shown c.args.world.now) (g.W.Cluster.shown c.begin.new.world) c.args.log.now.labels c.begin.new.log.labels h.label c.requires.run c.begin.ensures.run h.grows h.answers held))

pub returns-then-in_hand-clause-front : goal.returns-then-in_hand-clause-front
returns-then-in_hand-clause-front g c =
    let held = sym c.in_hand.ensures ∙ c.if-in_hand.true in
    towards_begun c.begin.result c.args.log.now.labels c.begin.new.log.labels (could_begin (Client c.args.client) c.args.op.now) (could_begin-whole (last c.args.log.now.labels) (Client c.args.client) c.args.op.now) c.begin.ensures.err
    (OnOk-map c.begin.result c.begin.ensures.happens (λ h.
    (h.label ∷ [], h.grows, busy_alone (Client c.args.client) c.args.op.now (g.W.Cluster.shown c.args.world.now) (g.W.Cluster.shown c.begin.new.world) c.args.log.now.labels c.begin.new.log.labels h.label c.requires.run c.begin.ensures.run h.grows h.answers held)))

-- ---- none is

pub finish-requires-clause-room : goal.finish-requires-clause-room
finish-requires-clause-room g c =
    let h = c.in_ok-begin.ensures.happens in
    let longer : length c.begin-2.new.log.labels ≡ length c.args.log.now.labels + 1 = ap length h.grows ∙ length-append c.args.log.now.labels (h.label ∷ []) in
    let few = few_of_any c.world_law.ensures.few (g.W.Cluster.shown c.begin-2.new.world) c.begin-2.new.log.labels (Actor (Client c.args.client)) c.begin-2.ensures.run in
    omega (arith, c.requires.room, few)

pub returns-clause-few : goal.returns-clause-few
returns-clause-few g c =
    let h = c.in_ok-begin.ensures.happens in
    let longer : length c.begin-2.new.log.labels ≡ length c.args.log.now.labels + 1 = ap length h.grows ∙ length-append c.args.log.now.labels (h.label ∷ []) in
    let few = few_of_any c.world_law.ensures.few (g.W.Cluster.shown c.begin-2.new.world) c.begin-2.new.log.labels (Actor (Client c.args.client)) c.begin-2.ensures.run in
    omega (arith, c.finish.ensures.few, few)

pub returns-clause-answers : goal.returns-clause-answers
returns-clause-answers g c =
    let h = c.in_ok-begin.ensures.happens in
    let idle = none_if_not (hand_at (g.W.Cluster.shown c.args.world.now).hands (Actor (Client c.args.client))) (sym c.in_hand.ensures ∙ c.if-in_hand.false) in
    OnOk-map c.finish.result c.finish.ensures.steps (λ f.
    GrowsBy-begin c.args.log.now.labels c.begin-2.new.log.labels c.finish.new.log.labels h.label h.grows f
    (λ more goes. begin_grows (Client c.args.client) c.args.op.now (g.W.Cluster.shown c.args.world.now) (g.W.Cluster.shown c.begin-2.new.world) c.args.log.now.labels c.begin-2.new.log.labels h.label more c.requires.run c.begin-2.ensures.run h.grows h.answers idle goes))

pub returns-clause-front : goal.returns-clause-front
returns-clause-front g c =
    let h = c.in_ok-begin.ensures.happens in
    let idle = none_if_not (hand_at (g.W.Cluster.shown c.args.world.now).hands (Actor (Client c.args.client))) (sym c.in_hand.ensures ∙ c.if-in_hand.false) in
    towards_begin c.args.log.now.labels c.begin-2.new.log.labels c.finish.new.log.labels h.label h.grows c.finish.ensures.front
    (λ more goes. begin_grows (Client c.args.client) c.args.op.now (g.W.Cluster.shown c.args.world.now) (g.W.Cluster.shown c.begin-2.new.world) c.args.log.now.labels c.begin-2.new.log.labels h.label more c.requires.run c.begin-2.ensures.run h.grows h.answers idle goes)

pub returns-in_err-begin-clause-front : goal.returns-in_err-begin-clause-front
returns-in_err-begin-clause-front g c =
    towards_one c.args.log.now.labels c.begin-2.new.log.labels (could_begin (Client c.args.client) c.args.op.now) c.in_err-begin.ensures.err (could_begin-whole (last c.args.log.now.labels) (Client c.args.client) c.args.op.now)
