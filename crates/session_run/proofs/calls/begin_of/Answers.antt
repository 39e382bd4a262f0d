use Rattle.std.proofs.Common.{[], ◌∷◌, refl, sym, subst}
use Rattle.ckpt_types.specs.Asks.{MayAsk, asked}
use Rattle.ckpt_types.specs.declared.identities.ActorName.{ActorName}
use Rattle.ckpt_types.specs.declared.identities.ActorName.TheVariants.{Client, Node}
use Rattle.ckpt_types.specs.declared.operation.Op.{Op}
use Rattle.ckpt_types.specs.declared.operation.Op.TheVariants as ops
use Rattle.ckpt_machine.specs.Runs.{last}
use Rattle.session_run.specs.Follows.{IsBegunCall}
use Rattle.session_run.specs.Growing.{GrowsBy, GrowsTowards}
use Rattle.session_run.proofs.Following.{OnOk-map, begin_alone, node_copies}
use Rattle.session_run.proofs.Fronts.{towards_begun, could_begin}
use Rattle.session_run.proofs.calls.begin_of.Goals as goal

-- ---- of a client

pub returns-in-Client-clause-answers : goal.returns-in-Client-clause-answers
returns-in-Client-clause-answers g c =
    let old = c.args.log.now.labels in
    OnOk-map c.begin.result c.begin.ensures.happens (λ h.
    subst (λ (a : ActorName). GrowsBy old c.begin.new.log.labels (IsBegunCall (last old) a c.args.op.now)) (sym c.in-Client.is)
    (h.label ∷ [], h.grows, begin_alone (Client c.in-Client.client) c.args.op.now (g.W.Cluster.shown c.args.world.now) (g.W.Cluster.shown c.begin.new.world) old h.label c.requires.run h.answers))

pub returns-in-Client-clause-front : goal.returns-in-Client-clause-front
returns-in-Client-clause-front g c =
    let old = c.args.log.now.labels in
    subst (λ (a : ActorName). GrowsTowards old c.begin.new.log.labels (IsBegunCall (last old) a c.args.op.now)) (sym c.in-Client.is)
    (towards_begun c.begin.result old c.begin.new.log.labels (could_begin (Client c.in-Client.client) c.args.op.now) (refl, refl, refl) c.begin.ensures.err
    (OnOk-map c.begin.result c.begin.ensures.happens (λ h. (h.label ∷ [], h.grows, begin_alone (Client c.in-Client.client) c.args.op.now (g.W.Cluster.shown c.args.world.now) (g.W.Cluster.shown c.begin.new.world) old h.label c.requires.run h.answers))))

-- ---- of a node, which asks for its copying alone

pub begin_copy-requires-clause-node : goal.begin_copy-requires-clause-node
begin_copy-requires-clause-node g c = (node_copies c.in-Node.node c.args.op.now (subst (λ (a : ActorName). MayAsk a (asked c.args.op.now)) c.in-Node.is c.requires.asker)).0

pub returns-in-Node-clause-answers : goal.returns-in-Node-clause-answers
returns-in-Node-clause-answers g c =
    let old = c.args.log.now.labels in
    let r = c.in-Node.node in
    let copies = (node_copies r c.args.op.now (subst (λ (a : ActorName). MayAsk a (asked c.args.op.now)) c.in-Node.is c.requires.asker)).1 in
    OnOk-map c.begin_copy.result c.begin_copy.ensures.happens (λ h.
    subst (λ (a : ActorName). GrowsBy old c.begin_copy.new.log.labels (IsBegunCall (last old) a c.args.op.now)) (sym c.in-Node.is)
    (subst (λ (op : Op). GrowsBy old c.begin_copy.new.log.labels (IsBegunCall (last old) (Node r) op)) (sym copies)
    (h.label ∷ [], h.grows, begin_alone (Node r) ops.Copy (g.W.Cluster.shown c.args.world.now) (g.W.Cluster.shown c.begin_copy.new.world) old h.label c.requires.run h.answers)))

pub returns-in-Node-clause-front : goal.returns-in-Node-clause-front
returns-in-Node-clause-front g c =
    let old = c.args.log.now.labels in
    let r = c.in-Node.node in
    let copies = (node_copies r c.args.op.now (subst (λ (a : ActorName). MayAsk a (asked c.args.op.now)) c.in-Node.is c.requires.asker)).1 in
    subst (λ (a : ActorName). GrowsTowards old c.begin_copy.new.log.labels (IsBegunCall (last old) a c.args.op.now)) (sym c.in-Node.is)
    (subst (λ (op : Op). GrowsTowards old c.begin_copy.new.log.labels (IsBegunCall (last old) (Node r) op)) (sym copies)
    (towards_begun c.begin_copy.result old c.begin_copy.new.log.labels (could_begin (Node r) ops.Copy) (refl, refl, refl) c.begin_copy.ensures.err
    (OnOk-map c.begin_copy.result c.begin_copy.ensures.happens (λ h. (h.label ∷ [], h.grows, begin_alone (Node r) ops.Copy (g.W.Cluster.shown c.args.world.now) (g.W.Cluster.shown c.begin_copy.new.world) old h.label c.requires.run h.answers)))))
