use Rattle.std.proofs.Common.{◌≡◌, ◌+◌, ◌<◌, ◌≤◌, length, map, sym, ap, subst, ◌∙◌, arith}
use Rattle.std.specs.Prelude.{slice_set}
use Rattle.cluster_record.proofs.EachChanged.{changed_from, changed_from-start, changed_from-next, changed_from-end, All-behind, All-here}
use Rattle.node_core.specs.Failing.{node_left, HoldsEachOnce}
use Rattle.node_core.specs.Nodes.{NodeState}
use Rattle.ckpt_machine.specs.Nodes.{nodes_shown, StandByNumber}
use Rattle.cluster_nodes.proofs.FailedNumbered.{numbered_left, once_shown, shown_left}
use Rattle.cluster_nodes.proofs.nodes.fail_nodes.Goals as goal

pub loop-node-init : goal.loop-node-init
loop-node-init c = record { left = changed_from-start _ c.args.nodes.now; once = once_shown c.args.nodes.now c.requires.once }

pub fail-requires : goal.fail-requires
fail-requires c =
    let i = c.loop-node.node-index in
    let nodes = c.loop-node.nodes in
    let within : i < length nodes = omega (arith, c.loop-node-test.true, c.loop-node.auto.nodes) in
    record { once = All-here (λ (n : NodeState). HoldsEachOnce n.replicas) i nodes c.node-item.result within c.loop-node.invariant.once }

pub loop-node-preserved : goal.loop-node-preserved
loop-node-preserved c =
    let leave : NodeState → NodeState = node_left c.args.seen.now c.args.failed in
    let i = c.loop-node.node-index in
    let nodes = c.loop-node.nodes in
    let within : i < length nodes = omega (arith, c.loop-node-test.true, c.loop-node.auto.nodes) in
    record {
      left = ap (λ y. changed_from leave (i + 1) (slice_set nodes i y)) c.fail.ensures ∙ changed_from-next leave c.node-item.result i nodes within ∙ c.loop-node.invariant.left;
      once = All-behind (λ (n : NodeState). HoldsEachOnce n.replicas) i nodes _ within c.loop-node.invariant.once;
    }

pub returns-clause-numbered : goal.returns-clause-numbered
returns-clause-numbered c =
    let i = c.loop-node.node-index in
    let nodes = c.loop-node.nodes in
    let through : length nodes ≤ i = omega (arith, c.loop-node-test.false, c.loop-node.auto.nodes) in
    let all : nodes ≡ map (node_left c.args.seen.now c.args.failed) c.args.nodes.now = sym (changed_from-end (node_left c.args.seen.now c.args.failed) i nodes through) ∙ c.loop-node.invariant.left in
    subst StandByNumber (sym all) (numbered_left c.args.seen.now c.args.failed c.args.nodes.now c.requires.numbered)

pub returns-clause-new : goal.returns-clause-new
returns-clause-new c =
    let i = c.loop-node.node-index in
    let nodes = c.loop-node.nodes in
    let through : length nodes ≤ i = omega (arith, c.loop-node-test.false, c.loop-node.auto.nodes) in
    let all : nodes ≡ map (node_left c.args.seen.now c.args.failed) c.args.nodes.now = sym (changed_from-end (node_left c.args.seen.now c.args.failed) i nodes through) ∙ c.loop-node.invariant.left in
    ap nodes_shown all ∙ shown_left c.args.seen.now c.args.failed c.args.nodes.now c.requires.numbered
