use Rattle.std.proofs.Common.{◌≡◌, ◌+◌, ◌<◌, ◌≤◌, length, map, sym, ap, subst, ◌∙◌, arith}
use Rattle.std.specs.Prelude.{slice_set}
use Rattle.cluster_record.proofs.EachChanged.{changed_from, changed_from-start, changed_from-next, changed_from-end}
use Rattle.node_core.specs.Nodes.{NodeState, freed_node}
use Rattle.ckpt_machine.specs.Nodes.{nodes_shown, StandByNumber}
use Rattle.cluster_nodes.proofs.Numbered.{numbered_freed, shown_freed}
use Rattle.cluster_nodes.proofs.nodes.free_nodes.Goals as goal

pub loop-node-init : goal.loop-node-init
loop-node-init c = changed_from-start _ c.args.nodes.now

pub loop-node-preserved : goal.loop-node-preserved
loop-node-preserved c =
    let leave : NodeState → NodeState = freed_node c.args.seen.now.entries in
    let i = c.loop-node.node-index in
    let nodes = c.loop-node.nodes in
    let within : i < length nodes = omega (arith, c.loop-node-test.true, c.loop-node.auto.nodes) in
    ap (λ y. changed_from leave (i + 1) (slice_set nodes i y)) c.free_gone.ensures ∙ changed_from-next leave c.node-item.result i nodes within ∙ c.loop-node.invariant

pub returns-clause-numbered : goal.returns-clause-numbered
returns-clause-numbered c =
    let i = c.loop-node.node-index in
    let nodes = c.loop-node.nodes in
    let through : length nodes ≤ i = omega (arith, c.loop-node-test.false, c.loop-node.auto.nodes) in
    let all : nodes ≡ map (freed_node c.args.seen.now.entries) c.args.nodes.now = sym (changed_from-end (freed_node c.args.seen.now.entries) i nodes through) ∙ c.loop-node.invariant in
    subst StandByNumber (sym all) (numbered_freed c.args.seen.now.entries c.args.nodes.now c.requires)

pub returns-clause-new : goal.returns-clause-new
returns-clause-new c =
    let i = c.loop-node.node-index in
    let nodes = c.loop-node.nodes in
    let through : length nodes ≤ i = omega (arith, c.loop-node-test.false, c.loop-node.auto.nodes) in
    let all : nodes ≡ map (freed_node c.args.seen.now.entries) c.args.nodes.now = sym (changed_from-end (freed_node c.args.seen.now.entries) i nodes through) ∙ c.loop-node.invariant in
    ap nodes_shown all ∙ shown_freed c.args.seen.now.entries c.args.nodes.now
