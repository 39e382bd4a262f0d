use Rattle.std.proofs.Common.{◌<◌, sym, ap, subst, ◌∙◌}
use Rattle.node_core.specs.Changing.{seen_for_change}
use Rattle.node_core.specs.Failing.{node_left, HoldsEachOnce}
use Rattle.node_core.specs.Nodes.{NodeState}
use Rattle.node_core.specs.Payloads.{no_payload}
use Rattle.node_core.proofs.FailingLaws.{changes_left, node_left-end, node_goes-on}
use Rattle.node_core.proofs.node.Node.fail.Goals as goal

pub change_alone-requires : goal.change_alone-requires
change_alone-requires c = record { alone = (node_goes-on c.args.seen.now c.args.failed c.loop-change.self c.in-Some.change c.loop-change.invariant.1 (sym c.next_change.ensures ∙ c.in-Some.is)).wants }

pub loop-change-smaller : goal.loop-change-smaller
loop-change-smaller c =
    let n = c.loop-change.self in
    let change = c.in-Some.change in
    let seen = seen_for_change c.args.seen.now n change in
    let g = node_goes-on c.args.seen.now c.args.failed n change c.loop-change.invariant.1 (sym c.next_change.ensures ∙ c.in-Some.is) in
    subst (λ (m : NodeState). changes_left c.args.seen.now c.args.failed m < changes_left c.args.seen.now c.args.failed n) (sym (c.change_alone.ensures seen no_payload)) (g.fewer seen no_payload)

pub loop-change-preserved : goal.loop-change-preserved
loop-change-preserved c =
    let n = c.loop-change.self in
    let change = c.in-Some.change in
    let seen = seen_for_change c.args.seen.now n change in
    let g = node_goes-on c.args.seen.now c.args.failed n change c.loop-change.invariant.1 (sym c.next_change.ensures ∙ c.in-Some.is) in
    let after = c.change_alone.ensures seen no_payload in
    (ap (node_left c.args.seen.now c.args.failed) after ∙ g.left seen no_payload ∙ c.loop-change.invariant.0, subst (λ (m : NodeState). HoldsEachOnce m.replicas) (sym after) (g.once c.loop-change.invariant.1 seen no_payload))

pub returns : goal.returns
returns c = sym (node_left-end c.args.seen.now c.args.failed c.loop-change.self (sym c.next_change.ensures ∙ c.in_default.is)) ∙ c.loop-change.invariant.0
