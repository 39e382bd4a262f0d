use Rattle.std.proofs.Common.{◌≡◌, length, arith, sym, ap, subst, ◌∙◌}
use Rattle.std.proofs.lemmas.List.{with_items_is}
use Rattle.node_core.specs.Nodes.{MayReply, seen_for, served_for}
use Rattle.node_core.specs.Payloads.{payload_of}
use Rattle.node_core.specs.Serving.{details_at, iteration_behind, snapshot_behind}
use Rattle.ckpt_machine.specs.Asking.{MayCome}
use Rattle.ckpt_machine.specs.Nodes.{node_at, nodes_after, nodes_shown, StandByNumber}
use Rattle.cluster_nodes.proofs.nodes.Nodes.serve.Goals as goal

pub serve_node-requires-clause-may : goal.serve_node-requires-clause-may
serve_node-requires-clause-may c =
    let shown = ap nodes_shown c.as_mut_slice.ensures.value ∙ c.self.view_is in
    subst (λ nodes. MayCome c.args.seen.now (node_at nodes c.args.r) c.args.request.now c.args.lent.now) (sym shown) c.requires.may

pub invariant_of-self : goal.invariant_of-self
invariant_of-self c =
    let full : length c.serve_node.new.nodes ≡ c.self.inside.list.len = omega (arith, ap length c.as_mut_slice.ensures.value) in
    subst StandByNumber (sym (with_items_is c.self.inside.list c.serve_node.new.nodes full)) c.serve_node.ensures.numbered

pub returns-clause-reply : goal.returns-clause-reply
returns-clause-reply c =
    let shown = ap nodes_shown c.as_mut_slice.ensures.value ∙ c.self.view_is in
    subst (λ nodes. MayReply (seen_for c.args.seen.now (node_at nodes c.args.r) c.args.request.now) (node_at nodes c.args.r) c.args.request.now (payload_of c.args.lent.now) c.serve_node.result) shown c.serve_node.ensures.reply

pub returns-clause-new : goal.returns-clause-new
returns-clause-new c =
    let shown = ap nodes_shown c.as_mut_slice.ensures.value ∙ c.self.view_is in
    let full : length c.serve_node.new.nodes ≡ c.self.inside.list.len = omega (arith, ap length c.as_mut_slice.ensures.value) in
    ap nodes_shown (with_items_is c.self.inside.list c.serve_node.new.nodes full) ∙ c.serve_node.ensures.new ∙ ap (λ nodes. nodes_after c.args.seen.now nodes c.args.r c.args.request.now (payload_of c.args.lent.now) c.serve_node.result) shown

pub returns-clause-details : goal.returns-clause-details
returns-clause-details c =
    let shown = ap nodes_shown c.as_mut_slice.ensures.value ∙ c.self.view_is in
    c.serve_node.ensures.details ∙ ap (λ nodes. details_at c.args.request.now (payload_of c.args.lent.now) (seen_for c.args.seen.now (node_at nodes c.args.r) c.args.request.now) (served_for c.args.seen.now (node_at nodes c.args.r) c.args.request.now)) shown

pub returns-clause-iteration : goal.returns-clause-iteration
returns-clause-iteration c =
    let shown = ap nodes_shown c.as_mut_slice.ensures.value ∙ c.self.view_is in
    c.serve_node.ensures.iteration ∙ ap (λ nodes. iteration_behind c.args.request.now (seen_for c.args.seen.now (node_at nodes c.args.r) c.args.request.now) (served_for c.args.seen.now (node_at nodes c.args.r) c.args.request.now) c.args.lent.now.iteration) shown

pub returns-clause-snapshot : goal.returns-clause-snapshot
returns-clause-snapshot c =
    let shown = ap nodes_shown c.as_mut_slice.ensures.value ∙ c.self.view_is in
    c.serve_node.ensures.snapshot ∙ ap (λ nodes. snapshot_behind c.args.request.now (served_for c.args.seen.now (node_at nodes c.args.r) c.args.request.now) c.args.lent.now.snap) shown
