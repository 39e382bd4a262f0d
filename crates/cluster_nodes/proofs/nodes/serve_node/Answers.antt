use Rattle.std.proofs.Common.{sym, ap, subst, ◌∙◌}
use Rattle.std.specs.Prelude.{slice_set}
use Rattle.ckpt_machine.specs.Asking.{MayCome}
use Rattle.ckpt_machine.proofs.Asking.{fits_that_comes}
use Rattle.node_core.specs.Behind.{remains_at}
use Rattle.node_core.specs.Nodes.{NodeState, MayReply, replicas_after, seen_for, served_for}
use Rattle.node_core.specs.Payloads.{payload_of}
use Rattle.node_core.specs.Serving.{details_at, iteration_behind, snapshot_behind}
use Rattle.ckpt_machine.specs.Nodes.{nodes_shown, StandByNumber}
use Rattle.cluster_nodes.proofs.Numbered.{node_is, numbered_set, shown_set}
use Rattle.cluster_nodes.proofs.nodes.serve_node.Goals as goal

pub serve-requires : goal.serve-requires
serve-requires c =
    let may = subst (λ (n : NodeState). MayCome c.args.seen.now n c.args.request.now c.args.lent.now) (node_is c.args.nodes.now c.requires.numbered c.args.r c.index-nodes-r.result c.requires.node) c.requires.may in
    record { fits = fits_that_comes c.args.seen.now _ c.args.request.now c.args.lent.now may c.see_declared.ensures }

pub returns-clause-numbered : goal.returns-clause-numbered
returns-clause-numbered c =
    subst StandByNumber (ap (slice_set c.args.nodes.now c.args.r) (sym c.serve.ensures.new)) (numbered_set c.args.nodes.now c.requires.numbered c.args.r c.index-nodes-r.result c.requires.node _)

pub returns-clause-reply : goal.returns-clause-reply
returns-clause-reply c =
    subst (λ (n : NodeState). MayReply (seen_for c.args.seen.now n c.args.request.now) n c.args.request.now (payload_of c.args.lent.now) c.serve.result) (sym (node_is c.args.nodes.now c.requires.numbered c.args.r c.index-nodes-r.result c.requires.node)) c.serve.ensures.reply

pub returns-clause-new : goal.returns-clause-new
returns-clause-new c =
    ap (λ (n : NodeState). nodes_shown (slice_set c.args.nodes.now c.args.r n)) c.serve.ensures.new
    ∙ shown_set c.args.nodes.now c.requires.numbered c.args.r c.index-nodes-r.result c.requires.node _
    ∙ ap (λ (n : NodeState). slice_set (nodes_shown c.args.nodes.now) c.args.r (replicas_after (seen_for c.args.seen.now n c.args.request.now) n c.args.request.now (payload_of c.args.lent.now) c.serve.result)) (sym (node_is c.args.nodes.now c.requires.numbered c.args.r c.index-nodes-r.result c.requires.node))

pub returns-clause-details : goal.returns-clause-details
returns-clause-details c =
    c.serve.ensures.details
    ∙ ap (λ (n : NodeState). details_at c.args.request.now (payload_of c.args.lent.now) (seen_for c.args.seen.now n c.args.request.now) (served_for c.args.seen.now n c.args.request.now)) (sym (node_is c.args.nodes.now c.requires.numbered c.args.r c.index-nodes-r.result c.requires.node))

pub returns-clause-iteration : goal.returns-clause-iteration
returns-clause-iteration c =
    c.serve.ensures.iteration
    ∙ ap (λ (n : NodeState). iteration_behind c.args.request.now (seen_for c.args.seen.now n c.args.request.now) (served_for c.args.seen.now n c.args.request.now) c.args.lent.now.iteration) (sym (node_is c.args.nodes.now c.requires.numbered c.args.r c.index-nodes-r.result c.requires.node))

pub returns-clause-snapshot : goal.returns-clause-snapshot
returns-clause-snapshot c =
    c.serve.ensures.snapshot
    ∙ ap (λ (n : NodeState). snapshot_behind c.args.request.now (served_for c.args.seen.now n c.args.request.now) c.args.lent.now.snap) (sym (node_is c.args.nodes.now c.requires.numbered c.args.r c.index-nodes-r.result c.requires.node))

pub returns-clause-kept : goal.returns-clause-kept
returns-clause-kept c =
    c.serve.ensures.kept
    ∙ ap (λ (n : NodeState). remains_at c.args.request.now (served_for c.args.seen.now n c.args.request.now) c.serve.result c.serve.new.lent c.args.lent.now) (sym (node_is c.args.nodes.now c.requires.numbered c.args.r c.index-nodes-r.result c.requires.node))
