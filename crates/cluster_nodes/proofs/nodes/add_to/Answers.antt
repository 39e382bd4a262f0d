use Rattle.std.proofs.Common.{ap, sym, subst, ◌∙◌}
use Rattle.std.proofs.lemmas.Result.{on_ok_weaker}
use Rattle.std.specs.Prelude.{slice_index_or, slice_set}
use Rattle.cluster_record.specs.RecordState.{entry_of}
use Rattle.node_core.specs.Changing.{added_for}
use Rattle.node_core.specs.Nodes.{NodeState}
use Rattle.node_core.specs.Seen.{entry_seen}
use Rattle.ckpt_machine.specs.Nodes.{nodes_shown, StandByNumber}
use Rattle.cluster_nodes.proofs.Numbered.{node_is, numbered_set, shown_set, set_or_same}
use Rattle.cluster_nodes.proofs.nodes.add_to.Goals as goal

pub returns-clause-numbered : goal.returns-clause-numbered
returns-clause-numbered c =
    let set = set_or_same c.add.result (slice_index_or c.args.nodes.now c.args.r c.index-nodes-r.result) c.add.new.self _ c.add.ensures.ok c.add.ensures.err in
    subst StandByNumber (ap (slice_set c.args.nodes.now c.args.r) (sym set.1)) (numbered_set c.args.nodes.now c.requires.numbered c.args.r c.index-nodes-r.result c.requires.node set.0)

pub returns-clause-ok : goal.returns-clause-ok
returns-clause-ok c =
    let e = c.args.entry.now in
    let node = c.index-nodes-r.result in
    let is = node_is c.args.nodes.now c.requires.numbered c.args.r node c.requires.node in
    on_ok_weaker c.add.result (λ added.
    ap (λ (n : NodeState). nodes_shown (slice_set c.args.nodes.now c.args.r n)) added
    ∙ shown_set c.args.nodes.now c.requires.numbered c.args.r node c.requires.node (added_for (entry_seen (slice_index_or c.args.nodes.now c.args.r node).number (entry_of e.identity c.args.seen.now.entries)) e.identity e.generation (slice_index_or c.args.nodes.now c.args.r node).replicas)
    ∙ (λ i. slice_set (nodes_shown c.args.nodes.now) c.args.r (added_for (entry_seen (sym is i).number (c.requires.there i)) e.identity e.generation (sym is i).replicas))) c.add.ensures.ok
