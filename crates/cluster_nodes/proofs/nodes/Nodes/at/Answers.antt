use Rattle.std.proofs.Common.{◌≡◌, ◌<◌, List, length, refl, sym, ap, ◌∙◌, arith}
use Rattle.std.specs.Prelude.{slice_index_or, slice_set}
use Rattle.cluster_record.specs.Places.{find_key, change_key}
use Rattle.replica.specs.Replicas.{Replica}
use Rattle.node_core.specs.Nodes.{NodeState, replica_key}
use Rattle.ckpt_machine.specs.Nodes.{node_at, nodes_shown, replica_in, with_changed}
use Rattle.cluster_nodes.proofs.Numbered.{holding, node_is, shown_set}
use Rattle.cluster_nodes.proofs.nodes.Nodes.at.Goals as goal

pub returns : goal.returns
returns c =
    let nodes : List NodeState = c.self.inside.list.items in
    let here : NodeState = c.index_mut.result.now in
    let within : c.args.r < length nodes = omega (arith, c.requires.node, c.self.invariant.eight) in
    let its : node_at (nodes_shown nodes) c.args.r ≡ here = node_is nodes c.self.invariant c.args.r here within ∙ sym c.index_mut.ensures.value in (
      (
        refl,
        λ w.
            let set : NodeState → List Replica = λ n. change_key replica_key c.args.ckpt (λ z. w) n.replicas in
            ap (λ (n : NodeState). nodes_shown (slice_set nodes c.args.r (holding n (set n)))) c.index_mut.ensures.value
            ∙ shown_set nodes c.self.invariant c.args.r here within (set (slice_index_or nodes c.args.r here))
            ∙ ap (λ (n : NodeState). slice_set (nodes_shown nodes) c.args.r (set n)) (sym c.index_mut.ensures.value ∙ sym its)
            ∙ ap (with_changed c.args.ckpt c.args.r (λ z. w)) c.self.view_is,
      ),
      record {
        lends = tt;
        value = ap (λ nodes. replica_in nodes c.args.ckpt c.args.r) (sym c.self.view_is) ∙ ap (λ (n : NodeState). find_key replica_key c.args.ckpt n.replicas) its ∙ c.at.ensures.value;
      },
    )
