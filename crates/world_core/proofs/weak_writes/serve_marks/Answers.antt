use Rattle.std.proofs.Common.{sym, ap, ◌∙◌}
use Rattle.node_msgs.specs.declared.requests.Request.{Request}
use Rattle.node_msgs.specs.Requests.{ckpt_of}
use Rattle.node_core.specs.Serving.{replica_after}
use Rattle.replica.specs.Replicas.{element_done, ended}
use Rattle.ckpt_machine.specs.Nodes.{with_changed}
use Rattle.ckpt_machine.proofs.LentReplicas.{left_as}
use Rattle.world_core.proofs.weak_writes.serve_marks.Goals as goal

pub returns-in-Element : goal.returns-in-Element
returns-in-Element c p seen =
    left_as c.args.nodes.now c.in-Element.ckpt c.args.r c.at.result.now c.at.ensures.value (λ x. element_done x x.marks) c.weak_element.new.self c.weak_element.ensures
    ∙ ap (λ (q : Request). with_changed (ckpt_of q) c.args.r (replica_after q p seen) c.args.nodes.now) (sym c.in-Element.is)

pub returns-in-Unmark : goal.returns-in-Unmark
returns-in-Unmark c p seen =
    left_as c.args.nodes.now c.in-Unmark.ckpt c.args.r c.at-in-Unmark.result.now c.at-in-Unmark.ensures.value ended c.weak_end.new.self c.weak_end.ensures
    ∙ ap (λ (q : Request). with_changed (ckpt_of q) c.args.r (replica_after q p seen) c.args.nodes.now) (sym c.in-Unmark.is)
