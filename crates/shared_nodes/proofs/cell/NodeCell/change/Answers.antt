use Rattle.std.proofs.Common.{◌≡◌, subst, sym}
use Rattle.node_core.specs.Changing.{changed_node}
use Rattle.node_core.specs.Nodes.{NodeState}
use Rattle.node_core.specs.Payloads.{payload_of}
use Rattle.node_core.specs.Seen.{RecordSeen}
use Rattle.shared_nodes.proofs.OneMore.{plays_changed}
use Rattle.shared_nodes.proofs.cell.NodeCell.change.Goals as goal

pub invariant_of-self-2 : goal.invariant_of-self-2
invariant_of-self-2 c =
    let n : NodeState = c.self.inside.node in
    let p = payload_of c.args.lent.now in
    let change = c.args.change.now in
    let showed : RecordSeen = c.for_change-showed.result in
    let is : c.change.new.self ≡ changed_node showed change p n = subst (λ (s : RecordSeen). c.change.new.self ≡ changed_node s change p n) (sym c.for_change-showed.ensures) c.in_ok-change.ensures.ok in
    rw c.push.ensures.entries (plays_changed _ _ n _ c.args.ticket change p showed c.args.kept c.self.invariant c.requires.keeps is)
