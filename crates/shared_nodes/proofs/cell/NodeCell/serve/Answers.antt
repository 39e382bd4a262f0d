use Rattle.std.proofs.Common.{◌≡◌, subst, sym}
use Rattle.node_core.specs.Nodes.{MayReply, node_after, NodeState}
use Rattle.node_core.specs.Payloads.{payload_of}
use Rattle.node_core.specs.Seen.{RecordSeen}
use Rattle.shared_nodes.proofs.OneMore.{plays_served}
use Rattle.shared_nodes.proofs.cell.NodeCell.serve.Goals as goal

pub invariant_of-self : goal.invariant_of-self
invariant_of-self c =
    let n : NodeState = c.self.inside.node in
    let p = payload_of c.args.lent.now in
    let request = c.args.request.now in
    let showed : RecordSeen = c.for_request-showed.result in
    let reply = c.serve-reply.result in
    let may : MayReply showed n request p reply = subst (λ (s : RecordSeen). MayReply s n request p reply) (sym c.for_request-showed.ensures) c.serve-reply.ensures.reply in
    let is : c.serve-reply.new.self ≡ node_after showed n request p reply = subst (λ (s : RecordSeen). c.serve-reply.new.self ≡ node_after s n request p reply) (sym c.for_request-showed.ensures) c.serve-reply.ensures.new in
    rw c.push.ensures.entries (plays_served _ _ n _ c.args.ticket request p reply showed c.args.kept c.self.invariant c.requires.keeps may is)
