use Rattle.std.proofs.Common.{◌∙◌}
use Rattle.ckpt_types.specs.Asks.{update_of}
use Rattle.shared_nodes.proofs.Handing.{update_kept, update_lent}
use Rattle.shared_nodes.proofs.work.Work.lend_update.Goals as goal

pub returns-clause-lent : goal.returns-clause-lent
returns-clause-lent c =
    let alike = c.in-Some.ensures.alike (update_of c.self.inside.op) c.self.invariant.updates in
    c.lent_of.ensures ∙ update_lent _ c.args.self.now _ c.self.view_is c.in-Some.ensures.many alike.0

pub returns-clause-beside : goal.returns-clause-beside
returns-clause-beside c =
    let alike = c.in-Some.ensures.alike (update_of c.self.inside.op) c.self.invariant.updates in
    update_kept _ c.args.self.now _ c.self.view_is c.in-Some.ensures.many alike.1
