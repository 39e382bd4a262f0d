use Rattle.std.proofs.Common.{subst}
use Rattle.node_msgs.specs.declared.requests.Request.{Request}
use Rattle.node_msgs.specs.declared.requests.Request.TheVariants as requests
use Rattle.client_calls.specs.Lending.{CanKeep}
use Rattle.client_calls.proofs.iterating.keep_iteration.Goals as goal

pub start-requires : goal.start-requires
start-requires c =
    let can : CanKeep (requests.Iterate c.in-Iterate-Done.field-0-0 c.in-Iterate-Done.field-1-0 c.in-Iterate-Done.field-2-0) c.args.op.now c.args.table.now.client = subst (λ (request : Request). CanKeep request c.args.op.now c.args.table.now.client) c.in-Iterate-Done.is-0 c.requires.can in
    record { built = can.0; room = can.1; number = can.2 }

pub return_iteration-requires : goal.return_iteration-requires
return_iteration-requires c = record { out = subst (λ (request : Request). CanKeep request c.args.op.now c.args.table.now.client) c.in-Next-default.is-0 c.requires.can }
