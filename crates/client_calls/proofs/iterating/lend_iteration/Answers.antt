use Rattle.std.proofs.Common.{subst}
use Rattle.node_msgs.specs.declared.requests.Request.{Request}
use Rattle.client_calls.specs.Lending.{CanLend}
use Rattle.client_calls.proofs.iterating.lend_iteration.Goals as goal

pub lend_iteration-requires : goal.lend_iteration-requires
lend_iteration-requires c = record { can = subst (λ (request : Request). CanLend request c.args.hand.now.op c.args.table.now.client) c.in-Next.is c.requires.can }
