use Rattle.std.proofs.Common.{rules}
use Rattle.call_dispatch.proofs.pending.Pending.callbacks_pending.Goals as goal

pub returns : goal.returns
returns c = search rules
