use Rattle.std.proofs.Common.{rules}
use Rattle.call_dispatch.proofs.pending.Pending.given.Goals as goal

pub returns : goal.returns
returns c = search rules
