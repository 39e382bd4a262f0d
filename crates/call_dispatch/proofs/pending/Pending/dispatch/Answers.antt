use Rattle.std.proofs.Common.{rules}
use Rattle.call_dispatch.proofs.pending.Pending.dispatch.Goals as goal

pub returns-clause-called : goal.returns-clause-called
returns-clause-called g c = search rules
