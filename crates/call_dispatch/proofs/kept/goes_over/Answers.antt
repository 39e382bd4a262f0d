use Rattle.std.proofs.Common.{rules}
use Rattle.call_dispatch.proofs.kept.goes_over.Goals as goal

pub returns-in-Open : goal.returns-in-Open
returns-in-Open c = search rules
