use Rattle.std.proofs.Common.{rules}
use Rattle.client_handles.proofs.begun.end_all.Goals as goal

pub returns-clause-items : goal.returns-clause-items
returns-clause-items c = search rules
