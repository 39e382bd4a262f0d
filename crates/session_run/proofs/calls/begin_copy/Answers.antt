use Rattle.std.proofs.Common.{rules}
use Rattle.session_run.proofs.calls.begin_copy.Goals as goal

pub returns-clause-happens : goal.returns-clause-happens
returns-clause-happens g c = search rules
