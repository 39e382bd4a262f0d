use Rattle.std.proofs.Common.{rules}
use Rattle.node_core.proofs.fitting.is_ready.Goals as goal

pub returns-in-Commit : goal.returns-in-Commit
returns-in-Commit c = search rules
