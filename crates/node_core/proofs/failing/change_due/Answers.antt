use Rattle.std.proofs.Common.{rules}
use Rattle.node_core.proofs.failing.change_due.Goals as goal

pub returns-then-is_to_lead : goal.returns-then-is_to_lead
returns-then-is_to_lead c = search rules
