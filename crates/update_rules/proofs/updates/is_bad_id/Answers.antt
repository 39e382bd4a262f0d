use Rattle.std.proofs.Common.{rules}
use Rattle.update_rules.proofs.updates.is_bad_id.Goals as goal

pub returns-in-Generated : goal.returns-in-Generated
returns-in-Generated c = search rules
