use Rattle.std.proofs.Common.{rules}
use Rattle.update_rules.proofs.updates.lacks_room.Goals as goal

pub returns-then-attrs-totals : goal.returns-then-attrs-totals
returns-then-attrs-totals g c = search rules

pub returns-else-attrs-totals : goal.returns-else-attrs-totals
returns-else-attrs-totals g c = search rules
