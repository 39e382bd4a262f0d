use Rattle.std.proofs.Common.{rules}
use Rattle.outside_io.proofs.front.append_front.Goals as goal

pub returns-clause-items : goal.returns-clause-items
returns-clause-items c = search rules
