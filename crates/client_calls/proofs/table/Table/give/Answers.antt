use Rattle.std.proofs.Common.{rules}
use Rattle.client_calls.proofs.table.Table.give.Goals as goal

pub returns : goal.returns
returns c = search rules
