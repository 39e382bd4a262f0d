use Rattle.std.proofs.Common.{rules}
use Rattle.client_seats.proofs.held.clear.Goals as goal

pub returns : goal.returns
returns c = search rules
