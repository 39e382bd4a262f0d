use Rattle.std.proofs.Common.{rules}
use Rattle.client_seats.proofs.beginning.copies_for.Goals as goal

pub returns-in-Active : goal.returns-in-Active
returns-in-Active c = search rules
