use Rattle.std.proofs.Common.{rules}
use Rattle.replica.proofs.replica.Replica.is_older.Goals as goal

pub returns-then-self-generation : goal.returns-then-self-generation
returns-then-self-generation c = search rules

pub returns-then-self-generation-2 : goal.returns-then-self-generation-2
returns-then-self-generation-2 c = search rules
