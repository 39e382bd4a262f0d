use Rattle.std.proofs.Common.{rules}
use Rattle.cluster_record.proofs.opening.answer_of.Goals as goal

pub returns-then-not-accepts : goal.returns-then-not-accepts
returns-then-not-accepts c = search rules

pub returns-in-Some : goal.returns-in-Some
returns-in-Some c = search rules
