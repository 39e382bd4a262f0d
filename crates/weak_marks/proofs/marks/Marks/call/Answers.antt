use Rattle.std.proofs.Common.{rules}
use Rattle.weak_marks.proofs.marks.Marks.call.Goals as goal

pub returns-in-Some : goal.returns-in-Some
returns-in-Some c = search rules
