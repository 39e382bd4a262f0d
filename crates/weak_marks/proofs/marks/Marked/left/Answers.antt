use Rattle.std.proofs.Common.{rules}
use Rattle.weak_marks.proofs.marks.Marked.left.Goals as goal

pub returns-clause-value : goal.returns-clause-value
returns-clause-value c = search rules
