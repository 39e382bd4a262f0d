use Rattle.std.proofs.Common.{rules}
use Rattle.weak_marks.proofs.marks.Marks.element.Goals as goal

pub returns-clause-new : goal.returns-clause-new
returns-clause-new c = search rules
