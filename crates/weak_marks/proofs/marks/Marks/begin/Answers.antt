use Rattle.std.proofs.Common.{rules}
use Rattle.weak_marks.proofs.marks.Marks.begin.Goals as goal

pub returns : goal.returns
returns c = search rules

pub returns-then-ne : goal.returns-then-ne
returns-then-ne c = search rules
