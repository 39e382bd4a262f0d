use Rattle.std.proofs.lemmas.Grind.{elements}
use Rattle.std.proofs.Common.{arith}
use Rattle.weak_marks.proofs.marks.Marked.next.Goals as goal

pub returns : goal.returns
returns c = grind (arith, elements)
