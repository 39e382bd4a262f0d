use Rattle.std.proofs.Common.{rules}
use Rattle.section_iter.proofs.iteration.Iteration.copy.Goals as goal

pub returns : goal.returns
returns c = search rules
