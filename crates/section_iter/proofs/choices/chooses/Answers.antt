use Rattle.std.proofs.Common.{rules}
use Rattle.section_iter.proofs.choices.chooses.Goals as goal

pub returns-in_default : goal.returns-in_default
returns-in_default c = search rules

pub returns-in-3 : goal.returns-in-3
returns-in-3 c = search rules
