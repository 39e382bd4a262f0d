use Rattle.std.proofs.Common.{rules}
use Rattle.script_lang.proofs.marks.next_marks.Goals as goal

pub returns-clause-small : goal.returns-clause-small
returns-clause-small c = search rules
