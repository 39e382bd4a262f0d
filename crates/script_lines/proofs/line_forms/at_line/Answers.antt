use Rattle.std.proofs.lemmas.Grind.{common_steps}
use Rattle.std.proofs.Common.{arith}
use Rattle.script_lines.specs.Table.{said_by}
use Rattle.script_lines.proofs.line_forms.at_line.Goals as goal

pub returns-in_default : goal.returns-in_default
unfolding said_by
returns-in_default c = grind (arith, common_steps)

pub returns-in_err-moment : goal.returns-in_err-moment
unfolding said_by
returns-in_err-moment c = grind (arith, common_steps)

pub returns : goal.returns
unfolding said_by
returns c = grind (arith, common_steps)
