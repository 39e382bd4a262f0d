use Rattle.std.proofs.lemmas.Grind.{common_steps}
use Rattle.std.proofs.Common.{arith}
use Rattle.script_lines.specs.Table.{said_by}
use Rattle.script_lines.proofs.call_forms.unlink_line.Goals as goal

pub returns-in_default : goal.returns-in_default
unfolding said_by
returns-in_default c = grind (arith, common_steps)

pub returns-in_err-client : goal.returns-in_err-client
unfolding said_by
returns-in_err-client c = grind (arith, common_steps)

pub returns-in_err-name : goal.returns-in_err-name
unfolding said_by
returns-in_err-name c = grind (arith, common_steps)

pub returns : goal.returns
unfolding said_by
returns c = grind (arith, common_steps)
