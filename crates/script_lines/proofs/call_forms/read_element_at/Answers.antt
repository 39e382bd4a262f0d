use Rattle.std.proofs.lemmas.Grind.{common_steps}
use Rattle.std.proofs.Common.{arith}
use Rattle.script_lines.proofs.call_forms.read_element_at.Goals as goal

pub returns-in_err-id : goal.returns-in_err-id
returns-in_err-id c = grind (arith, common_steps)

pub returns-in_err-offset : goal.returns-in_err-offset
returns-in_err-offset c = grind (arith, common_steps)

pub returns-in_err-len : goal.returns-in_err-len
returns-in_err-len c = grind (arith, common_steps)

pub returns : goal.returns
returns c = grind (arith, common_steps)
