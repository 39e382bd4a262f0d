use Rattle.std.proofs.lemmas.Grind.{common_steps}
use Rattle.std.proofs.Common.{arith}
use Rattle.script_lines.specs.Table.{said_by}
use Rattle.script_lines.proofs.call_forms.read_line.Goals as goal

pub returns-in_default : goal.returns-in_default
unfolding said_by
returns-in_default c = grind (arith, common_steps)

pub returns-then-not-are_groups : goal.returns-then-not-are_groups
unfolding said_by
returns-then-not-are_groups c = grind (arith, common_steps)

pub returns : goal.returns
unfolding said_by
returns c = grind (arith, common_steps)
