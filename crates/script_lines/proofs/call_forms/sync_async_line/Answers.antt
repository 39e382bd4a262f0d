use Rattle.std.proofs.lemmas.Grind.{common_steps}
use Rattle.std.proofs.Common.{arith}
use Rattle.script_lines.specs.Table.{said_by}
use Rattle.script_lines.proofs.call_forms.sync_async_line.Goals as goal

pub returns-in_default : goal.returns-in_default
unfolding said_by
returns-in_default c = grind (arith, common_steps)

pub returns-in_err-client : goal.returns-in_err-client
unfolding said_by
returns-in_err-client c = grind (arith, common_steps)

pub returns-in_err-place : goal.returns-in_err-place
unfolding said_by
returns-in_err-place c = grind (arith, common_steps)

pub returns-in_err-invocation : goal.returns-in_err-invocation
unfolding said_by
returns-in_err-invocation c = grind (arith, common_steps)

pub returns : goal.returns
unfolding said_by
returns c = grind (arith, common_steps)
