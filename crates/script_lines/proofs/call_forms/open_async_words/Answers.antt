use Rattle.std.proofs.lemmas.Grind.{common_steps}
use Rattle.std.proofs.Common.{arith}
use Rattle.script_lines.specs.Table.{said_by}
use Rattle.script_lines.proofs.call_forms.open_async_words.Goals as goal

pub returns-in_err-client : goal.returns-in_err-client
unfolding said_by
returns-in_err-client c = grind (arith, common_steps)

pub returns-in_err-place : goal.returns-in_err-place
unfolding said_by
returns-in_err-place c = grind (arith, common_steps)

pub returns-in_err-invocation : goal.returns-in_err-invocation
unfolding said_by
returns-in_err-invocation c = grind (arith, common_steps)

pub returns-in_err-name : goal.returns-in_err-name
unfolding said_by
returns-in_err-name c = grind (arith, common_steps)

pub returns-in_err-flags : goal.returns-in_err-flags
unfolding said_by
returns-in_err-flags c = grind (arith, common_steps)

pub returns-in_err-attributes : goal.returns-in_err-attributes
unfolding said_by
returns-in_err-attributes c = grind (arith, common_steps)

pub returns : goal.returns
unfolding said_by
returns c = grind (arith, common_steps)
