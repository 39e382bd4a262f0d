use Rattle.std.proofs.lemmas.Grind.{common_steps}
use Rattle.std.proofs.Common.{arith}
use Rattle.script_lines.specs.Table.{said_by}
use Rattle.script_lines.proofs.call_forms.iter_words.Goals as goal

pub returns-in_err-client : goal.returns-in_err-client
unfolding said_by
returns-in_err-client c = grind (arith, common_steps)

pub returns-in_err-iteration : goal.returns-in_err-iteration
unfolding said_by
returns-in_err-iteration c = grind (arith, common_steps)

pub returns-in_err-place : goal.returns-in_err-place
unfolding said_by
returns-in_err-place c = grind (arith, common_steps)

pub returns-in_err-choice : goal.returns-in_err-choice
unfolding said_by
returns-in_err-choice c = grind (arith, common_steps)

pub returns-in_err-time : goal.returns-in_err-time
unfolding said_by
returns-in_err-time c = grind (arith, common_steps)

pub returns : goal.returns
unfolding said_by
returns c = grind (arith, common_steps)
