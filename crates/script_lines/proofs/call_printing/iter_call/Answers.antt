use Rattle.std.proofs.Common.{rules, append_assoc}
use Rattle.std.proofs.lemmas.Result.{IfOk-equal}
use Rattle.script_lines.specs.Spelling.{written_call}
use Rattle.script_lines.proofs.call_printing.iter_call.Goals as goal

pub returns : goal.returns
unfolding written_call
returns c = search (rules, IfOk-equal, append_assoc)
