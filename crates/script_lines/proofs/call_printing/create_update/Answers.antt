use Rattle.std.proofs.Common.{rules, append_assoc}
use Rattle.std.proofs.lemmas.Result.{IfOk-equal}
use Rattle.script_lines.specs.Spelling.{written_update}
use Rattle.script_lines.proofs.call_printing.create_update.Goals as goal

pub returns : goal.returns
unfolding written_update
returns c = search (rules, IfOk-equal, append_assoc)
