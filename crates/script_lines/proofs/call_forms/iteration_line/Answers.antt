use Rattle.std.proofs.lemmas.Grind.{common_steps}
use Rattle.std.proofs.Common.{◌∙◌, ap, subst, sym, arith}
use Rattle.script_words.specs.Reasons.{Reads}
use Rattle.script_lines.specs.Table.{Form, line_by, texts}
use Rattle.script_lines.proofs.Shaped.{iteration_form-is}
use Rattle.script_lines.proofs.call_forms.iteration_line.Goals as goal

pub returns-in_err-client : goal.returns-in_err-client
returns-in_err-client c = subst (λ (f : Form). Reads c.from_residual.result (line_by f (texts c.args.words.now))) (sym (iteration_form-is c.args.call)) (grind (arith, common_steps))

pub returns-in_err-iteration : goal.returns-in_err-iteration
returns-in_err-iteration c = subst (λ (f : Form). Reads c.from_residual-in_err-iteration.result (line_by f (texts c.args.words.now))) (sym (iteration_form-is c.args.call)) (grind (arith, common_steps))

pub returns : goal.returns
returns c = ap (λ (f : Form). line_by f (texts c.args.words.now)) (iteration_form-is c.args.call) ∙ (grind (arith, common_steps))
