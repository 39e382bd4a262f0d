use Rattle.std.proofs.lemmas.Grind.{common_steps}
use Rattle.std.proofs.Common.{◌∙◌, ap, subst, sym, arith}
use Rattle.script_words.specs.Reasons.{Reads}
use Rattle.script_lines.specs.Table.{Form, line_by, texts}
use Rattle.script_lines.proofs.Shaped.{timed_form-is}
use Rattle.script_lines.proofs.call_forms.timed_line.Goals as goal

pub returns-in_err-client : goal.returns-in_err-client
returns-in_err-client c = subst (λ (f : Form). Reads c.from_residual.result (line_by f (texts c.args.words.now))) (sym (timed_form-is c.args.call)) (grind (arith, common_steps))

pub returns-in_err-place : goal.returns-in_err-place
returns-in_err-place c = subst (λ (f : Form). Reads c.from_residual-in_err-place.result (line_by f (texts c.args.words.now))) (sym (timed_form-is c.args.call)) (grind (arith, common_steps))

pub returns-in_err-time : goal.returns-in_err-time
returns-in_err-time c = subst (λ (f : Form). Reads c.from_residual-in_err-time.result (line_by f (texts c.args.words.now))) (sym (timed_form-is c.args.call)) (grind (arith, common_steps))

pub returns : goal.returns
returns c = ap (λ (f : Form). line_by f (texts c.args.words.now)) (timed_form-is c.args.call) ∙ (grind (arith, common_steps))
