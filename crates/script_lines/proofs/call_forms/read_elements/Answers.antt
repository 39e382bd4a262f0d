use Rattle.std.proofs.Common.{◌≡◌, arith, length, ◌/◌}
use Rattle.std.proofs.lemmas.Result.{err_from_is_err_and}
use Rattle.script_lines.specs.Table.{texts, read_group, read_element}
use Rattle.script_lines.proofs.Groups.{is_one, one_fails}
use Rattle.script_lines.proofs.call_forms.read_elements.Goals as goal

pub returns-in_err-element : goal.returns-in_err-element
returns-in_err-element c =
    let p = err_from_is_err_and c.from_residual.result c.from_residual.ensures.1 in
    let one : length c.args.words.now / 3 ≡ 1 = omega (arith, c.if-words-ne3.false) in
    rw (p.1, p.2, one) (one_fails read_group read_element c.in_err-element.field-0.0 (texts c.args.words.now) c.in_err-element.ensures)

pub returns : goal.returns
returns c =
    let one : length c.args.words.now / 3 ≡ 1 = omega (arith, c.if-words-ne3.false) in
    rw (c.one.ensures, one) (is_one read_group read_element (texts c.args.words.now) c.in_ok-element.element _ c.in_ok-element.ensures)
