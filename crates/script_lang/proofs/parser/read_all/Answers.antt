use Rattle.std.proofs.Common.{rules, ◌≡◌, length}
use Rattle.std.proofs.lemmas.Result.{err_from_is_err_and}
use Rattle.script_lang.proofs.Steps.{lines_go_on, lines_end, lines_done}
use Rattle.script_lang.proofs.parser.read_all.Goals as goal

pub returns-in_err-take-clause-err : goal.returns-in_err-take-clause-err
returns-in_err-take-clause-err c =
    let p = err_from_is_err_and c.from_residual.result c.from_residual.ensures.1 in
    rw (p.1, p.2) (lines_end c.in_err-take.field-0.0 c.loop-rest.reader c.loop-rest.rest.now c.first_line.result.0.now c.first_line.result.1.now _ c.first_line.ensures.first c.in_err-take.ensures.err c.loop-rest.invariant)

pub loop-rest-preserved : goal.loop-rest-preserved
loop-rest-preserved c = lines_go_on c.loop-rest.reader c.take.new.self c.loop-rest.rest.now c.first_line.result.0.now c.first_line.result.1.now _ c.first_line.ensures.first c.in_ok-take.ensures.ok c.loop-rest.invariant

pub returns-clause-ok : goal.returns-clause-ok
returns-clause-ok c =
    let none : length c.loop-rest.rest.now ≡ 0 = search rules in
    lines_done c.loop-rest.reader c.loop-rest.rest.now _ none c.loop-rest.invariant
