use Rattle.std.proofs.Common.{arith, length, length-append, ◌*◌, ◌/◌, ap, ◌∙◌, Ok}
use Rattle.std.proofs.lemmas.Result.{err_from_is_err_and}
use Rattle.script_lines.specs.Table.{texts, read_group, read_element}
use Rattle.script_lines.proofs.Groups.{groups_go_on, groups_end, groups_done, rest_from, next_group}
use Rattle.script_lines.proofs.call_forms.several_read_elements.Goals as goal

pub returns-in_err-element : goal.returns-in_err-element
returns-in_err-element c =
    let p = err_from_is_err_and c.from_residual-in_err-element.result c.from_residual-in_err-element.ensures.1 in
    let there = rest_from c.args.words.now (3 * c.loop-i.i) in
    rw (p.1, p.2) (groups_end read_group read_element c.in_err-element.field-0.0 c.loop-i.elements.items (length c.args.words.now / 3) c.loop-i.i _ _ c.loop-i-test.true (rw there at c.in_err-element.ensures) c.loop-i.invariant.exact)

pub loop-i-preserved : goal.loop-i-preserved
loop-i-preserved c =
    let there = rest_from c.args.words.now (3 * c.loop-i.i) in
    record {
      exact = rw c.in_ok-push.ensures.items (groups_go_on read_group read_element c.loop-i.elements.items (length c.args.words.now / 3) c.loop-i.i _ _ _ _ c.loop-i-test.true ((rw there at c.in_ok-element.ensures) ∙ ap (λ rest. Ok (c.in_ok-element.element, texts rest)) (next_group c.args.words.now c.loop-i.i)) c.loop-i.invariant.exact);
      count = rw c.in_ok-push.ensures.items (simp length-append (omega (arith, c.loop-i.invariant.count)));
      few = omega (arith, c.loop-i-test.true);
    }

pub from_vec-requires : goal.from_vec-requires
from_vec-requires c = omega (arith, c.loop-i.invariant.count, c.loop-i.invariant.few, c.requires.1)

pub returns : goal.returns
returns c = rw c.from_vec.ensures (groups_done read_group read_element c.loop-i.elements.items (length c.args.words.now / 3) c.loop-i.i _ _ c.loop-i-test.false c.loop-i.invariant.exact)
