use Rattle.script_lines.specs.Table.{read_group}
use Rattle.script_lines.specs.Spelling.{read_values}
use Rattle.script_lines.proofs.Writing.{one_written_more}
use Rattle.script_lines.proofs.call_printing.read_elements.Goals as goal

pub loop-element-preserved : goal.loop-element-preserved
loop-element-preserved c = one_written_more read_group read_values c.args.elements.now c.loop-element.element-index c.element-item.result c.args.out.now.items c.loop-element.out.items c.read_element.new.out.items c.loop-element-test.true c.element-item.is c.loop-element.invariant c.in_ok-read_element.ensures
