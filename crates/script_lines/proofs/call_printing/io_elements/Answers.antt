use Rattle.script_lines.specs.Table.{io_group}
use Rattle.script_lines.specs.Spelling.{io_values}
use Rattle.script_lines.proofs.Writing.{one_written_more}
use Rattle.script_lines.proofs.call_printing.io_elements.Goals as goal

pub loop-element-preserved : goal.loop-element-preserved
loop-element-preserved c = one_written_more io_group io_values c.args.elements.now c.loop-element.element-index c.element-item.result c.args.out.now.items c.loop-element.out.items c.io_element.new.out.items c.loop-element-test.true c.element-item.is c.loop-element.invariant c.in_ok-io_element.ensures
