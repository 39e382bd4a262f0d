use Rattle.std.proofs.Common.{◌≡◌, ◌++◌, take}
use Rattle.script_lines.specs.Table.{read_group}
use Rattle.script_lines.specs.Spelling.{read_values}
use Rattle.script_lines.proofs.Writing.{written_groups}
use Rattle.script_lines.proofs.call_printing.read_elements.Given as goal

abbrev pub invariant-loop-element : goal.invariant-loop-element
invariant-loop-element l = l.out.items ≡ l.initial.out.items ++ written_groups read_group read_values (take l.element-index l.elements)
