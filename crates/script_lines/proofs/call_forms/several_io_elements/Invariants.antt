use Rattle.std.proofs.Common.{◌≡◌, ◌-◌, ◌*◌, ◌/◌, ◌≤◌, length, drop}
use Rattle.script_lines.specs.Table.{gather, io_group, io_element, texts}
use Rattle.script_lines.proofs.Groups.{with_front}
use Rattle.script_lines.proofs.call_forms.several_io_elements.Given as goal

abbrev pub invariant-loop-i : goal.invariant-loop-i
invariant-loop-i l = record {
  exact : with_front l.elements.items (gather io_group io_element (length l.words / 3 - l.i) (texts (drop (3 * l.i) l.words))) ≡ gather io_group io_element (length l.words / 3) (texts l.words);
  count : length l.elements.items ≡ l.i;
  few : l.i ≤ length l.words / 3;
}
