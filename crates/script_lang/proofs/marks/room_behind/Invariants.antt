use Rattle.std.proofs.Common.{◌≡◌, ◌+◌, sum_by, take}
use Rattle.script_lang.proofs.marks.room_behind.Given as goal

abbrev pub invariant-loop-element : goal.invariant-loop-element
invariant-loop-element l = l.left + sum_by (λ e. e.len) (take l.element-index l.elements) ≡ l.room
