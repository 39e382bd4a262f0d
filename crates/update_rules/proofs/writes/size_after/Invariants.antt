use Rattle.std.proofs.Common.{◌≡◌, max, take}
use Rattle.update_rules.specs.Writes.{last_end_in}
use Rattle.update_rules.proofs.writes.size_after.Given as goal

abbrev pub invariant-loop-element : goal.invariant-loop-element
invariant-loop-element l = l.size ≡ max l.size_before (last_end_in l.id (take l.element-index l.elements))
