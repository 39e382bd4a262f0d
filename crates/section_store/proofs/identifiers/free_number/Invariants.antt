use Rattle.std.proofs.Common.{◌-◌, ◌≤◌}
use Rattle.ckpt_types.specs.Sections.{present}
use Rattle.ckpt_types.specs.Updates.{free_number}
use Rattle.section_store.proofs.identifiers.free_number.Given as goal

abbrev pub invariant-loop-place : goal.invariant-loop-place
invariant-loop-place l = record {
  first : 1 ≤ l.number;
  least : l.number ≤ free_number (present l.now l.kept.sections);
}

abbrev pub decreases-loop-place : goal.decreases-loop-place
decreases-loop-place l = free_number (present l.now l.kept.sections) - l.number
