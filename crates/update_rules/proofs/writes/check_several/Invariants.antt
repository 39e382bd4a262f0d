use Rattle.std.proofs.Common.{◌≡◌, ◌-◌, ◌<◌, ◌^◌, drop, take}
use Rattle.ckpt_types.specs.Sections.{present, memory_used}
use Rattle.ckpt_types.specs.Updates.{elements_written, first_place}
use Rattle.update_rules.specs.Told.{answer_with}
use Rattle.update_rules.specs.Writes.{with_elements}
use Rattle.update_rules.proofs.writes.check_several.Given as goal

abbrev pub invariant-loop-place : goal.invariant-loop-place
invariant-loop-place g l =
    let sections = present l.now (g.S.Sections.sections l.sections) in
    let first = first_place l.elements (g.S.Sections.sections l.sections) in
    let left = with_elements l.now (take l.place l.elements) sections in record {
      rest : answer_with first (elements_written l.attrs l.now 0 l.elements sections) ≡ answer_with first (elements_written l.attrs l.now l.place (drop l.place l.elements) left);
      used : l.used ≡ memory_used left;
      small : l.used < 2 ^ 128 - 2 ^ 64;
    }
