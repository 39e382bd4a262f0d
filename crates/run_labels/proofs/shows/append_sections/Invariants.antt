use Rattle.std.proofs.Common.{◌≡◌, ◌++◌, take}
use Rattle.std.specs.List.{flat_map}
use Rattle.run_labels.specs.Shows.{shown_section_text}
use Rattle.run_labels.proofs.shows.append_sections.Given as goal

abbrev pub invariant-loop-section : goal.invariant-loop-section
invariant-loop-section l = l.out.items ≡ l.initial.out.items ++ flat_map shown_section_text (take l.section-index l.sections)
