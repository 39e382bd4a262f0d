use Rattle.std.proofs.Common.{◌≡◌, ◌++◌, map}
use Rattle.load_script.specs.Load.{numbers, section_made}
use Rattle.load_script.proofs.generating.add_sections.Given as goal

abbrev pub invariant-loop-section : goal.invariant-loop-section
invariant-loop-section l = l.lines.items ≡ l.initial.lines.items ++ map section_made (numbers l.section)
