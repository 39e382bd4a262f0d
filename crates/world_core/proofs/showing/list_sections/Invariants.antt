use Rattle.std.proofs.Common.{◌≡◌, map, take}
use Rattle.ckpt_types.specs.Sections.{present}
use Rattle.ckpt_machine.specs.Listing.{section_listed}
use Rattle.world_core.proofs.showing.list_sections.Given as goal

abbrev pub invariant-loop-place : goal.invariant-loop-place
invariant-loop-place l = l.sections.items ≡ map section_listed (present l.now (take l.place l.store.sections))
