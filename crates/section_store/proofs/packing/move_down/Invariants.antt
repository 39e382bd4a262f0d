use Rattle.std.proofs.Common.{◌≡◌, ◌++◌, map, take, drop}
use Rattle.section_store.specs.Packing.{lowered}
use Rattle.section_store.proofs.packing.move_down.Given as goal

abbrev pub invariant-loop-extent : goal.invariant-loop-extent
invariant-loop-extent l = l.extent-items ≡ map (lowered l.moved) (take l.extent-index l.fn.extents.items) ++ drop l.extent-index l.fn.extents.items
