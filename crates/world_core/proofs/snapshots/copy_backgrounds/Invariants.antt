use Rattle.std.proofs.Common.{◌≡◌, length, take, vec_capacity}
use Rattle.world_core.proofs.snapshots.copy_backgrounds.Given as goal

abbrev pub invariant-loop-background : goal.invariant-loop-background
invariant-loop-background l = record { copied : l.copies.items ≡ take l.background-index l.snapshots; room : vec_capacity l.copies ≡ length l.snapshots }
