use Rattle.std.proofs.Common.{◌≡◌, length, take}
use Rattle.world_core.proofs.hands.fill_copyings.Given as goal

abbrev pub invariant-loop-r : goal.invariant-loop-r
invariant-loop-r l = record { copied : take l.r l.copies ≡ take l.r l.copyings; all : length l.copies ≡ length l.copyings }
