use Rattle.std.proofs.Common.{◌≡◌, length, take, vec_capacity}
use Rattle.world_core.proofs.hands.copy_lists.Given as goal

abbrev pub invariant-loop-calls : goal.invariant-loop-calls
invariant-loop-calls l = record { copied : l.copies.items ≡ take l.calls-index l.lists; room : vec_capacity l.copies ≡ length l.lists }
