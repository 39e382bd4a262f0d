use Rattle.std.proofs.Common.{◌≡◌, length, take, vec_capacity}
use Rattle.client_calls.proofs.copying.copy_of_places.Given as goal

abbrev pub invariant-loop-place : goal.invariant-loop-place
invariant-loop-place l = record { copied : l.copies.items ≡ take l.place-index l.places; room : vec_capacity l.copies ≡ length l.places }
