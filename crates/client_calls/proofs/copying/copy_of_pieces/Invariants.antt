use Rattle.std.proofs.Common.{◌≡◌, ◌+◌, length, take, drop}
use Rattle.std.specs.Prelude.{sum_by}
use Rattle.client_calls.proofs.copying.copy_of_pieces.Given as goal

-- the room that is left is for the pieces that are left
abbrev pub invariant-loop-place : goal.invariant-loop-place
invariant-loop-place l = record {
  copied : l.copy.pieces ≡ take l.place l.pieces;
  places : l.copy.spare_pieces + l.place ≡ length l.pieces;
  bytes : l.copy.spare_bytes ≡ sum_by length (drop l.place l.pieces);
}
