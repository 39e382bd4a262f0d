use Rattle.std.proofs.Common.{arith}
use Rattle.ckpt_types.proofs.EndsLemmas.{length-pieces_in}
use Rattle.ckpt_types.proofs.piece_room.PieceRoom.piece.Goals as goal

pub piece_between-requires-clause-there : goal.piece_between-requires-clause-there
piece_between-requires-clause-there c =
    let there = rw (← c.self.view_is, length-pieces_in _ _ _ c.self.invariant.pieces) at c.requires in
    let many = c.self.invariant.pieces.many in
    rw c.as_slice-2.ensures.value (omega arith)
