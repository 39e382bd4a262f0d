use Rattle.std.proofs.Common.{sym}
use Rattle.ckpt_types.proofs.EndsLemmas.{length-pieces_in}
use Rattle.ckpt_types.proofs.piece_room.PieceRoom.len.Goals as goal

pub returns : goal.returns
returns c = rw (← c.self.view_is) (sym (length-pieces_in c.self.inside.count c.self.inside.breaks.items c.self.inside.bytes.bytes c.self.invariant.pieces))
