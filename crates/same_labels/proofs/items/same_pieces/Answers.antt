use Rattle.std.proofs.Common.{refl}
use Rattle.same_labels.proofs.SameItems.{same_more}
use Rattle.same_labels.proofs.items.same_pieces.Goals as goal

pub loop-i-preserved : goal.loop-i-preserved
loop-i-preserved c = (c.loop-i.invariant.0, same_more c.args.one.now c.args.other.now c.loop-i.i c.piece.result.now c.piece-in-loop-i.result.now c.piece.ensures c.piece-in-loop-i.ensures c.loop-i.invariant.1 (c.if-not-same_bytes.ensures.0 refl))
