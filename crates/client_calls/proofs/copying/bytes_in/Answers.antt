use Rattle.std.proofs.Common.{◌≡◌, ◌+◌, length, drop, arith}
use Rattle.std.specs.Prelude.{sum_by}
use Rattle.client_calls.proofs.CopiedPieces.{bytes-next}
use Rattle.client_calls.proofs.copying.bytes_in.Goals as goal

pub loop-place-preserved : goal.loop-place-preserved
loop-place-preserved c =
    let next = bytes-next c.args.pieces.now c.loop-place.place c.piece.result.now c.piece.ensures in
    let so_far : c.loop-place.bytes + sum_by length (drop c.loop-place.place c.args.pieces.now) ≡ sum_by length c.args.pieces.now = c.loop-place.invariant in
    grind (arith, next, so_far)
