use Rattle.std.proofs.Common.{◌++◌, ◌∷◌, [], ap, sym, ◌∙◌, arith}
use Rattle.client_calls.proofs.CopiedPieces.{bytes-next, pieces-next}
use Rattle.client_calls.proofs.copying.copy_of_pieces.Goals as goal

pub push-requires-clause-room : goal.push-requires-clause-room
push-requires-clause-room c =
    let next = bytes-next c.args.pieces.now c.loop-place.place c.piece.result.now c.piece.ensures in
    omega (arith, next, c.loop-place.invariant.bytes)

pub loop-place-preserved : goal.loop-place-preserved
loop-place-preserved c =
    let piece = c.piece.result.now in
    let next = bytes-next c.args.pieces.now c.loop-place.place piece c.piece.ensures in
    record {
      copied = ap (λ b. b.pieces) c.push.ensures ∙ ap (λ pieces. pieces ++ piece ∷ []) c.loop-place.invariant.copied ∙ sym (pieces-next c.args.pieces.now c.loop-place.place piece c.piece.ensures);
      places = omega (arith, ap (λ b. b.spare_pieces) c.push.ensures, c.loop-place.invariant.places);
      bytes = omega (arith, ap (λ b. b.spare_bytes) c.push.ensures, c.loop-place.invariant.bytes, next);
    }
