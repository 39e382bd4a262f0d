use Rattle.std.proofs.Common.{◌++◌, ap, ◌∙◌}
use Rattle.run_labels.specs.Outcomes.{piece_text}
use Rattle.run_labels.proofs.EachText.{append-flat_map-take}
use Rattle.run_labels.proofs.outcomes.append_each_piece.Goals as goal

pub loop-place-preserved : goal.loop-place-preserved
loop-place-preserved c =
    let piece = c.piece.result.now in
    c.in_ok-append_spaced_bytes.ensures
    ∙ ap (λ out. out ++ piece_text piece) c.loop-place.invariant
    ∙ append-flat_map-take piece_text c.args.out.now.items c.args.pieces.now c.loop-place.place piece c.piece.ensures
