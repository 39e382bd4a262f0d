use Rattle.std.proofs.Common.{◌≡◌, ◌++◌, take}
use Rattle.std.specs.List.{flat_map}
use Rattle.run_labels.specs.Outcomes.{piece_text}
use Rattle.run_labels.proofs.outcomes.append_each_piece.Given as goal

abbrev pub invariant-loop-place : goal.invariant-loop-place
invariant-loop-place l = l.out.items ≡ l.initial.out.items ++ flat_map piece_text (take l.place l.pieces)
