-- Pieces that are copied one after another: those that are done, and the bytes of those that are left.
use Rattle.std.proofs.Common.{◌≡◌, ℕ, ◌+◌, ◌∷◌, ◌++◌, [], List, length, take, drop, ap, ◌∙◌}
use Rattle.std.specs.Prelude.{Some, slice_get, sum_by}
use Rattle.std.proofs.lemmas.List.{take_more}
use Rattle.std.proofs.lemmas.List.Sums.{sum_by-drop_more}
use Rattle.std.proofs.lemmas.Option.{get_or_from_slice_get, slice_get_within}

-- those that are done and the next one
pub pieces-next : (pieces : List (List ℕ)) (i : ℕ) (piece : List ℕ) → slice_get pieces i ≡ Some piece → take (i + 1) pieces ≡ take i pieces ++ piece ∷ []
pieces-next pieces i piece is =
    take_more pieces i piece (slice_get_within pieces i piece is) ∙ ap (λ y. take i pieces ++ y ∷ []) (get_or_from_slice_get pieces i piece piece is)

-- the bytes of those that are left are those of the next one, and of those behind it
pub bytes-next : (pieces : List (List ℕ)) (i : ℕ) (piece : List ℕ) → slice_get pieces i ≡ Some piece → sum_by length (drop i pieces) ≡ length piece + sum_by length (drop (i + 1) pieces)
bytes-next pieces i piece is =
    sum_by-drop_more length pieces i piece (slice_get_within pieces i piece is) ∙ ap (λ y. length y + sum_by length (drop (i + 1) pieces)) (get_or_from_slice_get pieces i piece piece is)
