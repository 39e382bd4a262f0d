-- The text of a line that is written is its spelling.
use Rattle.std.proofs.Common.{◌≡◌, refl, ap, ℕ, List, [], ◌∷◌, ◌++◌}
use Rattle.std.specs.List.{join_with_byte}
use Rattle.std.proofs.lemmas.List.{append-nil}
use Rattle.script_lines.specs.declared.lines.Line.{Line}
use Rattle.script_lines.specs.Spelling.{tail_text, with_spaces, written_line, line_text, line_words}

joined_is : (w : List ℕ) (ws : List (List ℕ)) → w ++ tail_text ws ≡ join_with_byte 32 (w ∷ ws)
joined_is w [] = append-nil w
joined_is w (v ∷ ws) = ap (λ t. w ++ 32 ∷ t) (joined_is v ws)

same_text : (ws : List (List ℕ)) → with_spaces ws ≡ join_with_byte 32 ws
same_text [] = refl
same_text (w ∷ ws) = joined_is w ws

pub line_so : (x : Line) → written_line x ≡ line_text x
unfolding written_line line_text
line_so x = same_text (line_words x)
