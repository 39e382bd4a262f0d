-- The words of a line, as slices and as texts.
use Rattle.std.proofs.Common.{◌≡◌, refl, ap, ◌<◌, ◌||◌, ℕ, List, [], ◌∷◌, length, Err, arith}
use denote.Ref.{Bor}
use Rattle.std.specs.List.{list_any}
use Rattle.script_words.specs.declared.reason.Reason.TheVariants as reasons
use Rattle.script_lines.specs.Table.{texts, is_empty, line_said}

pub any_texts : (ws : List (Bor (List ℕ))) → list_any is_empty (texts ws) ≡ list_any (λ w. is_empty w.now) ws
any_texts [] = refl
any_texts (w ∷ ws) = ap (λ b. is_empty w.now || b) (any_texts ws)

-- without a word there is no line
pub no_words : (ws : List (Bor (List ℕ))) → length ws < 1 → line_said (texts ws) ≡ Err reasons.Word
unfolding line_said
no_words [] none = refl
no_words (w ∷ ws) none = absurd (omega (arith, none))
