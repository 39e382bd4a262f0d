-- What stands before and behind the first byte of a kind.
use Rattle.std.proofs.Common.{◌≡◌, sym, ◌∙◌, ap, ℕ, ◌+◌, ◌-◌, ◌<◌, ◌≤◌, Bool, List, [], length, take, drop, take_all, length-drop, arith}
use Rattle.std.specs.List.{position_or_len, before_first, after_first}
use Rattle.std.proofs.Math.ListN.{drop_of_length-le}

pub cut_there : (p : ℕ → Bool) (w : List ℕ) (i : ℕ) → i ≡ position_or_len p w → i < length w
    → (take i w ≡ before_first p w) × (take (length w - (i + 1)) (drop (i + 1) w) ≡ after_first p w)
cut_there p w i is within =
    let all : take (length w - (i + 1)) (drop (i + 1) w) ≡ drop (i + 1) w = take_all (length w - (i + 1)) (drop (i + 1) w) (simp length-drop (omega arith)) in
    (ap (λ n. take n w) is, all ∙ ap (λ n. drop (n + 1) w) is)

pub nothing_cut : (p : ℕ → Bool) (w : List ℕ) (i : ℕ) → i ≡ position_or_len p w → length w ≤ i → (w ≡ before_first p w) × ([] ≡ after_first p w)
nothing_cut p w i is past =
    (sym (take_all (position_or_len p w) w (omega (arith, is))), sym (drop_of_length-le w {i = position_or_len p w + 1} (omega (arith, is))))
