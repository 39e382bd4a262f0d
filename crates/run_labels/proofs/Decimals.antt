-- The digits of a number, one behind the other.
use Rattle.std.proofs.Common.{◌≡◌, sym, ap, ◌∙◌, ℕ, ◌+◌, ◌/◌, ◌%◌, ◌^◌, ◌<◌, ◌≤◌, List, [], ◌∷◌, ◌++◌, append_assoc, decimal}
use Rattle.std.proofs.lemmas.Fmt.{decimal_step}

-- behind the digits of a tenth comes the last digit
pub last_digit : (front out new : List ℕ) (n : ℕ) → 10 ≤ n → n < 2 ^ 64 → out ≡ front ++ decimal (n / 10) → new ≡ out ++ (48 + n % 10) ∷ [] → new ≡ front ++ decimal n
last_digit front out new n many small before last = last ∙ ap (λ xs. xs ++ (48 + n % 10) ∷ []) before ∙ append_assoc front (decimal (n / 10)) ((48 + n % 10) ∷ []) ∙ ap (λ xs. front ++ xs) (sym (decimal_step n many small))
