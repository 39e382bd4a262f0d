-- The names of sections, letter by letter.
use Rattle.std.proofs.Common.{◌≡◌, ℕ, ◌+◌, ◌/◌, ◌%◌, ◌<◌, [], ◌∷◌, ◌++◌, codes, decimal, ap, ◌∙◌, arith}
use Rattle.std.proofs.lemmas.Fmt.{decimal_digit}
use Rattle.load_script.specs.Load.{section_name}

-- the letter, and two digits
pub section_name-is : (section : ℕ) → section < 32 → section_name section ≡ 115 ∷ (48 + section / 10) ∷ (48 + section % 10) ∷ []
section_name-is section few =
    let tens : section / 10 < 10 = omega (arith, few) in
    let ones : section % 10 < 10 = omega (arith, few) in
    ap (λ digits. codes "s" ++ digits ++ decimal (section % 10)) (decimal_digit (section / 10) tens) ∙ ap (λ digits. 115 ∷ (48 + section / 10) ∷ digits) (decimal_digit (section % 10) ones)
