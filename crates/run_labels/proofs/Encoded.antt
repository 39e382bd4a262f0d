-- Bytes in hexadecimal digits, piece by piece.
use Rattle.std.proofs.Common.{◌≡◌, refl, sym, ap, ◌∙◌, ℕ, ◌+◌, ◌*◌, ◌/◌, ◌%◌, ◌<◌, ◌==◌, true, List, [], ◌∷◌, ◌++◌, length, append_assoc, append-nil, bit_and, slice_index, take, drop}
use Rattle.std.proofs.lemmas.Bool.{agree_below_at, eqb-true}
use Rattle.std.proofs.lemmas.List.{take-append-drop}
use Rattle.hex.specs.Hex.{encode_with, encode_lower, lower_digits}

-- one piece behind the other
encode_with-append : (t xs ys : List ℕ) → encode_with t (xs ++ ys) ≡ encode_with t xs ++ encode_with t ys
unfolding encode_with
encode_with-append t [] ys = refl
encode_with-append t (x ∷ xs) ys = rw (encode_with-append t xs ys) refl

-- no bytes have no digits
pub none_encoded : (front bytes : List ℕ) → length bytes ≡ 0 → front ≡ front ++ encode_lower bytes
unfolding encode_with
none_encoded front [] none = sym (append-nil front)
none_encoded front (b ∷ bytes) none = absurd (cc)

-- the digits of the bytes in front, and then of those behind
pub front_encoded : (out new bytes : List ℕ) (n : ℕ) → new ≡ out ++ encode_lower (take n bytes) → new ++ encode_lower (drop n bytes) ≡ out ++ encode_lower bytes
front_encoded out new bytes n is =
    ap (λ xs. xs ++ encode_lower (drop n bytes)) is ∙ append_assoc out (encode_lower (take n bytes)) (encode_lower (drop n bytes))
    ∙ ap (λ xs. out ++ xs) (sym (encode_with-append lower_digits (take n bytes) (drop n bytes)) ∙ ap (λ xs. encode_lower xs) (take-append-drop n bytes))

-- the digits of a byte, each in its half of one number
abbrev pub pair_number : ℕ → ℕ
pair_number b = (b / 16 + 256 * (b % 16)) + 12336 + 39 * bit_and (((b / 16 + 256 * (b % 16)) + 1542) / 16) 257

pub high_digit : (b : ℕ) → b < 256 → pair_number b % 256 ≡ slice_index lower_digits (b / 16)
high_digit b small = eqb-true _ _ (agree_below_at (λ n. (pair_number n % 256) == slice_index lower_digits (n / 16)) (λ n. true) 256 b refl small)

pub low_digit : (b : ℕ) → b < 256 → pair_number b / 256 ≡ slice_index lower_digits (b % 16)
low_digit b small = eqb-true _ _ (agree_below_at (λ n. (pair_number n / 256) == slice_index lower_digits (n % 16)) (λ n. true) 256 b refl small)
