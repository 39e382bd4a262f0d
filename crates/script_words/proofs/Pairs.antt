-- Hexadecimal digits, one pair after the other.
use Rattle.std.proofs.Common.{◌≡◌, refl, sym, ◌∙◌, ap, ℕ, ◌+◌, ◌*◌, ◌<◌, ◌≤◌, true, ◌==◌, List, length, slice_index, take, drop, ◌⊎◌, inl, inr, Option, Some, None, unwrap_or, Result, Ok, Err, arith}
use Rattle.std.specs.Result.{result_ok}
use Rattle.std.proofs.lemmas.Bool.{agree_below_at, eqb-true}
use Rattle.hex.specs.Hex.{hex_digit_value, pair_value, decode_pairs}
use Rattle.hex.proofs.Pairs.{prepend, decode_err}
use Rattle.hex.specs.declared.error.FromHexError.{FromHexError}
use Rattle.script_words.specs.declared.digits.TheConstants.{DIGIT_VALUES}

-- the table has the value of each digit, and 255 for each other byte
pub table_value : (b : ℕ) → b < 256 → slice_index DIGIT_VALUES b ≡ unwrap_or (hex_digit_value b) 255
table_value b small = eqb-true _ _ (agree_below_at (λ n. slice_index DIGIT_VALUES n == unwrap_or (hex_digit_value n) 255) (λ n. true) 256 b refl small)

pub some_value : (o : Option ℕ) (v : ℕ) → v ≡ unwrap_or o 255 → v ≤ 15 → o ≡ Some v
some_value (Some w) v e le = ap (λ x. Some x) (sym e)
some_value None v e le = absurd (omega (arith, e, le))

-- no digit says more than 15
small_value : (b v : ℕ) → hex_digit_value b ≡ Some v → v ≤ 15
small_value b v e = grind (arith, e)

pub no_value : (b v : ℕ) → v ≡ unwrap_or (hex_digit_value b) 255 → 15 < v → hex_digit_value b ≡ None
no_value b v e lt = go (hex_digit_value b) refl
  where
    go : (o : Option ℕ) → hex_digit_value b ≡ o → o ≡ None
    go None h = refl
    go (Some w) h =
        let small = small_value b w h in
        let same : v ≡ w = e ∙ ap (λ o. unwrap_or o 255) h in
        absurd (omega (arith, small, same, lt))

-- two digits say a byte
pub pair_ok : (a b i h l : ℕ) → hex_digit_value a ≡ Some h → hex_digit_value b ≡ Some l → pair_value a b i ≡ Ok (h * 16 + l)
pair_ok a b i h l e k = rw (e, k) refl

abbrev pub Refused : Result ℕ FromHexError → Type 0
Refused r = (e : FromHexError) × (r ≡ Err e)

-- and where one is none, they say none
pub pair_first : (a b i : ℕ) → hex_digit_value a ≡ None → Refused (pair_value a b i)
pair_first a b i e = rw e (_, refl)

pub pair_second : (a b i h : ℕ) → hex_digit_value a ≡ Some h → hex_digit_value b ≡ None → Refused (pair_value a b i)
pair_second a b i h e k = rw (e, k) (_, refl)

pair_refused_at : (s out : List ℕ) (i : ℕ) → 2 * i + 1 < length s → Refused (pair_value (slice_index s (2 * i)) (slice_index s (2 * i + 1)) (2 * i))
    → decode_pairs 0 s ≡ prepend (take i out) (decode_pairs (2 * i) (drop (2 * i) s)) → result_ok (decode_pairs 0 s) ≡ None
pair_refused_at s out i fits bad inv = ap (λ r. result_ok r) (decode_err s out i bad.0 fits bad.1 inv)

-- where one of a pair is no digit, the digits say nothing
pub pair_refused : (s out : List ℕ) (i high low : ℕ) → 2 * i + 1 < length s → (15 < high) ⊎ ((high ≤ 15) × (15 < low))
    → (high ≤ 15 → hex_digit_value (slice_index s (2 * i)) ≡ Some high) → (15 < high → hex_digit_value (slice_index s (2 * i)) ≡ None) → (15 < low → hex_digit_value (slice_index s (2 * i + 1)) ≡ None)
    → decode_pairs 0 s ≡ prepend (take i out) (decode_pairs (2 * i) (drop (2 * i) s)) → result_ok (decode_pairs 0 s) ≡ None
pair_refused s out i high low fits (inl bad) digit none other inv = pair_refused_at s out i fits (pair_first (slice_index s (2 * i)) (slice_index s (2 * i + 1)) (2 * i) (none bad)) inv
pair_refused s out i high low fits (inr bad) digit none other inv = pair_refused_at s out i fits (pair_second (slice_index s (2 * i)) (slice_index s (2 * i + 1)) (2 * i) high (digit bad.0) (other bad.1)) inv
