-- Numbers as they are read, digit by digit.
use Rattle.std.proofs.Common.{◌≡◌, refl, ℕ, ◌+◌, ◌-◌, ◌*◌, ◌^◌, ◌<◌, ◌≤◌, Bool, true, false, ◌&&◌, List, [], ◌∷◌, length, take, length-take-le, get_or, Some, None, option_and_then, nat_le, arith, rules, if◌then◌else◌}
use Rattle.std.specs.Char.{is_ascii_digit, digit_value}
use Rattle.std.specs.Str.{all_ascii_digits}
use Rattle.std.specs.Str.Parse.{AllDigits, digits_value}
use Rattle.std.specs.Int.{IsInRange}
use Rattle.std.proofs.lemmas.Int.Digits.{digits_value_more, digits_more}
use Rattle.std.proofs.lemmas.Str.Parse.{IsNumeralModel, numerals_by_value, tells_all_ascii_digits, digit_at, digits_value-take-le, digits_value_short}
use Rattle.script_words.specs.Words.{starts_well, numeral, number_within}

pub own : IsNumeralModel (λ ds. all_ascii_digits ds ≡ true) (digits_value 10)
own = numerals_by_value (λ ds. all_ascii_digits ds ≡ true) tells_all_ascii_digits

pub value_digit : (c : ℕ) → is_ascii_digit c ≡ true → (digit_value c ≡ c - 48) × (digit_value c < 10)
value_digit c h = search rules

pub no_digit : (ds : List ℕ) (i : ℕ) → i < length ds → is_ascii_digit (get_or ds i 0) ≡ false → AllDigits 10 ds → 2 ^ 64 ≤ digits_value 10 ds
no_digit ds i within other all = let r : IsInRange 48 57 (get_or ds i 0) = digit_at ds i all within in absurd (grind (arith, r, other))

-- where the number is too large with the next digit, it is with all
pub too_large : (ds : List ℕ) (i value : ℕ) → i < length ds → is_ascii_digit (get_or ds i 0) ≡ true → value ≡ digits_value 10 (take i ds) → 2 ^ 64 ≤ value * 10 + (get_or ds i 0 - 48) → 2 ^ 64 ≤ digits_value 10 ds
too_large ds i value within digit is large =
    let d = value_digit (get_or ds i 0) digit in
    let more = digits_value_more 10 ds i within in
    let le = digits_value-take-le 10 ds (i + 1) (omega arith) in
    omega (arith, d.0, more, le, is, large)

pub one_digit_more : (ds : List ℕ) (i value next : ℕ) → i < length ds → is_ascii_digit (get_or ds i 0) ≡ true → AllDigits 10 (take i ds) → value ≡ digits_value 10 (take i ds) → next ≡ value * 10 + (get_or ds i 0 - 48)
    → record { digits : AllDigits 10 (take (i + 1) ds); value : next ≡ digits_value 10 (take (i + 1) ds) }
one_digit_more ds i value next within digit all is e =
    let d = value_digit (get_or ds i 0) digit in
    let more = digits_value_more 10 ds i within in
    record { digits = digits_more 10 ds i within all d.1; value = omega (arith, d.0, more, is, e) }

pub badly_begun : (low high : ℕ) (w : List ℕ) → starts_well w ≡ false → None ≡ number_within low high w
unfolding number_within numeral
badly_begun low high w h = rw h refl

pub past_all : (low high : ℕ) (w : List ℕ) → high < 2 ^ 64 → starts_well w ≡ true → (AllDigits 10 w → 2 ^ 64 ≤ digits_value 10 w) → None ≡ number_within low high w
unfolding number_within numeral
past_all low high w fits h large = rw h (go (all_ascii_digits w) refl)
  where
    go : (b : Bool) → all_ascii_digits w ≡ b → None ≡ option_and_then (λ n. if nat_le low n && nat_le n high then Some n else None) (if b then Some (digits_value 10 w) else None)
    go true all =
        let far = large (own.to w all) in
        let outside : (nat_le low (digits_value 10 w) && nat_le (digits_value 10 w) high) ≡ false = grind (arith, far, fits) in
        rw outside refl
    go false all = refl

pub number_is : (low high n : ℕ) (w : List ℕ) → starts_well w ≡ true → AllDigits 10 w → n ≡ digits_value 10 w → number_within low high w ≡ (if nat_le low n && nat_le n high then Some n else None)
unfolding number_within numeral
number_is low high n w h all is = rw (h, own.from w all, is) refl

-- fewer than 19 digits say a number to which one digit more can be added
pub small_yet : (ds : List ℕ) (i value : ℕ) → i < length ds → length ds ≤ 19 → AllDigits 10 (take i ds) → value ≡ digits_value 10 (take i ds) → value < 10 ^ 18
small_yet ds i value within few all is =
    let short : length (take i ds) ≤ 18 = omega (arith, length-take-le i ds, within, few) in
    let small = digits_value_short own (take i ds) 18 (own.from (take i ds) all) short in
    omega (arith, small, is)

well_alone : (d : ℕ) → starts_well (d ∷ []) ≡ true
well_alone d = grind arith

-- a single byte that is no digit is no number
pub no_digit_alone : (low high d : ℕ) → high < 2 ^ 64 → is_ascii_digit d ≡ false → None ≡ number_within low high (d ∷ [])
no_digit_alone low high d fits other = past_all low high (d ∷ []) fits (well_alone d) (no_digit (d ∷ []) 0 (omega arith) other)

-- a single digit is the number that it says
pub digit_alone : (low high d : ℕ) → is_ascii_digit d ≡ true → number_within low high (d ∷ []) ≡ (if nat_le low (d - 48) && nat_le (d - 48) high then Some (d - 48) else None)
digit_alone low high d digit =
    let more = one_digit_more (d ∷ []) 0 0 (d - 48) (omega arith) digit tt refl (omega arith) in
    number_is low high (d - 48) (d ∷ []) (well_alone d) more.digits more.value
