-- What a class can say, and that its spelling is read again.
use Rattle.std.proofs.Common.{◌≡◌, refl, ◌∙◌, ap, ℕ, zero, suc, ◌+◌, ◌-◌, ◌^◌, ◌<◌, ◌≤◌, Bool, true, false, ◌&&◌, ◌==◌, List, [], ◌∷◌, ◌++◌, length, get_or, ℤ, pos, negsuc, Some, None, option_map, option_and_then, Ok, nat_le, arith, if◌then◌else◌, decimal, bytes_eq, codes}
use Rattle.std.specs.Str.{all_ascii_digits}
use Rattle.std.specs.Str.Parse.{digits_value}
use Rattle.std.specs.List.{before_first, after_first, position_or_len}
use Rattle.std.proofs.lemmas.Fmt.{digits_decimal, digits_value-decimal, first_decimal, decimal_nonempty, decimal_digit}
use Rattle.hex.specs.Hex.{encode_lower, encode_with, IsBytes}
use Rattle.hex.proofs.HexLemmas.{decode_of-encode_lower}
use Rattle.ckpt_types.specs.declared.calls.CallbackSet.{CallbackSet}
use Rattle.ckpt_types.specs.declared.calls.Version.{Version}
use Rattle.ckpt_types.specs.declared.identities.ActorName.{ActorName}
use Rattle.ckpt_types.specs.declared.identities.ActorName.TheVariants as actor
use Rattle.ckpt_types.specs.declared.identities.Who.{Who}
use Rattle.ckpt_types.specs.declared.identities.Who.TheVariants as whose
use Rattle.ckpt_types.specs.declared.update.NewId.{NewId}
use Rattle.ckpt_types.specs.declared.update.NewId.TheVariants as new_ids
use Rattle.ckpt_types.specs.Limits.{client_numbers, ckpt_numbers, nodes_max, places_max, section_id_max}
use Rattle.script_words.specs.Words.{Class, a_client, a_node, a_place, an_iteration, a_ckpt, a_number, a_time, a_moment, some_bytes, an_id, a_new_id, a_version, the_callbacks, a_who, Meaning, read_word, numeral, number_within, lettered, starts_well, time_of, bytes_of, id_of, new_id_of, version_of, callbacks_of, named_call, who_of, is_dot}
use Rattle.ckpt_types.specs.Spelling.{time_text, who_text}
use Rattle.script_words.specs.Spelling.{spell, new_id_text, callbacks_text}
use Rattle.script_words.specs.Fitting.{CanSay, Good, IsTime, IsMoment, IsVersion, IsNewId, IsCaller, IsWho}
use Rattle.script_words.proofs.Numbers.{own}
use Rattle.script_words.proofs.Spelled.{call_spelled, time_spelled, version_spelled}

well_begun : (w : List ℕ) → 0 < length w → (get_or w 0 0 ≡ 48 → length w ≤ 1) → starts_well w ≡ true
well_begun [] some zeros = absurd (omega (arith, some))
well_begun (d ∷ ds) some zeros = grind (arith, zeros)

no_zero : (n : ℕ) → n < 2 ^ 64 → get_or (decimal n) 0 0 ≡ 48 → length (decimal n) ≤ 1
no_zero zero small h = rw (decimal_digit 0 (omega arith)) (omega arith)
no_zero (suc n) small h = let first = first_decimal (suc n) (omega arith) small in absurd (omega (arith, first, h))

-- a number below 2 ^ 64 is spelled as a numeral of it
pub numeral_again : (n : ℕ) → n < 2 ^ 64 → numeral (decimal n) ≡ Some n
unfolding numeral
numeral_again n small =
    let well : starts_well (decimal n) ≡ true = well_begun (decimal n) (decimal_nonempty n small) (no_zero n small) in
    rw (well, digits_decimal own n small, digits_value-decimal own n small) refl

pub number_again : (low high n : ℕ) → low ≤ n → n ≤ high → n < 2 ^ 64 → number_within low high (decimal n) ≡ Some n
unfolding number_within
number_again low high n above below small =
    let inside : (nat_le low n && nat_le n high) ≡ true = grind (arith, above, below) in
    rw (numeral_again n small, inside) refl

pub lettered_again : (letter low end n : ℕ) → low ≤ n → n < end → n < 2 ^ 64 → lettered letter low end (letter ∷ decimal n) ≡ Some n
unfolding lettered
lettered_again letter low end n above below small =
    let same : (letter == letter) ≡ true = grind arith in
    rw (same, number_again low (end - 1) n above (omega (arith, below)) small) refl

-- a word that begins with another letter
other_letter : (letter low end c : ℕ) (w : List ℕ) → (c == letter) ≡ false → lettered letter low end (c ∷ w) ≡ None
unfolding lettered
other_letter letter low end c w h = rw h refl

-- digits are a time as they are a number
digits_time : (w : List ℕ) → all_ascii_digits w ≡ true → 0 < length w → time_of w ≡ option_map pos (number_within 0 (2 ^ 63 - 1) w)
unfolding time_of
digits_time [] digits some = absurd (omega (arith, some))
digits_time (c ∷ w) digits some =
    let word : bytes_eq (c ∷ w) (codes "end") ≡ false = grind (arith, digits) in
    let sign : (c == 45) ≡ false = grind (arith, digits) in
    rw (word, sign) refl

pub time_again : (t : ℤ) → IsTime t → time_of (time_text t) ≡ Some t
unfolding time_of
time_again (pos n) fits = rw (time_spelled n) (go (n == 2 ^ 63 - 1) refl)
  where
    go : (b : Bool) → (n == 2 ^ 63 - 1) ≡ b → time_of (if b then codes "end" else decimal n) ≡ Some (pos n)
    go true h = let e : n ≡ 2 ^ 63 - 1 = grind (arith, h) in rw e refl
    go false h = digits_time (decimal n) (digits_decimal own n (omega (arith, fits))) (decimal_nonempty n (omega (arith, fits))) ∙ ap (λ o. option_map pos o) (number_again 0 (2 ^ 63 - 1) n (omega arith) (omega (arith, fits)) (omega (arith, fits)))
time_again (negsuc n) fits = rw (number_again 1 (2 ^ 63) (suc n) (omega arith) (omega (arith, fits)) (omega (arith, fits))) refl

upto_dot : (xs ys : List ℕ) → all_ascii_digits xs ≡ true → (before_first is_dot (xs ++ 46 ∷ ys) ≡ xs) × (after_first is_dot (xs ++ 46 ∷ ys) ≡ ys)
upto_dot [] ys digits = (refl, refl)
upto_dot (x ∷ xs) ys digits =
    let other : is_dot x ≡ false = grind (arith, digits) in
    let more : all_ascii_digits xs ≡ true = grind (arith, digits) in
    let ih = upto_dot xs ys more in
    let p : ℕ = position_or_len is_dot (xs ++ 46 ∷ ys) in
    let k : 1 + p ≡ suc p = omega arith in
    let m : (1 + p) + 1 ≡ suc (p + 1) = omega arith in
    rw other (rw m (rw k (ap (λ w. x ∷ w) ih.0, ih.1)))

moment_again : (t : ℤ) → IsMoment t → option_map pos (number_within 0 (2 ^ 63 - 2) (time_text t)) ≡ Some t
moment_again (pos n) fits =
    let other : (n == 2 ^ 63 - 1) ≡ false = grind (arith, fits) in
    rw (time_spelled n, other, number_again 0 (2 ^ 63 - 2) n (omega arith) (omega (arith, fits)) (omega (arith, fits))) refl
moment_again (negsuc n) fits = absurd fits

version_again : (v : Version) → IsVersion v → version_of (spell a_version v) ≡ Some v
unfolding version_of
version_again v f =
    let range : (nat_le 65 v.release && nat_le v.release 90) ≡ true = grind (arith, f.0, f.1) in
    let dot = upto_dot (decimal v.major) (decimal v.minor) (digits_decimal own v.major (omega (arith, f.2))) in
    ap version_of (version_spelled v) ∙ rw (range, dot.0, dot.1, number_again 0 255 v.major (omega arith) f.2 (omega (arith, f.2)), number_again 0 255 v.minor (omega arith) f.3 (omega (arith, f.3))) refl

id_again : (id : List ℕ) → IsBytes id → length id ≤ section_id_max → id_of (120 ∷ encode_lower id) ≡ Some id
unfolding id_of bytes_of
id_again id bytes short = let few : nat_le (length id) section_id_max ≡ true = grind (arith, short) in rw (decode_of-encode_lower id bytes, few) refl

new_id_again : (id : NewId) → IsNewId id → new_id_of (new_id_text id) ≡ Some id
unfolding new_id_of
new_id_again (new_ids.Given id) f = rw (id_again id f.0 f.1) refl
new_id_again new_ids.Generated f = refl

callbacks_again : (set : CallbackSet) → callbacks_of (callbacks_text set) ≡ Some set
unfolding callbacks_of
callbacks_again set = go set.opens set.syncs
  where
    go : (opens syncs : Bool) → callbacks_of (callbacks_text (record { opens = opens; syncs = syncs })) ≡ Some (record { opens = opens; syncs = syncs })
    go true true = refl
    go true false = refl
    go false true = refl
    go false false = refl

-- a dot among the bytes, and they are no digits
dotted : (xs ys : List ℕ) → all_ascii_digits (xs ++ 46 ∷ ys) ≡ false
dotted [] ys = refl
dotted (x ∷ xs) ys = let ih = dotted xs ys in grind (arith, ih)

not_number : (low high : ℕ) (xs ys : List ℕ) → number_within low high (xs ++ 46 ∷ ys) ≡ None
unfolding number_within numeral
not_number low high xs ys =
    go (starts_well (xs ++ 46 ∷ ys))
  where
    go : (b : Bool) → option_and_then (λ n. if nat_le low n && nat_le n high then Some n else None) (if b && all_ascii_digits (xs ++ 46 ∷ ys) then Some (digits_value 10 (xs ++ 46 ∷ ys)) else None) ≡ None
    go true = rw (dotted xs ys) refl
    go false = refl

dotted_letter : (letter low end : ℕ) (xs ys : List ℕ) → lettered letter low end (letter ∷ (xs ++ 46 ∷ ys)) ≡ None
unfolding lettered
dotted_letter letter low end xs ys =
    let same : (letter == letter) ≡ true = grind arith in
    rw (same, not_number low (end - 1) xs ys) refl

-- a letter in front of what a dot ends
behind_letter : (xs ys : List ℕ) → all_ascii_digits xs ≡ true → (before_first is_dot (99 ∷ (xs ++ 46 ∷ ys)) ≡ 99 ∷ xs) × (after_first is_dot (99 ∷ (xs ++ 46 ∷ ys)) ≡ ys)
behind_letter xs ys digits =
    let ih = upto_dot xs ys digits in
    let p : ℕ = position_or_len is_dot (xs ++ 46 ∷ ys) in
    let k : 1 + p ≡ suc p = omega arith in
    let m : (1 + p) + 1 ≡ suc (p + 1) = omega arith in
    rw m (rw k (ap (λ w. 99 ∷ w) ih.0, ih.1))

call_again : (c n : ℕ) → c < client_numbers → 1 ≤ n → n < 2 ^ 32 → named_call ((99 ∷ decimal c) ++ 46 ∷ decimal n) ≡ Some (record { actor = actor.Client c; number = n })
unfolding named_call
call_again c n few some small =
    let cut = behind_letter (decimal c) (decimal n) (digits_decimal own c (omega (arith, few))) in
    rw (cut.0, cut.1, lettered_again 99 0 client_numbers c (omega arith) few (omega (arith, few)), number_again 1 (2 ^ 32 - 1) n some (omega (arith, small)) (omega (arith, small))) refl

who_again : (who : Who) → IsWho who → who_of (who_text who) ≡ Some who
unfolding who_of
who_again (whose.Actor (actor.Client c)) f = rw (lettered_again 99 0 client_numbers c (omega arith) f (omega (arith, f))) refl
who_again (whose.Actor (actor.Node n)) f = rw (other_letter 99 0 client_numbers 110 (decimal n) refl, lettered_again 110 0 nodes_max n (omega arith) f (omega (arith, f))) refl
who_again (whose.Call call) f = go call.actor call.number f.0 f.1 f.2
  where
    go : (a : ActorName) (n : ℕ) → IsCaller a → 1 ≤ n → n < 2 ^ 32 → who_of (who_text (whose.Call (record { actor = a; number = n }))) ≡ Some (whose.Call (record { actor = a; number = n }))
    go (actor.Client c) n few some small = rw (call_spelled (record { actor = actor.Client c; number = n }), dotted_letter 99 0 client_numbers (decimal c) (decimal n), other_letter 110 0 nodes_max 99 (decimal c ++ 46 ∷ decimal n) refl, call_again c n few some small) refl
    go (actor.Node k) n few some small = absurd few

-- WHAT IS SPELLED is read again
pub again : (c : Class) → Good c → (v : Meaning c) → CanSay c v → read_word c (spell c v) ≡ Ok v
unfolding read_word bytes_of
again a_client g v f = rw (lettered_again 99 0 client_numbers v (omega arith) f (omega (arith, f))) refl
again a_node g v f = rw (lettered_again 110 0 nodes_max v (omega arith) f (omega (arith, f))) refl
again a_place g v f = rw (lettered_again 104 0 places_max v (omega arith) f (omega (arith, f))) refl
again an_iteration g v f = rw (lettered_again 105 0 places_max v (omega arith) f (omega (arith, f))) refl
again a_ckpt g v f = rw (lettered_again 75 1 ckpt_numbers v f.0 f.1 (omega (arith, f.1))) refl
again (a_number low high) g v f = rw (number_again low high v f.0 f.1 (omega (arith, f.1, g))) refl
again a_time g v f = rw (time_again v f) refl
again a_moment g v f = rw (moment_again v f) refl
again some_bytes g v f = rw (decode_of-encode_lower v f) refl
again an_id g v f = rw (id_again v f.0 f.1) refl
again a_new_id g v f = rw (new_id_again v f) refl
again a_version g v f = rw (version_again v f) refl
again the_callbacks g v f = rw (callbacks_again v) refl
again a_who g v f = rw (who_again v f) refl

-- the identifier of the default section is spelled `x`
pub default_id : read_word an_id (codes "x") ≡ Ok []
unfolding encode_with
default_id = again an_id tt [] (λ i. omega arith, omega arith)
