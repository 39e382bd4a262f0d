-- Keys tell the order of identifiers, and the key of a number's identifier is that number.
use Rattle.std.proofs.Common.{◌≡◌, ℕ, zero, suc, ◌+◌, ◌*◌, ◌^◌, ◌<◌, ◌≤◌, List, [], ◌∷◌, length, nat_eq, get_or, drop, Less, Equal, Greater, true, false, sym, ap, ◌∙◌, refl, inl, inr, arith}
use Rattle.std.specs.Cmp.{nat_cmp_is}
use Rattle.std.specs.Ordering.{nat_cmp, ordering_then}
use Rattle.std.proofs.lemmas.Nat.{from_be_bytes-to_be_bytes_8, be_bytes_8}
use Rattle.std.specs.Cmp.Lexicographic.{pointwise, bytes_decides}
use Rattle.std.proofs.lemmas.Bool.{cases_lt, cases_eq, ne_eqb}
use Rattle.std.specs.Int.{from_be_bytes, w64}
use Rattle.ckpt_types.specs.Sections.{id_cmp}
use Rattle.ckpt_types.specs.Updates.{numbered_id}
use Rattle.ckpt_types.proofs.Presence.{id_cmp_turned}
use Rattle.section_store.specs.Keys.{key_from, key_of, AreBytes}

-- the first of the bytes, and those behind it
pub key_from-next : (number count : ℕ) (bytes : List ℕ) → key_from number (suc count) bytes ≡ key_from (number * 256 + get_or bytes 0 0) count (drop 1 bytes)
key_from-next number count [] = ap (λ n. key_from n count []) (omega arith)
key_from-next number count (b ∷ bytes) = refl

-- a byte at a place is the first of those from there on
pub get_or-drop : (bytes : List ℕ) (i : ℕ) → get_or (drop i bytes) 0 0 ≡ get_or bytes i 0
get_or-drop [] zero = refl
get_or-drop [] (suc i) = refl
get_or-drop (b ∷ bytes) zero = refl
get_or-drop (b ∷ bytes) (suc i) = get_or-drop bytes i

-- those behind the first from a place on are those from the next place on
pub drop-drop : (bytes : List ℕ) (i : ℕ) → drop 1 (drop i bytes) ≡ drop (suc i) bytes
drop-drop [] zero = refl
drop-drop [] (suc i) = refl
drop-drop (b ∷ bytes) zero = refl
drop-drop (b ∷ bytes) (suc i) = drop-drop bytes i

-- one more of both leaves their order
nat_cmp-suc : (m n : ℕ) → nat_cmp m n ≡ nat_cmp (suc m) (suc n)
nat_cmp-suc m n = grind arith

-- so many bytes, and no less
abbrev AreFirst : ℕ → List ℕ → Type 0
AreFirst count bytes = (i : ℕ) → i < count → get_or bytes i 0 < 256

AreFirst-tail : (count b : ℕ) (bytes : List ℕ) → AreFirst (suc count) (b ∷ bytes) → AreFirst count bytes
AreFirst-tail count b bytes are = λ i lt. are (suc i) (omega arith)

AreFirst-none : (count : ℕ) → AreFirst count []
AreFirst-none count = λ i lt. omega arith

-- a lower number stays lower, whatever bytes are behind both
key_from-apart : (count m n : ℕ) (xs ys : List ℕ) → AreFirst count xs → m < n → key_from m count xs < key_from n count ys
key_from-apart zero m n xs ys are lt = lt
key_from-apart (suc count) m n [] [] are lt = key_from-apart count (m * 256) (n * 256) [] [] (AreFirst-none count) (omega arith)
key_from-apart (suc count) m n [] (y ∷ ys) are lt = key_from-apart count (m * 256) (n * 256 + y) [] ys (AreFirst-none count) (omega arith)
key_from-apart (suc count) m n (x ∷ xs) [] are lt =
    let small : x < 256 = are 0 (omega arith) in
    key_from-apart count (m * 256 + x) (n * 256) xs [] (AreFirst-tail count x xs are) (omega arith)
key_from-apart (suc count) m n (x ∷ xs) (y ∷ ys) are lt =
    let small : x < 256 = are 0 (omega arith) in
    key_from-apart count (m * 256 + x) (n * 256 + y) xs ys (AreFirst-tail count x xs are) (omega arith)

-- zeros are not above other bytes
key_from-zeros : (count m n : ℕ) (ys : List ℕ) → m ≤ n → key_from m count [] ≤ key_from n count ys
key_from-zeros zero m n ys le = le
key_from-zeros (suc count) m n [] le = key_from-zeros count (m * 256) (n * 256) [] (omega arith)
key_from-zeros (suc count) m n (y ∷ ys) le = key_from-zeros count (m * 256) (n * 256 + y) ys (omega arith)

-- bytes that make a lower number stand before the others
key_from-less : (count number : ℕ) (xs ys : List ℕ) → AreFirst count ys → key_from number count xs < key_from number count ys → id_cmp xs ys ≡ Less
key_from-less zero number xs ys are lt = absurd (omega arith)
key_from-less (suc count) number [] [] are lt = absurd (omega arith)
key_from-less (suc count) number [] (y ∷ ys) are lt = refl
key_from-less (suc count) number (x ∷ xs) [] are lt =
    let not_above = key_from-zeros count (number * 256) (number * 256 + x) xs (omega arith) in
    absurd (omega arith)
key_from-less (suc count) number (x ∷ xs) (y ∷ ys) are lt =
    elim (nat_cmp x y) as (λ o. nat_cmp x y ≡ o → ordering_then o (id_cmp xs ys) ≡ Less) [
      | Less ↦ λ is. refl
      | Equal ↦ λ is.
          let same : x ≡ y = grind arith in
          key_from-less count (number * 256 + y) xs ys (AreFirst-tail count y ys are) (omega (arith, ap (λ b. key_from (number * 256 + b) count xs) same))
      | Greater ↦ λ is.
          let above : y < x = grind arith in
          let over = key_from-apart count (number * 256 + y) (number * 256 + x) ys xs (AreFirst-tail count y ys are) (omega arith) in
          absurd (omega arith)
    ] refl

-- the identifier with the lower key stands first
pub key_of-less : (x y : List ℕ) → AreBytes y → key_of x < key_of y → id_cmp x y ≡ Less
key_of-less x y are lt = key_from-less 8 0 x y are lt

pub key_of-greater : (x y : List ℕ) → AreBytes x → key_of y < key_of x → id_cmp x y ≡ Greater
key_of-greater x y are lt = id_cmp_turned y x Less (key_of-less y x are lt)

-- of bytes that make the same number, and are no more than it tells, the shorter stand first
key_from-equal : (count number : ℕ) (xs ys : List ℕ) → AreFirst count xs → AreFirst count ys → length xs ≤ count → length ys ≤ count → key_from number count xs ≡ key_from number count ys → id_cmp xs ys ≡ nat_cmp (length xs) (length ys)
key_from-equal count number [] [] firsts others short_xs short_ys same = refl
key_from-equal count number [] (y ∷ ys) firsts others short_xs short_ys same = nat_cmp_is 0 (suc (length ys)) Less (omega arith)
key_from-equal count number (x ∷ xs) [] firsts others short_xs short_ys same = nat_cmp_is (suc (length xs)) 0 Greater (omega arith)
key_from-equal zero number (x ∷ xs) (y ∷ ys) firsts others short_xs short_ys same = absurd (omega arith)
key_from-equal (suc count) number (x ∷ xs) (y ∷ ys) firsts others short_xs short_ys same =
    elim (nat_cmp x y) as (λ o. nat_cmp x y ≡ o → ordering_then o (id_cmp xs ys) ≡ nat_cmp (suc (length xs)) (suc (length ys))) [
      | Less ↦ λ is.
          let below : x < y = grind arith in
          let under = key_from-apart count (number * 256 + x) (number * 256 + y) xs ys (AreFirst-tail count x xs firsts) (omega arith) in
          absurd (omega arith)
      | Equal ↦ λ is.
          let equal : x ≡ y = grind arith in
          let rest = key_from-equal count (number * 256 + y) xs ys (AreFirst-tail count x xs firsts) (AreFirst-tail count y ys others) (omega arith) (omega arith) (ap (λ b. key_from (number * 256 + b) count xs) (sym equal) ∙ same) in
          rest ∙ nat_cmp-suc (length xs) (length ys)
      | Greater ↦ λ is.
          let above : y < x = grind arith in
          let over = key_from-apart count (number * 256 + y) (number * 256 + x) ys xs (AreFirst-tail count y ys others) (omega arith) in
          absurd (omega arith)
    ] refl

-- of two identifiers of one key that have no more bytes than it tells, the shorter stands first
pub key_of-equal : (x y : List ℕ) → AreBytes x → AreBytes y → length x ≤ 8 → length y ≤ 8 → key_of x ≡ key_of y → id_cmp x y ≡ nat_cmp (length x) (length y)
key_of-equal x y firsts others short_x short_y same = key_from-equal 8 0 x y firsts others short_x short_y same

-- of eight bytes the key is the number that they are
key_of-eight : (bytes : List ℕ) → length bytes ≡ 8 → key_of bytes ≡ from_be_bytes w64 bytes
key_of-eight (a ∷ b ∷ c ∷ d ∷ e ∷ f ∷ g ∷ h ∷ []) eight = omega arith
key_of-eight [] eight = absurd (omega arith)
key_of-eight (a ∷ []) eight = absurd (omega arith)
key_of-eight (a ∷ b ∷ []) eight = absurd (omega arith)
key_of-eight (a ∷ b ∷ c ∷ []) eight = absurd (omega arith)
key_of-eight (a ∷ b ∷ c ∷ d ∷ []) eight = absurd (omega arith)
key_of-eight (a ∷ b ∷ c ∷ d ∷ e ∷ []) eight = absurd (omega arith)
key_of-eight (a ∷ b ∷ c ∷ d ∷ e ∷ f ∷ []) eight = absurd (omega arith)
key_of-eight (a ∷ b ∷ c ∷ d ∷ e ∷ f ∷ g ∷ []) eight = absurd (omega arith)
key_of-eight (a ∷ b ∷ c ∷ d ∷ e ∷ f ∷ g ∷ h ∷ i ∷ bytes) eight = absurd (omega arith)

-- behind the last byte there are zeros
get_or-behind : (bytes : List ℕ) (i : ℕ) → length bytes ≤ i → get_or bytes i 0 ≡ 0
get_or-behind [] i le = refl
get_or-behind (b ∷ bytes) zero le = absurd (omega arith)
get_or-behind (b ∷ bytes) (suc i) le = get_or-behind bytes i (omega arith)

-- eight bytes are the identifier of the number that is their key
pub numbered_id-key_of : (bytes : List ℕ) (n : ℕ) → AreBytes bytes → length bytes ≡ 8 → n ≡ key_of bytes → numbered_id n ≡ bytes
numbered_id-key_of bytes n are eight is =
    be_bytes_8 bytes n eight (λ i. elim (cases_lt i 8) [ inl lt ↦ are i lt | inr ge ↦ omega (arith, get_or-behind bytes i (omega arith)) ]) (is ∙ key_of-eight bytes eight)

-- the key of a number's identifier
pub key_of-numbered_id : (n : ℕ) → n < 2 ^ 64 → key_of (numbered_id n) ≡ n
key_of-numbered_id n fits = omega (arith, from_be_bytes-to_be_bytes_8 n fits)

-- of the bytes with a key, those of its number are eight
pub is_numbered_id : (bytes : List ℕ) (n : ℕ) → AreBytes bytes → n ≡ key_of bytes → nat_eq (length bytes) 8 ≡ pointwise nat_eq bytes (numbered_id n)
is_numbered_id bytes n are is = elim (cases_eq (length bytes) 8) [
  | inl eight ↦ ap (λ m. nat_eq m 8) eight ∙ sym ((bytes_decides bytes (numbered_id n)).1 (sym (numbered_id-key_of bytes n are eight is)))
  | inr other ↦ ne_eqb (length bytes) 8 other ∙ sym (elim (pointwise nat_eq bytes (numbered_id n)) as (λ b. pointwise nat_eq bytes (numbered_id n) ≡ b → b ≡ false) [
    | true ↦ λ same. absurd (other (ap length ((bytes_decides bytes (numbered_id n)).0 same)))
    | false ↦ λ apart. refl
  ] refl)
]
