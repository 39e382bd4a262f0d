-- Extents that stand in another order, each of which tells its place, and what brings them back.
use Rattle.std.proofs.Common.{◌≡◌, ◌≢◌, ℕ, zero, suc, ◌+◌, ◌-◌, ◌<◌, ◌≤◌, ◌⊎◌, List, [], length, get_or, set, inl, inr, refl, sym, ap, subst, ◌∙◌, arith, All, IsPermutation, swap}
use Rattle.std.specs.List.Sorted.{IsNonDecreasingBy}
use Rattle.std.proofs.lemmas.Bool.{cases_eq}
use Rattle.std.proofs.lemmas.List.{length-set, get_or-set_other, get_or-set_same, get_or-map, length-map}
use Rattle.std.proofs.lemmas.List.Edits.{swap_is, length-swap}
use Rattle.std.proofs.lemmas.List.Sorted.{All-permutation, length_permutation, IsPermutation-keeps}
use Rattle.section_store.specs.declared.extents.Extent.{Extent}
use Rattle.section_store.specs.Extents.{no_extent, bytes_at, strings_in, extent_at, end_of, AreApart, AreLaid}
use Rattle.section_store.specs.RegionState.{string_at}
use Rattle.section_store.specs.Packing.{TellPlaces}
use Rattle.section_store.proofs.ExtentLemmas.{strings_in-same, extent_at-any}

-- ---- what holds of any two elements

-- it holds of each two that stand at different places
abbrev pub AnyTwo : {X : Type 0} → (X → X → Type 0) → List X → Type 0
AnyTwo {X} R xs = (j k : ℕ) (d : X) → j ≢ k → j < length xs → k < length xs → R (get_or xs j d) (get_or xs k d)

-- where an element stood that stands at a place when two have changed theirs
abbrev IsFrom : ℕ → ℕ → ℕ → ℕ → Type 0
IsFrom i j m n = ((m ≡ j) × (n ≡ i)) ⊎ (((m ≢ j) × (m ≡ i) × (n ≡ j)) ⊎ ((m ≢ j) × (m ≢ i) × (n ≡ m)))

-- two that stood at one place stand at one
from_other : (i j a b m n : ℕ) → IsFrom i j a m → IsFrom i j b n → m ≡ n → a ≡ b
from_other i j a b m n (inl x) (inl y) same = omega (arith, x, y)
from_other i j a b m n (inl x) (inr (inl y)) same = omega (arith, x, y)
from_other i j a b m n (inl x) (inr (inr y)) same = absurd (y.1 (omega (arith, x, y.2)))
from_other i j a b m n (inr (inl x)) (inl y) same = omega (arith, x, y)
from_other i j a b m n (inr (inl x)) (inr (inl y)) same = omega (arith, x, y)
from_other i j a b m n (inr (inl x)) (inr (inr y)) same = absurd (y.0 (omega (arith, x.2, y.2)))
from_other i j a b m n (inr (inr x)) (inl y) same = absurd (x.1 (omega (arith, x.2, y)))
from_other i j a b m n (inr (inr x)) (inr (inl y)) same = absurd (x.0 (omega (arith, x.2, y.2)))
from_other i j a b m n (inr (inr x)) (inr (inr y)) same = omega (arith, x.2, y.2)

module _ {X : Type 0} where
  from_place : (l : List X) (i j : ℕ) (d : X) → i < length l → j < length l → (m : ℕ) → m < length l → (n : ℕ) × (n < length l) × (get_or (set (set l i (get_or l j d)) j (get_or l i d)) m d ≡ get_or l n d) × IsFrom i j m n
  from_place l i j d p q m lt =
      let w = set l i (get_or l j d) in
      let size : length w ≡ length l = length-set l i (get_or l j d) in
      elim (cases_eq m j) [
        | inl at_j ↦ (i, p, ap (λ k. get_or (set w j (get_or l i d)) k d) at_j ∙ get_or-set_same w j (get_or l i d) d (omega arith), inl (at_j, refl))
        | inr not_j ↦ elim (cases_eq m i) [
          | inl at_i ↦ (j, q, get_or-set_other w j m (get_or l i d) d not_j ∙ ap (λ k. get_or w k d) at_i ∙ get_or-set_same l i (get_or l j d) d p, inr (inl (not_j, at_i, refl)))
          | inr not_i ↦ (m, lt, get_or-set_other w j m (get_or l i d) d not_j ∙ get_or-set_other l i m (get_or l j d) d not_i, inr (inr (not_j, not_i, refl)))
        ]
      ]

  -- it holds still where two have changed their places
  AnyTwo-swap : (R : X → X → Type 0) (l : List X) (i j : ℕ) → i < length l → j < length l → AnyTwo R l → AnyTwo R (swap l i j)
  AnyTwo-swap R l i j p q h a b d differ lt_a lt_b =
      let w = set l i (get_or l j d) in
      let is : set w j (get_or l i d) ≡ swap l i j = swap_is l i j d p q in
      let size : length (swap l i j) ≡ length l = length-swap l i j in
      let from_a = from_place l i j d p q a (omega arith) in
      let from_b = from_place l i j d p q b (omega arith) in
      subst (λ ys. R (get_or ys a d) (get_or ys b d)) is (subst (λ x. R x (get_or (set w j (get_or l i d)) b d)) (sym from_a.2) (subst (R (get_or l from_a.0 d)) (sym from_b.2)
      (h from_a.0 from_b.0 d (λ same. differ (from_other i j a b from_a.0 from_b.0 from_a.3 from_b.3 same)) from_a.1 from_b.1)))

  -- and in any other order
  pub AnyTwo-permutation : (R : X → X → Type 0) (xs ys : List X) → IsPermutation xs ys → AnyTwo R xs → AnyTwo R ys
  AnyTwo-permutation R xs ys moved h = IsPermutation-keeps xs (AnyTwo R) h (AnyTwo-swap R) ys moved

-- ---- numbers that rise

-- numbers that rise, each below how many there are, are those from 0 on
pub counts_up : (n : ℕ) (p : ℕ → ℕ) → ((k : ℕ) → k < n → p k < n) → ((k : ℕ) → suc k < n → p k < p (suc k)) → (k : ℕ) → k < n → p k ≡ k
counts_up n p below rise k lt =
    let low : k ≤ p k = from_below k lt in
    let high : p k + (n - 1 - k) < n = subst (λ m. p m + (n - 1 - k) < n) (let at : n - 1 - (n - 1 - k) ≡ k = omega arith in at) (from_above (n - 1 - k) (omega arith)) in
    omega arith
  where
    from_below : (k : ℕ) → k < n → k ≤ p k
    from_below zero lt = omega arith
    from_below (suc k) lt = omega (arith, from_below k (omega arith), rise k lt)

    from_above : (m : ℕ) → m < n → p (n - 1 - m) + m < n
    from_above zero lt = omega (arith, below (n - 1 - zero) (omega arith))
    from_above (suc m) lt =
        let next : suc (n - 1 - suc m) ≡ n - 1 - m = omega arith in
        omega (arith, from_above m (omega arith), rise (n - 1 - suc m) (omega arith), ap p next)

-- ---- extents in another order

-- the strings lie as they lay
pub AreLaid-permutation : (end : ℕ) (es es' : List Extent) → IsPermutation es es' → AreLaid end es → AreLaid end es'
AreLaid-permutation end es es' moved laid = record {
  within = All-permutation (λ e. end_of e ≤ end) es es' moved laid.within;
  apart = AnyTwo-permutation AreApart es es' moved laid.apart;
  empty = All-permutation (λ e. e.len ≡ 0 → e.start ≡ 0) es es' moved laid.empty;
}

-- each extent tells the place of its string, and each place is told once
pub record StandFor (strings : List (List ℕ)) (b : List ℕ) (es : List Extent) : Type 0 where
  pub number : length es ≡ length strings
  pub bytes : All (λ e. bytes_at b e ≡ string_at e.place strings) es
  pub places : All (λ e. e.place < length strings) es
  pub differ : AnyTwo (λ e a. e.place ≢ a.place) es

-- they do where each tells the place at which it stands
pub told-StandFor : (b : List ℕ) (old es : List Extent) → TellPlaces old es → StandFor (strings_in b old) b es
told-StandFor b old es told =
    let size : length (strings_in b old) ≡ length old = length-map old (bytes_at b) in
    let place : (k : ℕ) (d : Extent) → k < length es → (get_or es k d).place ≡ k = λ k d lt. ap (λ e. e.place) (extent_at-any es k d lt) ∙ ap (λ e. e.place) (told.each k (omega (arith, told.len))) in
    record {
      number = told.len ∙ sym size;
      bytes = λ k d lt.
          let there : k < length old = omega (arith, told.len) in
          ap (bytes_at b) (extent_at-any es k d lt ∙ told.each k there) ∙ sym (get_or-map (bytes_at b) old k no_extent [] there) ∙ ap (λ n. string_at n (strings_in b old)) (sym (place k d lt));
      places = λ k d lt. omega (arith, place k d lt, told.len);
      differ = λ j k d other lt_j lt_k same. other (sym (place j d lt_j) ∙ same ∙ place k d lt_k);
    }

-- the strings of extents that tell their places are those of the extents before
pub told-strings : (b : List ℕ) (old es : List Extent) → TellPlaces old es → strings_in b es ≡ strings_in b old
told-strings b old es told = strings_in-same b b old es told.len (λ k lt. ap (bytes_at b) (told.each k lt))

-- they lie as they lay
pub told-AreLaid : (end : ℕ) (old es : List Extent) → TellPlaces old es → AreLaid end old → AreLaid end es
told-AreLaid end old es told laid =
    let read : (k : ℕ) (d : Extent) → k < length es → get_or es k d ≡ record (extent_at k old) { place = k } = λ k d lt. extent_at-any es k d lt ∙ told.each k (omega (arith, told.len)) in
    record {
      within = λ k d lt. subst (λ e. end_of e ≤ end) (sym (read k d lt)) (laid.within k no_extent (omega (arith, told.len)));
      apart = λ j k d other lt_j lt_k.
          subst (λ e. AreApart e (get_or es k d)) (sym (read j d lt_j)) (subst (λ a. AreApart (record (extent_at j old) { place = j }) a) (sym (read k d lt_k)) (laid.apart j k no_extent other (omega (arith, told.len)) (omega (arith, told.len))));
      empty = λ k d lt. subst (λ e. e.len ≡ 0 → e.start ≡ 0) (sym (read k d lt)) (laid.empty k no_extent (omega (arith, told.len)));
    }

-- they do in any other order
pub StandFor-permutation : (strings : List (List ℕ)) (b : List ℕ) (es es' : List Extent) → IsPermutation es es' → StandFor strings b es → StandFor strings b es'
StandFor-permutation strings b es es' moved is = record {
  number = length_permutation es es' moved ∙ is.number;
  bytes = All-permutation (λ e. bytes_at b e ≡ string_at e.place strings) es es' moved is.bytes;
  places = All-permutation (λ e. e.place < length strings) es es' moved is.places;
  differ = AnyTwo-permutation (λ e a. e.place ≢ a.place) es es' moved is.differ;
}

-- they do where each string lies elsewhere
pub StandFor-moved : (strings : List (List ℕ)) (b b' : List ℕ) (es es' : List Extent) → length es' ≡ length es → strings_in b' es' ≡ strings_in b es → ((k : ℕ) → (extent_at k es').place ≡ (extent_at k es).place) → StandFor strings b es → StandFor strings b' es'
StandFor-moved strings b b' es es' len same told is =
    let place : (k : ℕ) (d : Extent) → k < length es' → (get_or es' k d).place ≡ (extent_at k es).place = λ k d lt. ap (λ e. e.place) (extent_at-any es' k d lt) ∙ told k in
    record {
      number = len ∙ is.number;
      bytes = λ k d lt.
          sym (get_or-map (bytes_at b') es' k d [] lt) ∙ ap (λ xs. get_or xs k []) same ∙ get_or-map (bytes_at b) es k no_extent [] (omega (arith, len))
          ∙ is.bytes k no_extent (omega (arith, len)) ∙ ap (λ n. string_at n strings) (sym (place k d lt));
      places = λ k d lt. omega (arith, place k d lt, is.places k no_extent (omega (arith, len)));
      differ = λ j k d other lt_j lt_k met. is.differ j k no_extent other (omega (arith, len)) (omega (arith, len)) (sym (place j d lt_j) ∙ met ∙ place k d lt_k);
    }

-- in the order of the places that they tell, each stands at its place
pub StandFor-back : (strings : List (List ℕ)) (b : List ℕ) (es : List Extent) → StandFor strings b es → IsNonDecreasingBy (λ e. e.place) es → (k : ℕ) → k < length es → (extent_at k es).place ≡ k
StandFor-back strings b es is up =
    counts_up (length es) (λ k. (extent_at k es).place)
    (λ k lt. omega (arith, is.places k no_extent lt, is.number))
    (λ k lt.
    let differ : (extent_at k es).place ≢ (extent_at (suc k) es).place = is.differ k (suc k) no_extent (λ same. omega arith) (omega arith) lt in
    let le : (extent_at k es).place ≤ (extent_at (suc k) es).place = up k (suc k) no_extent (omega arith) lt in
    omega arith)

-- and the strings are again in the order of their places
pub StandFor-strings : (b0 : List ℕ) (old : List Extent) (b : List ℕ) (es : List Extent) → StandFor (strings_in b0 old) b es → IsNonDecreasingBy (λ e. e.place) es → strings_in b es ≡ strings_in b0 old
StandFor-strings b0 old b es is up =
    let size : length es ≡ length old = is.number ∙ length-map old (bytes_at b0) in
    strings_in-same b0 b old es size
    (λ k lt. is.bytes k no_extent (omega arith) ∙ ap (λ n. string_at n (strings_in b0 old)) (StandFor-back (strings_in b0 old) b es is up k (omega arith)) ∙ get_or-map (bytes_at b0) old k no_extent [] lt)
