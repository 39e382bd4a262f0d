-- Strings that are moved down one after the other, in the order in which they end: those that are moved lie together, and the
-- others where they lay.
use Rattle.std.proofs.Common.{◌≡◌, ◌≢◌, ℕ, ◌+◌, ◌<◌, ◌≤◌, ◌⊎◌, List, length, set, inl, inr, ap, ◌∙◌, arith}
use Rattle.std.specs.List.Sorted.{IsNonDecreasingBy}
use Rattle.std.proofs.lemmas.Bool.{cases_eq, cases_lt}
use Rattle.std.proofs.lemmas.List.{get_or-set_other, get_or-set_same}
use Rattle.section_store.specs.Extents.{no_extent, extent_at, end_of, AreApart, AreLaid}
use Rattle.section_store.specs.declared.extents.Extent.{Extent}

-- the strings from a place on lie where they lay, behind an end, and those in front of it before that end
pub record IsSliding (old : List Extent) (i end : ℕ) (es : List Extent) : Type 0 where
  pub done : (k : ℕ) → k < i → k < length old → end_of (extent_at k es) ≤ end
  pub todo : (k : ℕ) → i ≤ k → k < length old → (extent_at k es ≡ extent_at k old) × (end ≤ (extent_at k old).start)

-- the string at a place can be moved down to an end: it lies where it lay, behind that end, and each other string before it or behind this one
pub record CanSlide (old : List Extent) (place end : ℕ) (es : List Extent) : Type 0 where
  pub there : place < length es
  pub same : extent_at place es ≡ extent_at place old
  pub down : end ≤ (extent_at place es).start
  pub free : (k : ℕ) → k < length es → k ≢ place → (end_of (extent_at k es) ≤ end) ⊎ (end_of (extent_at place es) ≤ (extent_at k es).start)

-- of two strings that share no byte, one that ends no earlier starts behind the other
pub starts_behind : (a e : Extent) → AreApart a e → (e.len ≡ 0 → e.start ≡ 0) → end_of e ≤ end_of a → end_of e ≤ a.start
starts_behind a e (inr before) empty later = before
starts_behind a e (inl behind) empty later =
    let none : e.len ≡ 0 = omega arith in
    let zero_start = empty none in
    omega arith

-- a string that is left lies behind the first of those that are left
left_behind : (old es : List Extent) (size end i k : ℕ) → IsNonDecreasingBy end_of old → length es ≡ length old → AreLaid size es → IsSliding old i end es → i < k → k < length old → end_of (extent_at i es) ≤ (extent_at k es).start
left_behind old es size end i k rise len laid was above lt =
    let here = was.todo i (omega arith) (omega arith) in
    let there = was.todo k (omega arith) lt in
    let later : end_of (extent_at i es) ≤ end_of (extent_at k es) = omega (arith, rise i k no_extent (omega arith) lt, ap end_of here.0, ap end_of there.0) in
    let differ : k ≢ i = λ same. omega arith in
    starts_behind (extent_at k es) (extent_at i es) (laid.apart k i no_extent differ (omega arith) (omega arith)) (laid.empty i no_extent (omega arith)) later

-- the first string of those that are left can be moved down
pub sliding-can : (old es : List Extent) (size end i : ℕ) → IsNonDecreasingBy end_of old → length es ≡ length old → AreLaid size es → i < length old → IsSliding old i end es → CanSlide old i end es
sliding-can old es size end i rise len laid lt was =
    let here = was.todo i (omega arith) lt in
    record {
      there = omega arith;
      same = here.0;
      down = omega (arith, here.1, ap (λ e. e.start) here.0);
      free = λ k lt_k other. elim (cases_lt k i) [
        | inl front ↦ inl (was.done k front (omega arith))
        | inr from ↦ inr (left_behind old es size end i k rise len laid was (omega arith) (omega arith))
      ];
    }

-- it is moved down
pub sliding-next : (old es : List Extent) (size end i : ℕ) (e' : Extent) → IsNonDecreasingBy end_of old → length es ≡ length old → AreLaid size es → i < length old → IsSliding old i end es → e'.start ≡ end → e'.len ≡ (extent_at i es).len
    → IsSliding old (i + 1) (end + e'.len) (set es i e')
sliding-next old es size end i e' rise len laid lt was start same_len =
    let here = was.todo i (omega arith) lt in
    record {
      done = λ k below lt_k. elim (cases_eq k i) [
        | inl at ↦ omega (arith, ap (λ n. end_of (extent_at n (set es i e'))) at, ap end_of (get_or-set_same es i e' no_extent (omega arith)))
        | inr other ↦ omega (arith, was.done k (omega arith) lt_k, ap end_of (get_or-set_other es i k e' no_extent other))
      ];
      todo = λ k from lt_k.
          let there = was.todo k (omega arith) lt_k in
          let behind = left_behind old es size end i k rise len laid was (omega arith) lt_k in
          let other : k ≢ i = λ same. omega arith in
          (get_or-set_other es i k e' no_extent other ∙ there.0, omega (arith, behind, here.1, ap (λ e. e.start) here.0, ap (λ e. e.start) there.0));
    }
