-- What lies in a buffer at the places of strings, where bytes or places are changed.
use Rattle.std.proofs.Common.{◌≡◌, ◌≢◌, ℕ, zero, suc, ◌+◌, ◌-◌, ◌<◌, ◌≤◌, List, [], ◌∷◌, ◌++◌, ◌⊎◌, length, take, drop, replicate, get_or, set, inl, inr, sym, ap, subst, ◌∙◌, refl, arith, length-append}
use Rattle.std.specs.Prelude.{sum_by}
use Rattle.std.proofs.lemmas.Grind.{same_number_lists}
use Rattle.std.proofs.lemmas.Bool.{cases_lt, cases_eq}
use Rattle.std.proofs.lemmas.List.{get_or-take, get_or-drop, get_or_append_left, get_or-append_right, length-take-le, length-drop, length-replicate, append-nil, take_all, length-set, get_or-set_other, get_or-set_same, get_or_default, get_or-map}
use Rattle.std.proofs.lemmas.List.Sums.{sum_by-cons}
use Rattle.section_store.specs.declared.extents.Extent.{Extent}
use Rattle.section_store.specs.Extents.{no_extent, bytes_at, strings_in, extent_at, end_of, AreApart, AreLaid}
use Rattle.section_store.specs.RegionState.{with_string, resized}

-- ---- bytes

-- a string that lies in the buffer has its length
pub length-bytes_at : (b : List ℕ) (s len : ℕ) → s + len ≤ length b → length (take len (drop s b)) ≡ len
length-bytes_at b s len within = length-take-le len (drop s b) (omega (arith, length-drop s b))

-- the byte at a place of a string
pub get_or-bytes_at : (b : List ℕ) (s len k : ℕ) → k < len → get_or (take len (drop s b)) k 0 ≡ get_or b (s + k) 0
get_or-bytes_at b s len k lt = get_or-take len (drop s b) k 0 lt ∙ get_or-drop s b k 0

-- a string lies at one place where the same bytes lie at another
pub bytes_at-moved : (b b' : List ℕ) (s s' len : ℕ) → s + len ≤ length b → s' + len ≤ length b' → ((k : ℕ) → k < len → get_or b' (s' + k) 0 ≡ get_or b (s + k) 0) → take len (drop s' b') ≡ take len (drop s b)
bytes_at-moved b b' s s' len within within' same =
    let long = length-bytes_at b' s' len within' in
    same_number_lists (take len (drop s' b')) (take len (drop s b)) (long ∙ sym (length-bytes_at b s len within))
    (λ k lt. let lt_len : k < len = omega (arith, long) in get_or-bytes_at b' s' len k lt_len ∙ same k lt_len ∙ sym (get_or-bytes_at b s len k lt_len))

-- a string that is cut is its first bytes
pub resized-cut : (len : ℕ) (x : List ℕ) → len ≤ length x → resized len x ≡ take len x
resized-cut len x short =
    let none : len - length (take len x) ≡ 0 = omega (arith, length-take-le len x short) in
    ap (λ n. take len x ++ replicate n 0) none ∙ append-nil (take len x)

-- a string that is cut has the same first bytes
pub bytes_at-cut : (b b' : List ℕ) (s s' len cut : ℕ) → s + len ≤ length b → cut ≤ len → s' + cut ≤ length b' → ((k : ℕ) → k < cut → get_or b' (s' + k) 0 ≡ get_or b (s + k) 0) → take cut (drop s' b') ≡ resized cut (take len (drop s b))
bytes_at-cut b b' s s' len cut within shorter within' same =
    let x = take len (drop s b) in
    let long : length x ≡ len = length-bytes_at b s len within in
    let long' : length (take cut (drop s' b')) ≡ cut = length-bytes_at b' s' cut within' in
    let first : take cut (drop s' b') ≡ take cut x =
    same_number_lists (take cut (drop s' b')) (take cut x) (long' ∙ sym (length-take-le cut x (omega arith)))
    (λ k lt.
    let lt_cut : k < cut = omega arith in
    get_or-bytes_at b' s' cut k lt_cut ∙ same k lt_cut ∙ sym (get_or-take cut x k 0 lt_cut ∙ get_or-bytes_at b s len k (omega arith))) in
    first ∙ sym (resized-cut cut x (omega arith))

-- a zero among zeros, and behind them
get_or-zeros : (n k : ℕ) → get_or (replicate {A = ℕ} n 0) k 0 ≡ 0
get_or-zeros zero zero = refl
get_or-zeros zero (suc k) = refl
get_or-zeros (suc n) zero = refl
get_or-zeros (suc n) (suc k) = get_or-zeros n k

-- a longer string has the same first bytes, and zeros behind them
pub bytes_at-grown : (b b' : List ℕ) (s s' len grown : ℕ) → s + len ≤ length b → len ≤ grown → s' + grown ≤ length b' → ((k : ℕ) → k < len → get_or b' (s' + k) 0 ≡ get_or b (s + k) 0) → ((k : ℕ) → len ≤ k → k < grown → get_or b' (s' + k) 0 ≡ 0)
    → take grown (drop s' b') ≡ resized grown (take len (drop s b))
bytes_at-grown b b' s s' len grown within longer within' same zeros =
    let x = take len (drop s b) in
    let long : length x ≡ len = length-bytes_at b s len within in
    let whole : take grown x ≡ x = take_all grown x (omega arith) in
    let y = x ++ replicate (grown - length x) 0 in
    let is : resized grown x ≡ y = ap (λ z. z ++ replicate (grown - length z) 0) whole in
    let long_y : length y ≡ grown = omega (arith, length-append x (replicate (grown - length x) 0), length-replicate {A = ℕ} (grown - length x) 0) in
    let long' : length (take grown (drop s' b')) ≡ grown = length-bytes_at b' s' grown within' in
    same_number_lists (take grown (drop s' b')) y (long' ∙ sym long_y)
    (λ k lt.
    let lt_grown : k < grown = omega arith in
    elim (cases_lt k len) [
      | inl first ↦ get_or-bytes_at b' s' grown k lt_grown ∙ same k first ∙ sym (get_or_append_left x (replicate (grown - length x) 0) 0 k (omega arith) ∙ get_or-bytes_at b s len k first)
      | inr behind ↦ get_or-bytes_at b' s' grown k lt_grown ∙ zeros k behind lt_grown ∙ sym (get_or-append_right x (replicate (grown - length x) 0) len k 0 long behind ∙ get_or-zeros (grown - length x) (k - len))
    ]) ∙ sym is

-- ---- strings

-- the strings are the same where each lies there
pub strings_in-same : (b b' : List ℕ) (es es' : List Extent) → length es' ≡ length es → ((k : ℕ) → k < length es → bytes_at b' (extent_at k es') ≡ bytes_at b (extent_at k es)) → strings_in b' es' ≡ strings_in b es
strings_in-same b b' [] [] len same = refl
strings_in-same b b' [] (e' ∷ es') len same = absurd (omega arith)
strings_in-same b b' (e ∷ es) [] len same = absurd (omega arith)
strings_in-same b b' (e ∷ es) (e' ∷ es') len same =
    let first : bytes_at b' e' ≡ bytes_at b e = same 0 (omega arith) in
    let rest : strings_in b' es' ≡ strings_in b es = strings_in-same b b' es es' (omega arith) (λ k lt. same (suc k) (omega arith)) in
    λ i. first i ∷ rest i

-- one string is changed where each other one lies there
pub strings_in-changed : (b b' : List ℕ) (change : List ℕ → List ℕ) (es es' : List Extent) (p : ℕ) → length es' ≡ length es → p < length es → ((k : ℕ) → k < length es → k ≢ p → bytes_at b' (extent_at k es') ≡ bytes_at b (extent_at k es)) → bytes_at b' (extent_at p es') ≡ change (bytes_at b (extent_at p es))
    → strings_in b' es' ≡ with_string change p (strings_in b es)
strings_in-changed b b' change [] es' p len there same here = absurd (omega arith)
strings_in-changed b b' change (e ∷ es) [] p len there same here = absurd (omega arith)
strings_in-changed b b' change (e ∷ es) (e' ∷ es') zero len there same here =
    let rest : strings_in b' es' ≡ strings_in b es = strings_in-same b b' es es' (omega arith) (λ k lt. same (suc k) (omega arith) (omega arith)) in
    λ i. here i ∷ rest i
strings_in-changed b b' change (e ∷ es) (e' ∷ es') (suc p) len there same here =
    let first : bytes_at b' e' ≡ bytes_at b e = same 0 (omega arith) (omega arith) in
    let rest : strings_in b' es' ≡ with_string change p (strings_in b es) = strings_in-changed b b' change es es' p (omega arith) (omega arith) (λ k lt other. same (suc k) (omega arith) (omega arith)) here in
    λ i. first i ∷ rest i

-- one string lies elsewhere and is changed, and each other one lies where it lay
pub strings_in-set : (b b' : List ℕ) (change : List ℕ → List ℕ) (es : List Extent) (p : ℕ) (e' : Extent) → p < length es → ((k : ℕ) → k < length es → k ≢ p → bytes_at b' (extent_at k es) ≡ bytes_at b (extent_at k es)) → bytes_at b' e' ≡ change (bytes_at b (extent_at p es))
    → strings_in b' (set es p e') ≡ with_string change p (strings_in b es)
strings_in-set b b' change es p e' there same here =
    let none : Extent = no_extent in
    strings_in-changed b b' change es (set es p e') p (length-set es p e') there
    (λ k lt other. ap (bytes_at b') (get_or-set_other es p k e' none other) ∙ same k lt other)
    (ap (bytes_at b') (get_or-set_same es p e' none there) ∙ here)

-- the extent that is read at a place is that of the place
pub extent_read : (es : List Extent) (p : ℕ) (e : Extent) → p < length es → e ≡ get_or es p e → extent_at p es ≡ e
extent_read es p e there is = get_or_default es p no_extent e there ∙ sym is

-- a string that lies before an end lies there still where all bytes before the end are as they were
pub bytes_at-before : (b b' : List ℕ) (e : Extent) (end : ℕ) → end_of e ≤ end → end ≤ length b → end ≤ length b' → ((i : ℕ) → i < end → get_or b' i 0 ≡ get_or b i 0) → bytes_at b' e ≡ bytes_at b e
bytes_at-before b b' e end before within within' same = bytes_at-moved b b' e.start e.start e.len (omega arith) (omega arith) (λ k lt. same (e.start + k) (omega arith))

-- ---- where strings lie

-- the extent at a place, whatever is read behind all
pub extent_at-any : (es : List Extent) (k : ℕ) (d : Extent) → k < length es → get_or es k d ≡ extent_at k es
extent_at-any es k d lt = get_or_default es k d no_extent lt

-- two strings are apart in either order
pub AreApart-sym : (a e : Extent) → AreApart a e → AreApart e a
AreApart-sym a e (inl before) = inr before
AreApart-sym a e (inr behind) = inl behind

-- a string that is moved lies apart from the others, where it is put apart from them
pub AreLaid-set : (end end' : ℕ) (es : List Extent) (p : ℕ) (e' : Extent) → AreLaid end es → p < length es → ((k : ℕ) → k < length es → k ≢ p → end_of (extent_at k es) ≤ end') → ((k : ℕ) → k < length es → k ≢ p → AreApart e' (extent_at k es)) → end_of e' ≤ end' → (e'.len ≡ 0 → e'.start ≡ 0)
    → AreLaid end' (set es p e')
AreLaid-set end end' es p e' laid there within apart here empty =
    let size : length (set es p e') ≡ length es = length-set es p e' in
    record {
      within = λ k d lt. let lt_es : k < length es = omega arith in elim (cases_eq k p) [
        | inl same ↦ subst (λ x. end_of x ≤ end') (sym (at_place k d same)) here
        | inr other ↦ subst (λ x. end_of x ≤ end') (sym (elsewhere k d other lt_es)) (within k lt_es other)
      ];
      apart = λ j k d differ lt_j lt_k. let lt_j' : j < length es = omega arith in let lt_k' : k < length es = omega arith in elim (cases_eq j p) [
        | inl same_j ↦
            let other_k : k ≢ p = λ is. differ (same_j ∙ sym is) in
            subst (λ x. AreApart x (get_or (set es p e') k d)) (sym (at_place j d same_j)) (subst (λ y. AreApart e' y) (sym (elsewhere k d other_k lt_k')) (apart k lt_k' other_k))
        | inr other_j ↦ elim (cases_eq k p) [
          | inl same_k ↦ subst (λ x. AreApart x (get_or (set es p e') k d)) (sym (elsewhere j d other_j lt_j')) (subst (λ y. AreApart (extent_at j es) y) (sym (at_place k d same_k)) (AreApart-sym e' (extent_at j es) (apart j lt_j' other_j)))
          | inr other_k ↦ subst (λ x. AreApart x (get_or (set es p e') k d)) (sym (get_or-set_other es p j e' d other_j)) (subst (λ y. AreApart (get_or es j d) y) (sym (get_or-set_other es p k e' d other_k)) (laid.apart j k d differ lt_j' lt_k'))
        ]
      ];
      empty = λ k d lt. let lt_es : k < length es = omega arith in elim (cases_eq k p) [
        | inl same ↦ subst (λ x. x.len ≡ 0 → x.start ≡ 0) (sym (at_place k d same)) empty
        | inr other ↦ subst (λ x. x.len ≡ 0 → x.start ≡ 0) (sym (get_or-set_other es p k e' d other)) (laid.empty k d lt_es)
      ];
    }
  where
    at_place : (k : ℕ) (d : Extent) → k ≡ p → get_or (set es p e') k d ≡ e'
    at_place k d same = ap (λ n. get_or (set es p e') n d) same ∙ get_or-set_same es p e' d there

    elsewhere : (k : ℕ) (d : Extent) → k ≢ p → k < length es → get_or (set es p e') k d ≡ extent_at k es
    elsewhere k d other lt = get_or-set_other es p k e' d other ∙ extent_at-any es k d lt

-- ---- a string is cut

-- the buffer stays, or ends where the string that was its last one is cut
abbrev pub IsCutBuffer : List ℕ → List ℕ → Extent → ℕ → Type 0
IsCutBuffer b b' e cut = (b' ≡ b) ⊎ ((b' ≡ take (e.start + cut) b) × (end_of e ≡ length b))

-- what the cut of a buffer leaves before an end
pub cut-first : (b b' : List ℕ) (e : Extent) (cut : ℕ) → IsCutBuffer b b' e cut → cut ≤ e.len → end_of e ≤ length b → (e.start + cut ≤ length b') × (length b' ≤ length b) × ((i : ℕ) → i < length b' → get_or b' i 0 ≡ get_or b i 0)
cut-first b b' e cut (inl same) shorter within = (omega (arith, ap length same), omega (arith, ap length same), λ i lt. ap (λ x. get_or x i 0) same)
cut-first b b' e cut (inr is) shorter within =
    let size : length b' ≡ e.start + cut = ap length is.0 ∙ length-take-le (e.start + cut) b (omega arith) in
    (omega arith, omega arith, λ i lt. ap (λ x. get_or x i 0) is.0 ∙ get_or-take (e.start + cut) b i 0 (omega arith))

-- another string lies in front of where the buffer is cut
pub cut-within : (b b' : List ℕ) (e a : Extent) (cut : ℕ) → IsCutBuffer b b' e cut → cut ≤ e.len → end_of e ≤ length b → AreApart e a → end_of a ≤ length b → (a.len ≡ 0 → a.start ≡ 0) → end_of a ≤ length b'
cut-within b b' e a cut (inl same) shorter within apart before empty = omega (arith, ap length same)
cut-within b b' e a cut (inr is) shorter within apart before empty =
    let size : length b' ≡ e.start + cut = ap length is.0 ∙ length-take-le (e.start + cut) b (omega arith) in
    elim apart [
      | inl behind ↦ let none : a.len ≡ 0 = omega (arith, is.1) in let zero_start = empty none in omega arith
      | inr front ↦ omega arith
    ]

-- one string lies elsewhere, and all others where they lay
pub strings_in-set-same : (b b' : List ℕ) (es : List Extent) (p : ℕ) (e' : Extent) → p < length es → ((k : ℕ) → k < length es → k ≢ p → bytes_at b' (extent_at k es) ≡ bytes_at b (extent_at k es)) → bytes_at b' e' ≡ bytes_at b (extent_at p es)
    → strings_in b' (set es p e') ≡ strings_in b es
strings_in-set-same b b' es p e' there same here =
    let none : Extent = no_extent in
    strings_in-same b b' es (set es p e') (length-set es p e')
    (λ k lt. elim (cases_eq k p) [
      | inl at ↦ ap (λ n. bytes_at b' (extent_at n (set es p e'))) at ∙ ap (bytes_at b') (get_or-set_same es p e' none there) ∙ here ∙ ap (λ n. bytes_at b (extent_at n es)) (sym at)
      | inr other ↦ ap (bytes_at b') (get_or-set_other es p k e' none other) ∙ same k lt other
    ])

-- the strings have as many bytes together as their extents say
pub sum-strings_in : (b : List ℕ) (es : List Extent) → ((k : ℕ) → k < length es → end_of (extent_at k es) ≤ length b) → sum_by length (strings_in b es) ≡ sum_by (λ e. e.len) es
sum-strings_in b [] within = refl
sum-strings_in b (e ∷ es) within =
    let first : length (bytes_at b e) ≡ e.len = length-bytes_at b e.start e.len (within 0 (omega arith)) in
    omega (arith, sum_by-cons length (bytes_at b e) (strings_in b es), sum_by-cons (λ (x : Extent). x.len) e es, sum-strings_in b es (λ k lt. within (suc k) (omega arith)))

-- where the strings are the same, each has its length
pub same_lengths : (b b' : List ℕ) (es es' : List Extent) (k : ℕ) → end_of (extent_at k es) ≤ length b → end_of (extent_at k es') ≤ length b' → k < length es → length es' ≡ length es → strings_in b' es' ≡ strings_in b es → (extent_at k es').len ≡ (extent_at k es).len
same_lengths b b' es es' k within within' lt size same =
    let none : Extent = no_extent in
    let e = extent_at k es in
    let e' = extent_at k es' in
    let here : bytes_at b' e' ≡ bytes_at b e = sym (get_or-map (bytes_at b') es' k none [] (omega arith)) ∙ ap (λ xs. get_or xs k []) same ∙ get_or-map (bytes_at b) es k none [] lt in
    sym (length-bytes_at b' e'.start e'.len within') ∙ ap length here ∙ length-bytes_at b e.start e.len within
